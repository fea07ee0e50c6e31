use Rattle.std.proofs.Common.{sym, ap, ◌∙◌}
use Rattle.ap_cells.specs.Tops.{topped}
use Rattle.ap_checks.proofs.Pairs.{apart_by_count}
use Rattle.ap_checks.proofs.identity.compare_tops.Goals as goal

pub returns-then-m-n-2 : goal.returns-then-m-n-2
returns-then-m-n-2 c ts e =
    apart_by_count ts c.in-Node.a c.in-Node-right.b c.in-Node.p c.in-Node-right.q c.in-Node.m c.in-Node-right.n c.if-m-n-2.true
    (sym (ap (topped ts) c.in-Node.is) ∙ e ∙ ap (topped ts) c.in-Node-right.is)
