use Rattle.std.proofs.Common.{sym, ap, ◌∙◌}
use Rattle.ap_term.specs.Substitution.{instance}
use Rattle.ap_cells.specs.Trees.{step}
use Rattle.ap_unify.proofs.Works.{node-count}
use Rattle.ap_unify.proofs.unification.compared.Goals as goal

pub returns-then-m-n-2 : goal.returns-then-m-n-2
returns-then-m-n-2 c ts i j g e =
    node-count g ts c.in-Node.a c.in-Node-right-4.b c.in-Node.p c.in-Node-right-4.q c.in-Node.m c.in-Node-right-4.n c.if-m-n-2.true
    (sym (ap (λ d. instance g (step ts i d)) c.in-Node.is) ∙ e ∙ ap (λ d. instance g (step ts j d)) c.in-Node-right-4.is)
