use Rattle.std.proofs.Common.{◌≡◌, length, arith, get_or}
use Rattle.ap_index.specs.declared.rows.Entry.TheVariants.{Nothing}
use Rattle.ap_index.proofs.Left.{more-rows, pushed-is}
use Rattle.ap_index.proofs.rows.Rows.push_row.Goals as goal

pub returns-clause-same : goal.returns-clause-same
returns-clause-same c = λ code h.
    let old = c.args.self.now in
    record { entries = λ q. more-rows code old.rows.items c.push.new.self.items c.args.row old.links.items q (get_or old.entries.items q Nothing) c.in_ok-push.ensures.items (h.entries q) }

pub returns-clause-held : goal.returns-clause-held
returns-clause-held c =
    let old = c.args.self.now in
    let number : c.in-Ok.number ≡ length old.rows.items = omega (arith, c.len.ensures, c.in-Ok.ensures, old.rows.ok.0) in
    pushed-is old.rows.items c.push.new.self.items c.args.row c.in-Ok.number c.in_ok-push.ensures.items number
