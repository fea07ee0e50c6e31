use Rattle.std.proofs.Common.{◌<◌, length, get_or, ap, sym, ◌∙◌, arith}
use Rattle.std.proofs.Math.ListN.{set}
use Rattle.ap_absunify.specs.declared.states.State.TheVariants.{Unreachable}
use Rattle.ap_patterns.specs.declared.tables.Row.{Row}
use Rattle.ap_patterns.specs.Table.{place_of}
use Rattle.ap_patterns.proofs.Rows.{set_row-there}
use Rattle.ap_patterns.proofs.tables.Table.set_success.Goals as goal

pub returns-then-i-rows : goal.returns-then-i-rows
returns-then-i-rows c =
    let new : Row = record { predicate = c.args.predicate; call = Unreachable; success = c.args.pattern } in
    let e = c.position-i.ensures in
    let k = ap length c.rows.ensures in
    let h : place_of c.args.self.now c.args.predicate < length c.args.self.now = omega arith in
    c.change_success.ensures new
    ∙ ap (λ i. set c.args.self.now i (record (get_or c.args.self.now i new) { success = c.args.pattern })) e
    ∙ sym (set_row-there (λ r. record r { success = c.args.pattern }) new c.args.self.now new c.args.predicate h)
