use Rattle.std.proofs.Common.{◌<◌, length, ap, sym, ◌∙◌, arith}
use Rattle.ap_patterns.specs.declared.tables.Row.{Row}
use Rattle.ap_patterns.proofs.Rows.{found_at-set}
use Rattle.ap_patterns.proofs.tables.Table.change_call.Goals as goal

pub invariant_of-self : goal.invariant_of-self
invariant_of-self c p =
    let new : Row = record { predicate = c.index_mut.result.now.predicate; call = c.args.pattern; success = c.index_mut.result.now.success } in
    let e = ap length c.self.view_is in
    let h : c.args.i < length c.self.inside.rows.items = omega (arith, c.requires, e) in
    c.self.invariant p ∙ sym (found_at-set c.self.inside.rows.items c.args.i new c.index_mut.result.now p h (ap (λ r. r.predicate) c.index_mut.ensures.value))
