use Rattle.std.proofs.Common.{length, ap}
use Rattle.std.specs.HashMap.{get}
use Rattle.ap_patterns.specs.Table.{is_key}
use Rattle.ap_patterns.proofs.Rows.{placed-push}
use Rattle.ap_patterns.proofs.tables.Table.push.Goals as goal

pub invariant_of-self-in-Ok : goal.invariant_of-self-in-Ok
invariant_of-self-in-Ok c p =
    placed-push (get is_key c.self.inside.places) (get is_key c.add_place.new.places) c.self.inside.rows.items c.push.new.self.items c.args.row c.key_of-key.result (length c.as_slice-place.result.now) p
    c.self.invariant c.in-Ok.ensures.added c.key_of-key.ensures (ap length c.as_slice-place.ensures.value) c.in_ok-push.ensures.items
