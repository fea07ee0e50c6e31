use Rattle.std.proofs.Common.{◌+◌, ◌*◌, ◌/◌, ◌%◌, ◌^◌, ap₂}
use Rattle.ap_index.specs.Hashing.{pair_slot}
use Rattle.ap_index.proofs.hashing.pair_slot.Goals as goal

pub returns : goal.returns
unfolding pair_slot
returns c = ap₂ (λ p q. (p * 2246822507 % 2 ^ 32 + q) % 2 ^ 32 * c.args.slots / 2 ^ 32) c.args.one.made c.args.two.made
