use Rattle.std.proofs.Common.{◌*◌, ◌/◌, ◌^◌, ap}
use Rattle.ap_index.specs.Hashing.{slot_of}
use Rattle.ap_index.proofs.hashing.Hashed.slot.Goals as goal

pub returns-clause-is : goal.returns-clause-is
unfolding slot_of
returns-clause-is c = ap (λ h. h * c.args.slots / 2 ^ 32) c.args.self.made
