use Rattle.ap_alike.proofs.Groups.{made-alike}
use Rattle.ap_alike.proofs.Same.{one-alike}
use Rattle.ap_alike.proofs.laws.alike_law.Goals as goal

pub returns : goal.returns
returns c = record { made = made-alike; one = one-alike }
