use Rattle.ap_laws.proofs.Ways.{SameState-children}
use Rattle.ap_laws.proofs.Names.{IsBelow-children}
use Rattle.ap_laws.proofs.children_law.Goals as goal

pub returns : goal.returns
returns c = λ p good. (SameState-children p good, IsBelow-children p good)
