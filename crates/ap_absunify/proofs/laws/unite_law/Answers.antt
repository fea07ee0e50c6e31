use Rattle.ap_absunify.proofs.Unite.{unite-left, unite-right}
use Rattle.ap_absunify.proofs.laws.unite_law.Goals as goal

pub returns : goal.returns
returns c = λ s r f. (unite-left s r f, unite-right s r f)
