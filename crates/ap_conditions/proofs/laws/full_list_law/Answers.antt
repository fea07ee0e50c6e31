use Rattle.ap_conditions.proofs.Listed.{listed-full, full-listed}
use Rattle.ap_conditions.proofs.laws.full_list_law.Goals as goal

pub returns : goal.returns
returns c = λ goals k w. (listed-full goals k, full-listed goals k w)
