use Rattle.ap_term.proofs.SearchLaws.{cut-append}
use Rattle.ap_term.proofs.laws.cut_law.Goals as goal

pub returns : goal.returns
returns c = cut-append
