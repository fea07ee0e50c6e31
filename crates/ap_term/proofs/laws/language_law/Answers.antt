use Rattle.ap_term.proofs.Language.{language}
use Rattle.ap_term.proofs.laws.language_law.Goals as goal

pub returns : goal.returns
returns c = language
