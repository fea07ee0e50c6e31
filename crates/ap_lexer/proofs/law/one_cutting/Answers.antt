use Rattle.ap_lexer.proofs.Cutting.{has_one}
use Rattle.ap_lexer.proofs.law.one_cutting.Goals as goal

pub returns : goal.returns
returns c = has_one
