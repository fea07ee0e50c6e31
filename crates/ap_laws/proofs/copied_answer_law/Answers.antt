use Rattle.ap_laws.proofs.CopiedAnswers.{copied}
use Rattle.ap_laws.proofs.copied_answer_law.Goals as goal

pub returns : goal.returns
returns c = copied
