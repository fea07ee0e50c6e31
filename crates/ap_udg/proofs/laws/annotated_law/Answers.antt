use Rattle.ap_udg.proofs.Annotations.{annotated}
use Rattle.ap_udg.proofs.laws.annotated_law.Goals as goal

pub returns : goal.returns
returns c = annotated
