use Rattle.ap_udg.proofs.OneAnnotation.{one-annotated}
use Rattle.ap_udg.proofs.laws.one_annotated_law.Goals as goal

pub returns : goal.returns
returns c = one-annotated
