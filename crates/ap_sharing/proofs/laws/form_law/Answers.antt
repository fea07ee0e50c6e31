use Rattle.ap_sharing.proofs.Covers.{normal-norm, norm-normal, same_share-true, same_share-made}
use Rattle.ap_sharing.proofs.laws.form_law.Goals as goal

pub returns : goal.returns
returns c = record { equal = λ a b. (same_share-true a b, same_share-made a b); normal = normal-norm; same = norm-normal }
