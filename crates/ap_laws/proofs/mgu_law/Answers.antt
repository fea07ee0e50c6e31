use Rattle.std.proofs.Common.{◌≡◌, true}
use Rattle.ap_laws.specs.Renaming.{Linked}
use Rattle.ap_laws.proofs.Renamed.{Renamed-mgu}
use Rattle.ap_laws.proofs.Local.{Local-mgu}
use Rattle.ap_laws.proofs.Ways.{IsOneToOne-Linked}
use Rattle.ap_laws.proofs.mgu_law.Goals as goal

pub returns : goal.returns
returns c = (λ f g n m t u t' u' h k. Renamed-mgu (Linked f g n m) (IsOneToOne-Linked f g n m) t t' u u' h k, λ kind t u h k. Local-mgu (λ x. kind x ≡ true) t u h k)
