use Rattle.std.proofs.Common.{◌≡◌, true}
use Rattle.ap_laws.proofs.Ways.{Renamed-ways, Local-ways}
use Rattle.ap_laws.proofs.ways_law.Goals as goal

pub returns : goal.returns
returns c = λ p good. (λ f g n m forth back t u h. Renamed-ways f g n m forth back p good t u h, λ kind n t h new. Local-ways (λ x. kind x ≡ true) p good n t h new)
