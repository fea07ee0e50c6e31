-- A test that tells the loud goals tells each one that may meet a fault.
use Rattle.std.proofs.Common.{◌≡◌, ℕ, Bool, true, false, refl, sym, ◌∙◌}
use Rattle.std.proofs.lemmas.Bool.{false≢true, true_from_ne_false}
use Rattle.ap_term.specs.Tree.{Tree}
use Rattle.ap_term.specs.WellFormed.{callable}
use Rattle.ap_laws.proofs.Quiet.{quiet}
use Rattle.ap_core.specs.Heeding.{HeedLaw}

pub heeds : HeedLaw
heeds p good loud h g e b = quiet p good g (true_from_ne_false (callable g) (λ c. false≢true (sym e ∙ h.0 g c))) (λ l. false≢true (sym e ∙ h.1 g l)) b
