-- What tests answer.
use Rattle.std.proofs.Common.{◌≡◌, ◌∙◌, Bool, true, false, sym}
use Rattle.std.proofs.lemmas.Bool.{false≢true}

pub no_two : {A : Type 0} (b : Bool) → b ≡ true → b ≡ false → A
no_two b h k = absurd (false≢true (sym k ∙ h))
