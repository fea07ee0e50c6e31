-- The clauses that instructions name.
use Rattle.std.proofs.Common.{◌≡◌, ℕ, zero, suc, ◌≤◌, List, [], ◌∷◌, length, drop, refl, arith}
use Rattle.ap_instr.specs.declared.instruction.Instr.{Instr}
use Rattle.ap_instr.specs.declared.instruction.Instr.TheVariants.{Retry, Trust}
use Rattle.ap_instr.specs.StandsFor.{tried}

pub tried-other : (i : Instr) (is : List Instr) → ((l : ℕ) → i ≡ Retry l → ⊥) → ((l : ℕ) → i ≡ Trust l → ⊥) → tried (i ∷ is) ≡ []
tried-other (Retry l) is r t = absurd (r l refl)
tried-other (Trust l) is r t = absurd (t l refl)
tried-other i is r t = refl

pub drop-beyond : (is : List Instr) (at : ℕ) → length is ≤ at → drop at is ≡ []
drop-beyond [] zero l = refl
drop-beyond [] (suc n) l = refl
drop-beyond (i ∷ is) zero l = absurd (omega arith)
drop-beyond (i ∷ is) (suc n) l = drop-beyond is n (omega arith)
