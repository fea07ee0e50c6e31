-- Where control can come to.
use Rattle.std.specs.Prelude.{◌≡◌, ◌⊎◌, ℕ, zero, suc, ◌+◌, ◌<◌, ◌≤◌, slice_get, length, Some}
use Rattle.ap_instr.specs.declared.instruction.Instr.{Instr}
use Rattle.ap_instr.specs.declared.instruction.Instr.TheVariants.{Execute, Proceed, Jump, Fail, Try, Retry, Trust, CheckGround, CheckIndep}
use Rattle.ap_instr.specs.declared.compiled.Predicate.{Predicate}
use Rattle.ap_instr.specs.Code.{Compiled}
use Rattle.ap_instr.specs.StandsFor.{clause_places}
use Rattle.ap_codecheck.specs.Shape.{Shape, entry, after}

-- an instruction of the predicate stands at the place
pub record IsPlaceOf (code : Compiled) (p : Predicate) (at : ℕ) : Type 0 where
  pub from : p.start ≤ at
  pub before : at < p.end
  pub held : at < length code.instructions

-- An instruction at a place leads to another place: a check to the one behind it where it holds, and to the one that it
-- names where it doesn't.
abbrev pub Leads : Instr → ℕ → ℕ → Type 0
Leads (Jump l) at to = to ≡ l
Leads (Execute q) at to = ⊥
Leads Proceed at to = ⊥
Leads Fail at to = ⊥
Leads (Try l) at to = ⊥
Leads (Retry l) at to = ⊥
Leads (Trust l) at to = ⊥
Leads (CheckGround v l) at to = (to ≡ at + 1) ⊎ (to ≡ l)
Leads (CheckIndep v w l) at to = (to ≡ at + 1) ⊎ (to ≡ l)
Leads i at to = to ≡ at + 1

-- a path of so many instructions from a place and shape to another
abbrev pub Path : Compiled → ℕ → ℕ → Shape → ℕ → Shape → Type 0
Path code zero at s to t = (at ≡ to) × (s ≡ t)
Path code (suc n) at s to t =
    (i : Instr) × (next : ℕ) × (slice_get code.instructions at ≡ Some i) × Leads i at next × Path code n next (after i s) to t

-- a clause of the predicate begins at a place
abbrev pub Begins : Compiled → Predicate → ℕ → Type 0
Begins code p at = (k : ℕ) × (slice_get (clause_places code p) k ≡ Some at)

-- control can come to the place with the shape, in a clause of the predicate
abbrev pub Reaches : Compiled → Predicate → ℕ → Shape → Type 0
Reaches code p to t = (at n : ℕ) × Begins code p at × Path code n at (entry p.arity) to t

-- between a predicate's `try` and the place there are `retry`s alone, so another clause has to be tried at the place
pub record Awaits (code : Compiled) (p : Predicate) (at : ℕ) : Type 0 where
  pub first : ℕ
  pub tries : slice_get code.instructions p.start ≡ Some (Try first)
  pub behind : p.start < at
  pub between : (k : ℕ) → p.start < k → k < at → (l : ℕ) × (slice_get code.instructions k ≡ Some (Retry l))
