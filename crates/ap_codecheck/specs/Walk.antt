-- Code as a compiler lays it out: each clause can be judged as a list of instructions.
use Rattle.std.specs.Prelude.{◌≡◌, ℕ, zero, suc, ◌+◌, ◌-◌, ◌≤◌, Bool, true, false, List, [], ◌∷◌, take, drop, slice_get, Option, Some, None}
use Rattle.ap_instr.specs.declared.instruction.Instr.{Instr}
use Rattle.ap_instr.specs.declared.instruction.Instr.TheVariants.{Execute, Proceed, Jump, Fail, Try, Retry, Trust, CheckGround, CheckIndep}
use Rattle.ap_instr.specs.declared.compiled.Predicate.{Predicate}
use Rattle.ap_instr.specs.Code.{Compiled}
use Rattle.ap_instr.specs.StandsFor.{clause_places}
use Rattle.ap_codecheck.specs.Shape.{Shape, entry, after}
use Rattle.ap_codecheck.specs.Paths.{IsPlaceOf}
use Rattle.ap_codecheck.specs.Rules.{InRange, GoesInside, ReadsSet, FitsEnvironment, IsInTurn, FitsGroup, GoesOn, CallsKnown, At}
use Rattle.ap_codecheck.specs.Judged.{AreAwaited}

-- an instruction that leads to the one behind it
abbrev pub is_inner : Instr → Bool
is_inner (Execute q) = false
is_inner Proceed = false
is_inner (Jump l) = false
is_inner Fail = false
is_inner (Try l) = false
is_inner (Retry l) = false
is_inner (Trust l) = false
is_inner _ = true

-- the place that an instruction leads to beside
abbrev pub elsewhere : Instr → Option ℕ
elsewhere (Jump l) = Some l
elsewhere (CheckGround v l) = Some l
elsewhere (CheckIndep v w l) = Some l
elsewhere _ = None

-- the instruction at the place keeps the rules at a shape
pub record Fits (code : Compiled) (i : Instr) (at : ℕ) (s : Shape) : Type 0 where
  pub reads : ReadsSet code i s
  pub environment : FitsEnvironment i s
  pub turn : IsInTurn i s
  pub group : FitsGroup i s.group
  pub on : GoesOn i at

-- Instructions from a place on, the first n of which are passed over, keep the rules one by one, from a shape to the end of
-- each path.
abbrev pub Walks : Compiled → ℕ → ℕ → List Instr → Shape → Type 0
Walks code at n [] s = ⊥
Walks code at (suc n) (i ∷ is) s = Walks code (at + 1) n is s
Walks code at zero (i ∷ is) s =
    Fits code i at s × (is_inner i ≡ true → Walks code (at + 1) 0 is (after i s)) × ((l : ℕ) → elsewhere i ≡ Some l → Walks code (at + 1) (l - (at + 1)) is (after i s))

-- a clause of the predicate that begins at a place
abbrev pub WalksFrom : Compiled → Predicate → ℕ → Type 0
WalksFrom code p at = (p.start ≤ at) × Walks code at 0 (drop at (take p.end code.instructions)) (entry p.arity)

-- a predicate as it is laid out
pub record IsLaid (code : Compiled) (p : Predicate) : Type 0 where
  pub start : IsPlaceOf code p p.start
  pub range : (at : ℕ) → IsPlaceOf code p at → At code at (InRange code)
  pub inside : (at : ℕ) → IsPlaceOf code p at → At code at (GoesInside code p)
  pub known : (at : ℕ) → IsPlaceOf code p at → At code at (CallsKnown code)
  pub choices : AreAwaited code p
  pub clauses : (k l : ℕ) → slice_get (clause_places code p) k ≡ Some l → WalksFrom code p l
