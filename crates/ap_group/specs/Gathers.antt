-- How a group's code is run: its checks are asked one after another, and its goals are pushed.
use Rattle.std.specs.Prelude.{◌≡◌, ℕ, zero, suc, ◌+◌, ◌<◌, Bool, true, false, List, [], ◌∷◌, ◌++◌, length, slice_get, Some}
use Rattle.ap_term.specs.Independence.{IsGround, SharesNoVariable}
use Rattle.ap_cells.specs.declared.cells.Raw.{Raw}
use Rattle.ap_cells.specs.Trees.{tree_at, trees}
use Rattle.ap_instr.specs.declared.instruction.Slot.{Slot}
use Rattle.ap_instr.specs.declared.instruction.Instr.{Instr}
use Rattle.ap_instr.specs.declared.instruction.Instr.TheVariants.{CheckGround, CheckIndep, AllocParcall}
use Rattle.ap_instr.specs.declared.compiled.Predicate.{Predicate}
use Rattle.ap_instr.specs.Code.{Compiled}
use Rattle.ap_instr.specs.Step.{Step, check_ground, check_indep, group, push, wait}
use Rattle.ap_instr.specs.Steps.{steps_from}
use Rattle.ap_instr.specs.Groups.{otherwise}
use Rattle.ap_instr.specs.Runs.{read, AsksOpenly}
use Rattle.ap_steps.specs.Moves.{held, Moves, IsStuck}
use Rattle.ap_group.specs.Groups.{Pushed}

-- a group begins at the place: a check of it stands there, or its first goal is to be pushed
abbrev pub BeginsGroup : Instr → Type 0
BeginsGroup (CheckGround v l) = Unit {0}
BeginsGroup (CheckIndep v w l) = Unit {0}
BeginsGroup (AllocParcall n l) = Unit {0}
BeginsGroup _ = ⊥

abbrev pub IsGroupAt : Compiled → ℕ → Type 0
IsGroupAt code at = (i : Instr) × (slice_get code.instructions at ≡ Some i) × BeginsGroup i

-- n places from register a on
abbrev pub places_from : (ℕ → ℕ) → ℕ → ℕ → List ℕ
places_from x a zero = []
places_from x a (suc n) = x a ∷ places_from x (a + 1) n

-- From some steps to others, past checks that hold of these registers.
pub data Passes (cs : List Raw) (x y : ℕ → ℕ) (is : List Step) : List Step → Type 0 where
  begins : Passes cs x y is is
  is_ground : {js : List Step} (v : Slot) → Passes cs x y is (check_ground v ∷ js) → read v x y < length cs → IsGround (tree_at (trees cs) (read v x y)) → Passes cs x y is js
  are_apart : {js : List Step} (v w : Slot) → Passes cs x y is (check_indep v w ∷ js) → read v x y < length cs → read w x y < length cs
      → SharesNoVariable (tree_at (trees cs) (read v x y)) (tree_at (trees cs) (read w x y)) → Passes cs x y is js

-- From cells, registers and steps behind a group's checks to others: its goals are pushed one behind the other, and instructions
-- between them move as ever.
pub data Gathers (code : Compiled) (cs : List Raw) (x y : ℕ → ℕ) (is : List Step) : List Raw → (ℕ → ℕ) → (ℕ → ℕ) → List Step → List Pushed → Type 0 where
  there : Gathers code cs x y is cs x y is []
  pushes : {ds : List Raw} {a b : ℕ → ℕ} {js : List Step} {ps : List Pushed} (number : ℕ) (q : Predicate) → Gathers code cs x y is ds a b (push q.name q.arity ∷ js) ps
      → slice_get code.predicates number ≡ Some q → ((w : ℕ) → a w < length ds) → Gathers code cs x y is ds a b js (ps ++ record { predicate = number; arguments = places_from a 1 q.arity } ∷ [])
  moves : {ds es : List Raw} {a b c d : ℕ → ℕ} {hs js : List Step} {ps : List Pushed} → Gathers code cs x y is ds a b hs ps → Moves ds a b hs es c d js
      → (AsksOpenly hs → AsksOpenly js) → Gathers code cs x y is es c d js ps

-- All checks of the group at a place hold, and its goals, as many as it says, were pushed up to its end, which stands at the place `to`.
pub record IsGathered (code : Compiled) (at : ℕ) (cs : List Raw) (x y : List ℕ) (to : ℕ) (ds : List Raw) (x' y' : List ℕ) (ps : List Pushed) : Type 0 where
  pub behind : List Step
  pub passes : Passes cs (held x) (held y) (steps_from code at) (group (length ps) ∷ behind)
  pub gathers : Gathers code cs (held x) (held y) behind ds (held x') (held y') (wait ∷ steps_from code (to + 1)) ps

-- a check of these registers doesn't hold
abbrev pub FailsCheck : List Raw → (ℕ → ℕ) → (ℕ → ℕ) → Instr → Type 0
FailsCheck cs x y (CheckGround v l) = IsGround (tree_at (trees cs) (read v x y)) → ⊥
FailsCheck cs x y (CheckIndep v w l) = SharesNoVariable (tree_at (trees cs) (read v x y)) (tree_at (trees cs) (read w x y)) → ⊥
FailsCheck cs x y _ = ⊥

-- behind checks a group begins
abbrev pub ComesToGroup : List Step → Type 0
ComesToGroup (check_ground v ∷ is) = ComesToGroup is
ComesToGroup (check_indep v w ∷ is) = ComesToGroup is
ComesToGroup (group n ∷ is) = Unit {0}
ComesToGroup _ = ⊥

-- an instruction that is a check
abbrev pub is_check : Instr → Bool
is_check (CheckGround v l) = true
is_check (CheckIndep v w l) = true
is_check _ = false

-- Checks of the group at a place hold up to one that leads to the place `to`, or up to its goals, which lead there, too.
pub record IsPlainWay (code : Compiled) (at : ℕ) (cs : List Raw) (x y : List ℕ) (to : ℕ) : Type 0 where
  pub from : ℕ
  pub check : Instr
  pub stands : slice_get code.instructions from ≡ Some check
  pub leads : otherwise check ≡ Some to
  pub passes : Passes cs (held x) (held y) (steps_from code at) (steps_from code from)
  pub comes : ComesToGroup (steps_from code from)

-- the same, and that one doesn't hold
abbrev pub IsForcedWay : Compiled → ℕ → List Raw → List ℕ → List ℕ → ℕ → Type 0
IsForcedWay code at cs x y to = (way : IsPlainWay code at cs x y to) × FailsCheck cs (held x) (held y) way.check

-- the checks of the group at a place hold, and behind them an instruction can't be taken
pub record IsCutOff (code : Compiled) (at : ℕ) (cs : List Raw) (x y : List ℕ) : Type 0 where
  pub count : ℕ
  pub behind : List Step
  pub cells : List Raw
  pub there_x : ℕ → ℕ
  pub there_y : ℕ → ℕ
  pub steps : List Step
  pub goals : List Pushed
  pub passes : Passes cs (held x) (held y) (steps_from code at) (group count ∷ behind)
  pub gathers : Gathers code cs (held x) (held y) behind cells there_x there_y steps goals
  pub stuck : IsStuck cells there_x there_y steps
