-- What the instructions of a group come to, one by one and as a whole.
use Rattle.std.specs.Prelude.{◌≡◌, ℕ, ◌<◌, List, [], ◌∷◌, ◌++◌, length, slice_get, Option, Some, None}
use Rattle.std.specs.List.{AllByRecursion}
use Rattle.ap_cells.specs.declared.cells.Raw.{Raw}
use Rattle.ap_cells.specs.Walks.{Each}
use Rattle.ap_instr.specs.declared.instruction.Instr.{Instr}
use Rattle.ap_instr.specs.declared.instruction.Instr.TheVariants.{AllocParcall, PushGoal, WaitAll}
use Rattle.ap_instr.specs.declared.compiled.Predicate.{Predicate}
use Rattle.ap_instr.specs.Code.{Compiled}
use Rattle.ap_instr.specs.Step.{Step, step_of, group, other}
use Rattle.ap_instr.specs.Steps.{skipped, steps_from}
use Rattle.ap_instr.specs.Groups.{otherwise}
use Rattle.ap_steps.specs.Moves.{held, HoldPlaces, IsStuck}
use Rattle.ap_group.specs.declared.checking.Check.{Check}
use Rattle.ap_group.specs.declared.checking.Check.TheVariants.{Holds, Fails, Begins}
use Rattle.ap_group.specs.declared.checking.Checked.{Checked}
use Rattle.ap_group.specs.declared.checking.Checked.TheVariants.{Group, Plain as Leads}
use Rattle.ap_group.specs.declared.gathering.Turn.{Turn}
use Rattle.ap_group.specs.declared.gathering.Turn.TheVariants.{On, End, Stuck}
use Rattle.ap_group.specs.declared.gathering.Gathered.{Gathered}
use Rattle.ap_group.specs.declared.gathering.Gathered.TheVariants.{Pushed as Forks, Plain}
use Rattle.ap_group.specs.Groups.{Pushed}
use Rattle.ap_group.specs.Gathers.{Passes, Gathers, places_from, IsGathered, FailsCheck, IsForcedWay, IsCutOff}

-- ---- checks

-- a check holds, and is passed
pub record IsPast (i : Instr) (cs : List Raw) (x y : List ℕ) : Type 0 where
  pub passes : (code : Compiled) (is js : List Step) → Passes cs (held x) (held y) is (step_of code i ∷ js) → Passes cs (held x) (held y) is js
  pub goes_on : (at : ℕ) → skipped i at ≡ 0

-- the same, or it doesn't hold, or so many goals are to be pushed
abbrev pub ChecksTo : Instr → List Raw → List ℕ → List ℕ → Check → Type 0
ChecksTo i cs x y Holds = IsPast i cs x y
ChecksTo i cs x y (Fails l) = (otherwise i ≡ Some l) × FailsCheck cs (held x) (held y) i
ChecksTo i cs x y (Begins n) = (l : ℕ) × (i ≡ AllocParcall n l)

-- all checks of the group at a place hold, and behind them so many goals are to be pushed; or one doesn't hold
abbrev pub AreChecked : Compiled → ℕ → List Raw → List ℕ → List ℕ → Checked → Type 0
AreChecked code at cs x y (Group n from) = Passes cs (held x) (held y) (steps_from code at) (group n ∷ steps_from code from)
AreChecked code at cs x y (Leads to) = IsForcedWay code at cs x y to

-- ---- goals

-- a goal's predicate is in the table, with as many arguments
abbrev pub IsKnown : Compiled → Pushed → Type 0
IsKnown code p = (q : Predicate) × (slice_get code.predicates p.predicate ≡ Some q) × (length p.arguments ≡ q.arity)

-- a goal's arguments are some of the first n places
abbrev pub IsInside : ℕ → Pushed → Type 0
IsInside n p = Each (λ r. r < n) p.arguments

-- goals of the table, on some of the first n places
pub record AreReady (code : Compiled) (n : ℕ) (ps : List Pushed) : Type 0 where
  pub known : AllByRecursion (IsKnown code) ps
  pub inside : AllByRecursion (IsInside n) ps

-- a goal of the predicate of a number was put behind others, on the first registers
abbrev pub IsPushed : Compiled → ℕ → List ℕ → List Pushed → List Pushed → Type 0
IsPushed code number x ps qs = (q : Predicate) × (slice_get code.predicates number ≡ Some q) × (qs ≡ ps ++ record { predicate = number; arguments = places_from (held x) 1 q.arity } ∷ [])

-- a goal was pushed, or its group has ended, or the instruction is none of a clause
abbrev pub TurnsTo : Compiled → Instr → List ℕ → List Pushed → Turn → List Pushed → Type 0
TurnsTo code i x ps On qs = (k number : ℕ) × (i ≡ PushGoal k number) × IsPushed code number x ps qs
TurnsTo code i x ps End qs = (i ≡ WaitAll) × (qs ≡ ps)
TurnsTo code i x ps Stuck qs = step_of code i ≡ other

-- a group's goals were pushed, from a place behind its checks up to its end
pub record ArePushed (code : Compiled) (from : ℕ) (cs : List Raw) (x y : List ℕ) (to : ℕ) (ds : List Raw) (x' y' : List ℕ) (ps : List Pushed) : Type 0 where
  pub gathers : Gathers code cs (held x) (held y) (steps_from code from) ds (held x') (held y') (steps_from code to) ps
  pub ends : slice_get code.instructions to ≡ Some WaitAll
  pub ready : AreReady code (length ds) ps
  pub holds_x : HoldPlaces (length ds) x'
  pub holds_y : HoldPlaces (length ds) y'

-- on the way an instruction can't be taken
pub record AreCutOff (code : Compiled) (from : ℕ) (cs : List Raw) (x y : List ℕ) : Type 0 where
  pub cells : List Raw
  pub there_x : ℕ → ℕ
  pub there_y : ℕ → ℕ
  pub steps : List Step
  pub goals : List Pushed
  pub gathers : Gathers code cs (held x) (held y) (steps_from code from) cells there_x there_y steps goals
  pub stuck : IsStuck cells there_x there_y steps

abbrev pub ArePushedOrCut : Compiled → ℕ → ℕ → List Raw → List ℕ → List ℕ → Option ℕ → List Raw → List ℕ → List ℕ → List Pushed → Type 0
ArePushedOrCut code from count cs x y (Some to) ds x' y' ps = ArePushed code from cs x y to ds x' y' ps × (length ps ≡ count)
ArePushedOrCut code from count cs x y None ds x' y' ps = AreCutOff code from cs x y

-- ---- the whole

-- all checks of the group at a place hold, and its goals were pushed
pub record HasPushed (code : Compiled) (at : ℕ) (cs : List Raw) (x y : List ℕ) (to : ℕ) (ds : List Raw) (x' y' : List ℕ) (ps : List Pushed) : Type 0 where
  pub gathered : IsGathered code at cs x y to ds x' y' ps
  pub ready : AreReady code (length ds) ps
  pub holds_x : HoldPlaces (length ds) x'
  pub holds_y : HoldPlaces (length ds) y'

-- a check of it doesn't hold, and leads to a place, with nothing done
pub record LeadsPlain (code : Compiled) (at : ℕ) (cs : List Raw) (x y : List ℕ) (to : ℕ) (ds : List Raw) (x' y' : List ℕ) : Type 0 where
  pub way : IsForcedWay code at cs x y to
  pub same_cells : ds ≡ cs
  pub same_x : x' ≡ x
  pub same_y : y' ≡ y

-- one of these, or an instruction of it can't be taken
abbrev pub LeadsTo : Compiled → ℕ → List Raw → List ℕ → List ℕ → Option Gathered → List Raw → List ℕ → List ℕ → List Pushed → Type 0
LeadsTo code at cs x y (Some (Forks to)) ds x' y' ps = HasPushed code at cs x y to ds x' y' ps
LeadsTo code at cs x y (Some (Plain to)) ds x' y' ps = LeadsPlain code at cs x y to ds x' y'
LeadsTo code at cs x y None ds x' y' ps = IsCutOff code at cs x y
