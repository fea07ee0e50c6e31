-- What a machine has of sound code.
use Rattle.std.specs.Prelude.{◌≡◌, ℕ, ◌+◌, ◌<◌, true, List, length, slice_get, Some, IfSome}
use Rattle.ap_term.specs.Tree.{Tree, Trees, count_trees}
use Rattle.ap_instr.specs.declared.instruction.Instr.{Instr}
use Rattle.ap_instr.specs.declared.compiled.Predicate.{Predicate}
use Rattle.ap_instr.specs.Code.{Compiled}
use Rattle.ap_instr.specs.Step.{Step}
use Rattle.ap_instr.specs.Steps.{steps_from}
use Rattle.ap_instr.specs.Runs.{Runs}
use Rattle.ap_codecheck.specs.Shape.{Shape, entry, after}
use Rattle.ap_codecheck.specs.Paths.{IsPlaceOf, Leads, Begins, Reaches}
use Rattle.ap_codecheck.specs.Rules.{InRange, GoesInside, ReadsSet, FitsEnvironment, is_argument, IsInTurn, FitsGroup, GoesOn, CallsKnown, IsSound}
use Rattle.ap_codecheck.specs.Walk.{IsLaid}

-- an instruction that keeps the rules stands at the place
pub record Stands (code : Compiled) (p : Predicate) (at : ℕ) (s : Shape) : Type 0 where
  pub instr : Instr
  pub held : slice_get code.instructions at ≡ Some instr
  pub place : IsPlaceOf code p at
  pub range : InRange code instr
  pub inside : GoesInside code p instr
  pub reads : ReadsSet code instr s
  pub environment : FitsEnvironment instr s
  pub turn : IsInTurn instr s
  pub group : FitsGroup instr s.group
  pub on : GoesOn instr at
  pub known : CallsKnown code instr

-- wherever control comes to in sound code
abbrev pub PlaceLaw : Type 0
PlaceLaw =
    (code : Compiled) (number : ℕ) (p : Predicate) (at : ℕ) (s : Shape) → IsSound code → slice_get code.predicates number ≡ Some p → Reaches code p at s → Stands code p at s

-- control comes to where a clause begins, and from there on to where its instructions lead
abbrev pub WayLaw : Type 0
WayLaw =
    ((code : Compiled) (p : Predicate) (at : ℕ) → Begins code p at → Reaches code p at (entry p.arity))
    × ((code : Compiled) (p : Predicate) (at to : ℕ) (s : Shape) (i : Instr) → Reaches code p at s → slice_get code.instructions at ≡ Some i → Leads i at to → Reaches code p to (after i s))

-- a structure has its arguments behind it
abbrev pub ArgumentsLaw : Type 0
ArgumentsLaw =
    (code : Compiled) (number : ℕ) (p : Predicate) (at k : ℕ) (s : Shape) → IsSound code → slice_get code.predicates number ≡ Some p → Reaches code p at s → k < s.pending
    → (i : Instr) × (slice_get code.instructions (at + k) ≡ Some i) × (is_argument i ≡ true)

-- the registers that are set hold the same trees, and so does the one of the structure that is being built
pub record Agree (s : Shape) (x y v w : ℕ → Tree) : Type 0 where
  pub registers : (n : ℕ) → s.x n ≡ true → x n ≡ v n
  pub variables : (n : ℕ) → s.y n ≡ true → y n ≡ w n
  pub target : (n : ℕ) → s.target ≡ Some n → x n ≡ v n

-- steps ask for the same goals whatever registers hold that aren't set
abbrev pub Ignores : List Step → Shape → Type 0
Ignores is s =
    (ts : Trees) (x y v w : ℕ → Tree) (bs : Trees) → count_trees ts ≡ s.pending → Agree s x y v w → Runs is ts x y bs → Runs is ts v w bs

-- what sound code asks for doesn't depend on what registers hold that aren't set
abbrev pub UnsetLaw : Type 0
UnsetLaw =
    (code : Compiled) (number : ℕ) (p : Predicate) (at : ℕ) (s : Shape) → IsSound code → slice_get code.predicates number ≡ Some p → Reaches code p at s
    → Ignores (steps_from code at) s

-- Code that is laid out clause by clause, each clause a walk, is sound, so that its check never names a broken rule.
abbrev pub LaidLaw : Type 0
LaidLaw =
    (code : Compiled) → ((number : ℕ) (p : Predicate) → slice_get code.predicates number ≡ Some p → IsLaid code p) → IfSome code.query (λ q. q < length code.predicates)
    → IsSound code
