-- What the check says of one instruction, of one clause and of one predicate.
use Rattle.std.specs.Prelude.{◌≡◌, ℕ, ◌+◌, ◌<◌, List, drop, slice_get, Some}
use Rattle.ap_instr.specs.declared.instruction.Instr.{Instr}
use Rattle.ap_instr.specs.declared.compiled.Predicate.{Predicate}
use Rattle.ap_instr.specs.Code.{Compiled}
use Rattle.ap_codecheck.specs.declared.rule.Rule.{Rule}
use Rattle.ap_codecheck.specs.declared.rule.Rule.TheVariants.{Operand, Target, Unset, Environment, Argument, Group, End, Called}
use Rattle.ap_codecheck.specs.declared.rule.CodeErr.{CodeErr}
use Rattle.ap_codecheck.specs.declared.rule.CodeErr.TheVariants.{Bad, NoMemory}
use Rattle.ap_instr.specs.StandsFor.{tried, clause_places}
use Rattle.ap_codecheck.specs.Shape.{Shape, entry}
use Rattle.ap_codecheck.specs.Paths.{IsPlaceOf, Path, Awaits}
use Rattle.ap_codecheck.specs.Rules.{InRange, GoesInside, CallsKnown, ReadsSet, FitsEnvironment, IsInTurn, FitsGroup, GoesOn, IsAlternative, At, KeepsIn, Keeps}

-- the rules that an instruction keeps by itself
abbrev pub KeepsAlone : Rule → Compiled → Predicate → Instr → Type 0
KeepsAlone Operand code p i = InRange code i
KeepsAlone Target code p i = GoesInside code p i
KeepsAlone Called code p i = CallsKnown code i
KeepsAlone _ code p i = Unit {0}

-- the predicate's instructions before a place keep them
abbrev pub KeepsBelow : Compiled → Predicate → ℕ → Type 0
KeepsBelow code p end = (rule : Rule) (at : ℕ) → IsPlaceOf code p at → at < end → At code at (KeepsAlone rule code p)

-- the rules that an instruction keeps at a shape
abbrev pub KeepsWith : Rule → Compiled → Instr → ℕ → Shape → Type 0
KeepsWith Unset code i at s = ReadsSet code i s
KeepsWith Environment code i at s = FitsEnvironment i s
KeepsWith Argument code i at s = IsInTurn i s
KeepsWith Group code i at s = FitsGroup i s.group
KeepsWith End code i at s = GoesOn i at
KeepsWith _ code i at s = Unit {0}

-- a place that is come to with a shape keeps them
abbrev pub IsFine : Rule → Compiled → Predicate → ℕ → Shape → Type 0
IsFine End code p at s = IsPlaceOf code p at × At code at (λ i. GoesOn i at)
IsFine rule code p at s = At code at (λ i. KeepsWith rule code i at s)

-- each place that is come to from a place and shape keeps them
abbrev pub IsFineFrom : Compiled → Predicate → ℕ → Shape → Type 0
IsFineFrom code p at s = (n to : ℕ) (t : Shape) → Path code n at s to t → (rule : Rule) → IsFine rule code p to t

-- an error names a place that is come to and doesn't keep the rule
abbrev pub FailsFrom : Compiled → Predicate → ℕ → Shape → CodeErr → Type 0
FailsFrom code p at s (Bad to rule) = (n : ℕ) × (t : Shape) × Path code n at s to t × (IsFine rule code p to t → ⊥)
FailsFrom code p at s NoMemory = Unit {0}

-- the instruction at the place keeps them
abbrev pub IsJudged : Compiled → ℕ → Shape → Type 0
IsJudged code at s = (rule : Rule) → At code at (λ i. KeepsWith rule code i at s)

-- an error names the place, whose instruction breaks the rule
abbrev pub FailsAt : Compiled → ℕ → Shape → CodeErr → Type 0
FailsAt code at s (Bad to rule) = (to ≡ at) × (At code at (λ i. KeepsWith rule code i at s) → ⊥)
FailsAt code at s NoMemory = Unit {0}

-- the clauses that begin at these places are fine
abbrev pub AreFine : Compiled → Predicate → List ℕ → Type 0
AreFine code p ls = (k l : ℕ) → slice_get ls k ≡ Some l → IsFineFrom code p l (entry p.arity)

-- a choice is followed by another one as long as it isn't the last
abbrev pub AreAwaited : Compiled → Predicate → Type 0
AreAwaited code p = (at : ℕ) → Awaits code p at → IsPlaceOf code p at × At code at IsAlternative

-- the clauses that are tried behind a predicate's first one
abbrev pub others : Compiled → Predicate → List ℕ
others code p = tried (drop (p.start + 1) code.instructions)

-- what is checked of paths
pub record ArePathsFine (code : Compiled) (p : Predicate) : Type 0 where
  pub clauses : AreFine code p (clause_places code p)
  pub awaited : AreAwaited code p
  pub start : IsPlaceOf code p p.start

-- the predicate breaks the rule at the place that an error names
abbrev pub BreaksIn : Compiled → Predicate → CodeErr → Type 0
BreaksIn code p (Bad at rule) = KeepsIn rule code p at → ⊥
BreaksIn code p NoMemory = Unit {0}

abbrev pub KeepsAll : Compiled → Predicate → Type 0
KeepsAll code p = (rule : Rule) (at : ℕ) → KeepsIn rule code p at

-- the predicate of this number keeps every rule
abbrev pub KeepsAllAt : Compiled → ℕ → Type 0
KeepsAllAt code number = (p : Predicate) → slice_get code.predicates number ≡ Some p → KeepsAll code p

-- the code breaks the rule at the place that an error names
abbrev pub Breaks : Compiled → CodeErr → Type 0
Breaks code (Bad at rule) = Keeps rule code at → ⊥
Breaks code NoMemory = Unit {0}
