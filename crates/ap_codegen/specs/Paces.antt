-- Steps of a clause that keep the rules of code one by one, from a shape to their end, before they have numbers of tables.
use Rattle.std.specs.Prelude.{◌≡◌, ℕ, zero, suc, ◌+◌, ◌<◌, ◌≤◌, Bool, true, false, is_some, List, [], ◌∷◌, Option, Some, None, ◌⊎◌}
use Rattle.ap_instr.specs.declared.instruction.Slot.{Slot}
use Rattle.ap_instr.specs.declared.instruction.Slot.TheVariants.{X, Y}
use Rattle.ap_instr.specs.declared.instruction.Instr.TheVariants.{GetStructure, PutVariable, PutStructure, Call, WaitAll}
use Rattle.ap_instr.specs.Step.{Step, get_variable, get_value, get_constant, get_structure, put_variable, put_value, put_constant, put_structure, unify_variable, unify_value, unify_constant, call, execute, builtin, proceed, frame, jump, check_ground, check_indep, group, push, wait, other}
use Rattle.ap_codecheck.specs.Shape.{Shape, entry, unset, write, with_group, behind_argument, after}
use Rattle.ap_codecheck.specs.Rules.{IsNumbered, IsSet, ArgumentsSet, IsRoomFor}
use Rattle.ap_codegen.specs.declared.steps.Step.{Step as Emitted}
use Rattle.ap_codegen.specs.declared.steps.Step.TheVariants.{Allocate}
use Rattle.ap_codegen.specs.Emitted.{steps_of, Lead, leads_of}
use Rattle.ap_codegen.specs.Grouped.{IsEnded}
use Rattle.ap_codegen.specs.Said.{AreNumbered}
use Rattle.ap_codegen.specs.Framed.{leaving}

-- a register, or a permanent variable of the environment
abbrev pub IsSlot : Slot → Shape → Type 0
IsSlot (X n) s = 0 < n
IsSlot (Y n) s = (0 < n) × IsRoomFor n s.room

-- with what is to hold of the shape behind the steps, where none of them ends the clause
abbrev pub PacesTo : (Shape → Type 0) → List Step → Shape → Type 0
PacesTo K [] s = K s
PacesTo K (get_variable v a ∷ is) s = IsSlot v s × (0 < a) × IsSet s (X a) × (s.pending ≡ 0) × PacesTo K is (write v s)
PacesTo K (get_value v a ∷ is) s = IsSlot v s × (0 < a) × IsSet s v × IsSet s (X a) × (s.pending ≡ 0) × PacesTo K is s
PacesTo K (get_constant c a ∷ is) s = (0 < a) × IsSet s (X a) × (s.pending ≡ 0) × PacesTo K is s
PacesTo K (get_structure f n a ∷ is) s = (0 < a) × IsSet s (X a) × (s.pending ≡ 0) × PacesTo K is (after (GetStructure f n a) s)
PacesTo K (put_variable v a ∷ is) s = IsSlot v s × (0 < a) × (s.pending ≡ 0) × PacesTo K is (after (PutVariable v a) s)
PacesTo K (put_value v a ∷ is) s = IsSlot v s × (0 < a) × IsSet s v × (s.pending ≡ 0) × PacesTo K is (write (X a) s)
PacesTo K (put_constant c a ∷ is) s = (0 < a) × (s.pending ≡ 0) × PacesTo K is (write (X a) s)
PacesTo K (put_structure f n a ∷ is) s = (0 < a) × (s.pending ≡ 0) × PacesTo K is (after (PutStructure f n a) s)
PacesTo K (unify_variable v ∷ is) s = IsSlot v s × (0 < s.pending) × PacesTo K is (behind_argument (write v s))
PacesTo K (unify_value v ∷ is) s = IsSlot v s × IsSet s v × (0 < s.pending) × PacesTo K is (behind_argument s)
PacesTo K (unify_constant c ∷ is) s = (0 < s.pending) × PacesTo K is (behind_argument s)
PacesTo K (call p n ∷ is) s = ArgumentsSet n s × (is_some s.room ≡ true) × (s.pending ≡ 0) × PacesTo K is (after (Call 0) s)
PacesTo K (builtin p n ∷ is) s = ArgumentsSet n s × (s.pending ≡ 0) × PacesTo K is s
PacesTo K (execute p n ∷ is) s = ArgumentsSet n s × (s.pending ≡ 0) × (is ≡ [])
PacesTo K (proceed ∷ is) s = (s.pending ≡ 0) × (is ≡ [])
PacesTo K (i ∷ is) s = ⊥

abbrev pub Paces : List Step → Shape → Type 0
Paces is s = PacesTo (λ z. ⊥) is s

-- where a clause begins, inside an environment for so many variables
abbrev pub inside : ℕ → ℕ → Shape
inside vars arity = record { x = (entry arity).x; y = unset; room = Some vars; pending = 0; target = None; group = None }

-- ---- clauses with groups, whose steps pass over others

-- whether a step puts an argument, or a part of one
abbrev pub puts : Step → Bool
puts (put_variable v a) = true
puts (put_value v a) = true
puts (put_constant c a) = true
puts (put_structure f n a) = true
puts (unify_variable v) = true
puts (unify_value v) = true
puts (unify_constant c) = true
puts _ = false

-- inside of a group only arguments are put, beside its own steps
abbrev pub StandsIn : Step → Option (ℕ × ℕ) → Type 0
StandsIn i None = Unit {0}
StandsIn i (Some g) = puts i ≡ true

-- inside of a group a goal is still to be pushed
abbrev pub IsOpen : Option (ℕ × ℕ) → Type 0
IsOpen None = ⊥
IsOpen (Some g) = g.1 + 1 ≤ g.0

-- each goal of a group was pushed
abbrev pub IsFull : Option (ℕ × ℕ) → Type 0
IsFull None = ⊥
IsFull (Some g) = g.1 ≡ g.0

abbrev pub one_pushed : Option (ℕ × ℕ) → Option (ℕ × ℕ)
one_pushed None = None
one_pushed (Some g) = Some (g.0, g.1 + 1)

-- A step that may pass over so many others; the next ones keep the rules wherever control goes on.
abbrev pub PacesOn : Step → ℕ → (ℕ → Shape → Type 0) → Shape → Type 0
PacesOn jump n K s = (s.group ≡ None) × (s.pending ≡ 0) × K n s
PacesOn (check_ground v) n K s = (s.group ≡ None) × (s.pending ≡ 0) × IsSlot v s × IsSet s v × K 0 s × K n s
PacesOn (check_indep v w) n K s = (s.group ≡ None) × (s.pending ≡ 0) × IsSlot v s × IsSlot w s × IsSet s v × IsSet s w × K 0 s × K n s
PacesOn (group m) n K s = (s.group ≡ None) × (s.pending ≡ 0) × (0 < m) × K 0 (with_group (Some (m, 0)) s) × K n s
PacesOn (push p m) n K s = IsOpen s.group × (s.pending ≡ 0) × ArgumentsSet m s × K 0 (with_group (one_pushed s.group) s)
PacesOn wait n K s = IsFull s.group × (s.pending ≡ 0) × (is_some s.room ≡ true) × K 0 (after WaitAll s)
PacesOn i n K s = StandsIn i s.group × PacesTo (K 0) (i ∷ []) s

-- Steps, the first of which are passed over, keep the rules on both ways of each check and of each group, from a shape to the end.
abbrev pub PacesLeads : ℕ → List Lead → Shape → Type 0
PacesLeads n [] s = ⊥
PacesLeads (suc n) (l ∷ ls) s = PacesLeads n ls s
PacesLeads zero (l ∷ ls) s = PacesOn l.0 l.1 (λ n z. PacesLeads n ls z) s

-- operands in range, which a step has wherever it stands
abbrev pub IsInRange : Step → Type 0
IsInRange (get_variable v a) = IsNumbered v × (0 < a)
IsInRange (get_value v a) = IsNumbered v × (0 < a)
IsInRange (get_constant c a) = 0 < a
IsInRange (get_structure f n a) = 0 < a
IsInRange (put_variable v a) = IsNumbered v × (0 < a)
IsInRange (put_value v a) = IsNumbered v × (0 < a)
IsInRange (put_constant c a) = 0 < a
IsInRange (put_structure f n a) = 0 < a
IsInRange (unify_variable v) = IsNumbered v
IsInRange (unify_value v) = IsNumbered v
IsInRange (check_ground v) = IsNumbered v
IsInRange (check_indep v w) = IsNumbered v × IsNumbered w
IsInRange (group n) = 0 < n
IsInRange frame = ⊥
IsInRange other = ⊥
IsInRange _ = Unit {0}

abbrev pub AreInRange : List Lead → Type 0
AreInRange [] = Unit {0}
AreInRange (l ∷ ls) = IsInRange l.0 × AreInRange ls

-- the steps of a clause with groups, with no environment, and so without groups, or inside one
abbrev pub ArePacedLeads : ℕ → List Emitted → Type 0
ArePacedLeads arity es =
    Paces (steps_of es) (entry arity)
    ⊎ ((vars : ℕ) × (fs : List Emitted) × (es ≡ Allocate vars ∷ leaving fs) × PacesLeads 0 (leads_of fs) (inside vars arity) × IsEnded (leads_of fs) × AreNumbered 0 fs × AreInRange (leads_of fs))
