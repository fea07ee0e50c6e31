-- Where a search may come to rest, and what a list of states begins with.
use Rattle.std.specs.Prelude.{◌≡◌, ℕ, ◌⊎◌, List, [], ◌∷◌, slice_get, Some, None}
use Rattle.ap_term.specs.Tuples.{tuple_under}
use Rattle.ap_term.specs.Tree.{Trees}
use Rattle.ap_tracked.specs.Tracked.{Tracked}
use Rattle.ap_term.specs.UpToNames.{SameUpToNames}
use Rattle.ap_cells.specs.Trees.{tree_at, trees}
use Rattle.ap_instr.specs.declared.builtins.Builtin.{Builtin}
use Rattle.ap_instr.specs.declared.instruction.Instr.TheVariants.{Builtin as builtin_instr}
use Rattle.ap_instr.specs.declared.compiled.Predicate.{Predicate}
use Rattle.ap_instr.specs.Code.{Compiled}
use Rattle.ap_direct.specs.declared.goal.Direct.{Direct}
use Rattle.ap_direct.specs.Goals.{AsksFirst}
use Rattle.ap_group.specs.Gathers.{IsGroupAt}
use Rattle.ap_standing.specs.Machine.{Now, calling, inside, returning, failed, Machine}

-- a call of a predicate of the table, or a built-in goal, which stands there or is the first one that the code asks for
abbrev pub IsCallDue : Compiled → Now → Type 0
IsCallDue code (calling number) = (q : Predicate) × (slice_get code.predicates number ≡ Some q)
IsCallDue code (inside at) = ((builtin : Builtin) × (slice_get code.instructions at ≡ Some (builtin_instr builtin))) ⊎ ((d : Direct) × AsksFirst code at d)
IsCallDue code returning = ⊥
IsCallDue code failed = ⊥

-- all clauses have ended
abbrev pub IsAtAnswer : Machine → Type 0
IsAtAnswer m = (m.now ≡ returning) × (m.returns ≡ [])

-- no goal is left, and no choice point
abbrev pub IsAtEnd : Machine → Type 0
IsAtEnd m = (m.now ≡ failed) × (m.points ≡ [])

-- a group begins
abbrev pub IsAtGroup : Compiled → Machine → Type 0
IsAtGroup code m = (at : ℕ) × (m.now ≡ inside at) × IsGroupAt code at

-- the tuple where the machine stands
abbrev pub tuple_of : Machine → Trees
tuple_of m = tuple_under (tree_at (trees m.cells)) m.roots

-- the first state is an answer, with that tuple up to names
abbrev pub IsAnswer : Trees → List Tracked → Type 0
IsAnswer t [] = ⊥
IsAnswer t (s ∷ ss) = (s.goals ≡ []) × (s.fault ≡ None) × SameUpToNames t s.tuple

-- the first state has goals
abbrev pub HasGoals : List Tracked → Type 0
HasGoals [] = ⊥
HasGoals (s ∷ ss) = s.goals ≡ [] → ⊥
