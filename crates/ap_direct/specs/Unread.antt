-- X registers that code doesn't read before it writes them.
use Rattle.std.specs.Prelude.{◌≡◌, ℕ, ◌+◌, Bool, true, false, ◌==◌, ◌||◌, nat_lt, if◌then◌else◌, List, ◌∷◌}
use Rattle.ap_term.specs.Tree.{Tree, Trees}
use Rattle.ap_instr.specs.declared.instruction.Slot.{Slot}
use Rattle.ap_instr.specs.declared.instruction.Slot.TheVariants.{X, Y}
use Rattle.ap_instr.specs.Step.{Step, get_variable, get_value, get_constant, get_structure, put_variable, put_value, put_constant, put_structure, unify_variable, unify_value, unify_constant, call, execute, builtin, proceed, frame, check_ground, check_indep, group, push, wait}
use Rattle.ap_instr.specs.Runs.{Runs}
use Rattle.ap_direct.specs.declared.unread.Use.{Use}
use Rattle.ap_direct.specs.declared.unread.Use.TheVariants.{Reads, Ends, Passes}

-- the two maps differ at r alone
abbrev pub DifferAt : ℕ → (ℕ → Tree) → (ℕ → Tree) → Type 0
DifferAt r x z = (w : ℕ) → (w ≡ r → ⊥) → x w ≡ z w

-- the steps ask for the same, whatever the register holds
abbrev pub IsUnread : ℕ → List Step → Type 0
IsUnread r is = (ts : Trees) (x z y : ℕ → Tree) (bs : Trees) → DifferAt r x z → Runs is ts x y bs → Runs is ts z y bs

-- ---- a step's use of a register

abbrev pub is_x : Slot → ℕ → Bool
is_x (X n) r = n == r
is_x (Y n) r = false

abbrev pub read_then : Bool → Bool → Use
read_then reads ends = if reads then Reads else (if ends then Ends else Passes)

-- an argument of a call of n arguments
abbrev pub is_argument : ℕ → ℕ → Bool
is_argument r n = nat_lt r (n + 1)

abbrev pub use_in : ℕ → Step → Use
use_in r (get_variable v a) = read_then (a == r) (is_x v r)
use_in r (get_value v a) = read_then (is_x v r || (a == r)) false
use_in r (get_constant c a) = read_then (a == r) false
use_in r (get_structure f n a) = read_then (a == r) false
use_in r (put_variable v a) = read_then false (is_x v r || (a == r))
use_in r (put_value v a) = read_then (is_x v r) (a == r)
use_in r (put_constant c a) = read_then false (a == r)
use_in r (put_structure f n a) = read_then false (a == r)
use_in r (unify_variable v) = read_then false (is_x v r)
use_in r (unify_value v) = read_then (is_x v r) false
use_in r (unify_constant c) = Passes
use_in r (call p n) = read_then (is_argument r n) true
use_in r (execute p n) = read_then (is_argument r n) true
use_in r (builtin p n) = read_then (is_argument r n) false
use_in r proceed = Ends
use_in r frame = Passes
use_in r (check_ground v) = read_then (is_x v r) false
use_in r (check_indep v w) = read_then (is_x v r || is_x w r) false
use_in r (group n) = Passes
use_in r (push p n) = read_then (is_argument r n) false
use_in r wait = Ends
use_in r _ = Reads

-- what a use says of steps that begin with it
abbrev pub Says : Use → ℕ → Step → Type 0
Says Reads r i = Unit {0}
Says Ends r i = (is : List Step) → IsUnread r (i ∷ is)
Says Passes r i = (is : List Step) → IsUnread r is → IsUnread r (i ∷ is)
