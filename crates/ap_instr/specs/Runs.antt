-- What a clause's code means, without stores, cells or substitutions: which goals it asks for, over all instances.
pub use Rattle.ap_term.specs.Tuples.{applied}
use Rattle.std.specs.Prelude.{◌≡◌, ℕ, zero, suc, ◌+◌, ◌==◌, if◌then◌else◌, List, [], ◌∷◌, map}
use Rattle.ap_term.specs.Tree.{Tree, Trees, atom, node, none, more, count_trees}
use Rattle.ap_term.specs.Substitution.{instance_all}
use Rattle.ap_term.specs.Goals.{Clause}
use Rattle.ap_tracked.specs.Tracked.{placed}
use Rattle.ap_tracked.specs.Marks.{marked, ground_mark, apart_mark, group_mark}
use Rattle.ap_instr.specs.declared.instruction.Slot.{Slot}
use Rattle.ap_instr.specs.declared.instruction.Slot.TheVariants.{X, Y}
use Rattle.ap_instr.specs.Step.{Step, get_variable, get_value, get_constant, get_structure, put_variable, put_value, put_constant, put_structure, unify_variable, unify_value, unify_constant, call, execute, builtin, proceed, frame, jump, check_ground, check_indep, group, push, wait}

-- a map with another value at one number
abbrev pub set : {A : Type 0} → (ℕ → A) → ℕ → A → ℕ → A
set r n t w = if w == n then t else r w

-- what a register holds: x are the X registers, y the Y registers
abbrev pub read : {A : Type 0} → Slot → (ℕ → A) → (ℕ → A) → A
read (X n) x y = x n
read (Y n) x y = y n

-- the two maps after a register is written
abbrev pub set_x : {A : Type 0} → Slot → A → (ℕ → A) → ℕ → A
set_x (X n) t x = set x n t
set_x (Y n) t x = x

abbrev pub set_y : {A : Type 0} → Slot → A → (ℕ → A) → ℕ → A
set_y (X n) t y = y
set_y (Y n) t y = set y n t

-- n trees from place p on
abbrev pub spread : (ℕ → Tree) → ℕ → ℕ → Trees
spread k p zero = none
spread k p (suc n) = more (k p) (spread k (p + 1) n)

abbrev pub arguments : Tree → Trees
arguments (node a ts) = ts
arguments _ = none

-- what stands in the X registers behind a call
abbrev pub lost : ℕ → Tree
lost n = atom 0

-- From these steps on, inside a structure whose arguments ts are still to come, registers that hold the trees x and y
-- can ask for the goals bs, groups among them told by marks. A new variable is any tree.
abbrev pub Runs : List Step → Trees → (ℕ → Tree) → (ℕ → Tree) → Trees → Type 0
Runs [] ts x y bs = ⊥
Runs (unify_variable v ∷ is) (more t ts) x y bs = Runs is ts (set_x v t x) (set_y v t y) bs
Runs (unify_value v ∷ is) (more t ts) x y bs = (read v x y ≡ t) × Runs is ts x y bs
Runs (unify_constant c ∷ is) (more t ts) x y bs = (t ≡ c) × Runs is ts x y bs
Runs (i ∷ is) (more t ts) x y bs = ⊥
Runs (get_variable v a ∷ is) none x y bs = Runs is none (set_x v (x a) x) (set_y v (x a) y) bs
Runs (get_value v a ∷ is) none x y bs = (read v x y ≡ x a) × Runs is none x y bs
Runs (get_constant c a ∷ is) none x y bs = (x a ≡ c) × Runs is none x y bs
Runs (get_structure f n a ∷ is) none x y bs = (ts : Trees) × (count_trees ts ≡ n) × (x a ≡ node f ts) × Runs is ts x y bs
Runs (put_variable v a ∷ is) none x y bs = (t : Tree) × Runs is none (set (set_x v t x) a t) (set_y v t y) bs
Runs (put_value v a ∷ is) none x y bs = Runs is none (set x a (read v x y)) y bs
Runs (put_constant c a ∷ is) none x y bs = Runs is none (set x a c) y bs
Runs (put_structure f n a ∷ is) none x y bs = (ts : Trees) × (count_trees ts ≡ n) × Runs is ts (set x a (node f ts)) y bs
Runs (call p n ∷ is) none x y bs = (cs : Trees) × (bs ≡ more (applied p (spread x 1 n)) cs) × Runs is none lost y cs
Runs (builtin p n ∷ is) none x y bs = (cs : Trees) × (bs ≡ more (applied p (spread x 1 n)) cs) × Runs is none x y cs
Runs (execute p n ∷ is) none x y bs = bs ≡ more (applied p (spread x 1 n)) none
Runs (proceed ∷ is) none x y bs = bs ≡ none
Runs (frame ∷ is) none x y bs = Runs is none x y bs
Runs (jump ∷ is) none x y bs = Runs is none x y bs
Runs (check_ground v ∷ is) none x y bs = (cs : Trees) × (bs ≡ more ground_mark (more (read v x y) cs)) × Runs is none x y cs
Runs (check_indep v w ∷ is) none x y bs = (cs : Trees) × (bs ≡ more apart_mark (more (read v x y) (more (read w x y) cs))) × Runs is none x y cs
Runs (group n ∷ is) none x y bs = (cs : Trees) × (bs ≡ more (group_mark n) cs) × Runs is none x y cs
Runs (push p n ∷ is) none x y bs = (cs : Trees) × (bs ≡ more (applied p (spread x 1 n)) cs) × Runs is none x y cs
Runs (wait ∷ is) none x y bs = Runs is none lost y bs
Runs (i ∷ is) none x y bs = ⊥

-- an instance of the clause has these arguments and this body, its groups told by their marks
abbrev pub Asks : Clause → (ℕ → Tree) → Trees → Type 0
Asks c x bs =
    (h : ℕ → Tree) × (spread x 1 (count_trees (arguments c.head)) ≡ instance_all h (arguments c.head)) × (bs ≡ marked (map (placed h) c.body))

-- the code asks for just what the clause asks for
pub record Reads (code : List Step) (c : Clause) : Type 0 where
  pub only : (x y : ℕ → Tree) (bs : Trees) → Runs code none x y bs → Asks c x bs
  pub each : (x y : ℕ → Tree) (bs : Trees) → Asks c x bs → Runs code none x y bs

-- whatever the registers hold, the steps ask for something
abbrev pub IsOpen : List Step → Type 0
IsOpen is = (x y : ℕ → Tree) → (bs : Trees) × Runs is none x y bs

-- Behind each goal that they ask for, and behind each other step of control, the steps are open: all tests stand before the
-- first goal, so that no goal is asked for where the clause asks for none.
abbrev pub AsksOpenly : List Step → Type 0
AsksOpenly [] = Unit {0}
AsksOpenly (call p n ∷ is) = IsOpen is × AsksOpenly is
AsksOpenly (builtin p n ∷ is) = IsOpen is × AsksOpenly is
AsksOpenly (check_ground v ∷ is) = IsOpen is × AsksOpenly is
AsksOpenly (check_indep v w ∷ is) = IsOpen is × AsksOpenly is
AsksOpenly (group n ∷ is) = IsOpen is × AsksOpenly is
AsksOpenly (push p n ∷ is) = IsOpen is × AsksOpenly is
AsksOpenly (wait ∷ is) = IsOpen is × AsksOpenly is
AsksOpenly (jump ∷ is) = IsOpen is × AsksOpenly is
AsksOpenly (execute p n ∷ is) = Unit {0}
AsksOpenly (proceed ∷ is) = Unit {0}
AsksOpenly (i ∷ is) = AsksOpenly is
