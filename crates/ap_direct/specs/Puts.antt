-- Instructions that put something into an X register, before a goal.
use Rattle.std.specs.Prelude.{◌≡◌, ℕ, ◌⊎◌, List}
use Rattle.ap_term.specs.declared.builtins.Relation.{Relation}
use Rattle.ap_term.specs.Tree.{Tree, Trees, node, none, more}
use Rattle.ap_instr.specs.declared.instruction.Slot.{Slot}
use Rattle.ap_instr.specs.Builtin.{relation_name}
use Rattle.ap_instr.specs.Step.{Step}
use Rattle.ap_instr.specs.Runs.{Runs, set, set_x, set_y, AsksOpenly}
use Rattle.ap_direct.specs.declared.finding.Simple.{Simple}
use Rattle.ap_direct.specs.declared.finding.Simple.TheVariants.{Operand as Single, Operation as Double}
use Rattle.ap_direct.specs.declared.finding.Put.{Put}
use Rattle.ap_direct.specs.declared.finding.Put.TheVariants.{New, Simple as Given}
use Rattle.ap_direct.specs.declared.goal.Operand.{Operand}
use Rattle.ap_direct.specs.declared.goal.Part.{Part}
use Rattle.ap_direct.specs.declared.goal.Goal.{Goal}
use Rattle.ap_direct.specs.Unread.{IsUnread}
use Rattle.ap_direct.specs.Goals.{operation_name, operand_tree, part_tree, pair, goal_tree, x_behind, y_behind}

abbrev pub simple_tree : Simple → (ℕ → Tree) → (ℕ → Tree) → Tree
simple_tree (Single o) x y = operand_tree o x y
simple_tree (Double f a b) x y = node (operation_name f) (pair (operand_tree a x y) (operand_tree b x y))

-- what is put, where a new variable is the tree t
abbrev pub put_tree : Put → Tree → (ℕ → Tree) → (ℕ → Tree) → Tree
put_tree (New v) t x y = t
put_tree (Given s) t x y = simple_tree s x y

abbrev pub x_put : Put → Tree → (ℕ → Tree) → ℕ → Tree
x_put (New v) t x = set_x v t x
x_put (Given s) t x = x

abbrev pub y_put : Put → Tree → (ℕ → Tree) → ℕ → Tree
y_put (New v) t y = set_y v t y
y_put (Given s) t y = y

-- the steps put this into the X register a, and go on with others
pub record PutsFirst (js : List Step) (a : ℕ) (p : Put) (is : List Step) : Type 0 where
  pub only : (x y : ℕ → Tree) (bs : Trees) → Runs js none x y bs → (t : Tree) × Runs is none (set (x_put p t x) a (put_tree p t x y)) (y_put p t y) bs
  pub each : (x y : ℕ → Tree) (t : Tree) (bs : Trees) → Runs is none (set (x_put p t x) a (put_tree p t x y)) (y_put p t y) bs → Runs js none x y bs
  pub openly : AsksOpenly js → AsksOpenly is

-- the steps give an argument of a structure, and go on with others
pub record FillsFirst (js : List Step) (o : Operand) (is : List Step) : Type 0 where
  pub only : (ts : Trees) (x y : ℕ → Tree) (bs : Trees) → Runs js ts x y bs → (us : Trees) × (ts ≡ more (operand_tree o x y) us) × Runs is us x y bs
  pub each : (us : Trees) (x y : ℕ → Tree) (bs : Trees) → Runs is us x y bs → Runs js (more (operand_tree o x y) us) x y bs
  pub openly : AsksOpenly js → AsksOpenly is

-- whatever the register holds
abbrev pub IsApart : Slot → Operand → Type 0
IsApart v o = (x y : ℕ → Tree) (t : Tree) → operand_tree o (set_x v t x) (set_y v t y) ≡ operand_tree o x y

abbrev pub IsPartApart : Slot → Part → Type 0
IsPartApart v a = (x y : ℕ → Tree) (t : Tree) → part_tree a (set_x v t x) (set_y v t y) ≡ part_tree a x y

-- the register holds it without its being put
abbrev pub IsInPlace : ℕ → Put → Type 0
IsInPlace a p = (x y : ℕ → Tree) (t : Tree) → x_put p t x a ≡ put_tree p t x y

-- steps behind a goal don't see that it was put before
abbrev pub IsUnseen : ℕ → Put → List Step → Type 0
IsUnseen a p is = IsInPlace a p ⊎ IsUnread a is

-- the goal of a relation on what the first two registers hold
pub record IsGoalOf (r : Relation) (g : Goal) : Type 0 where
  pub tree : (t : Tree) (x y : ℕ → Tree) → goal_tree g t x y ≡ node (relation_name r) (pair (x 1) (x 2))
  pub x : (t : Tree) (x : ℕ → Tree) → x_behind g t x ≡ x
  pub y : (t : Tree) (y : ℕ → Tree) → y_behind g t y ≡ y
