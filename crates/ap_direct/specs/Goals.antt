-- Goals of arithmetic on registers, and code that asks for one first.
use Rattle.std.specs.Prelude.{◌≡◌, ℕ, List}
use Rattle.ap_term.specs.declared.builtins.Operation.{Operation}
use Rattle.ap_term.specs.declared.builtins.Operation.TheVariants.{Add, Subtract, Multiply, Divide, Remainder, Modulo}
use Rattle.ap_term.specs.declared.fixed.TheConstants.{IS, PLUS, MINUS, TIMES, DIVIDE, REM, MOD}
use Rattle.ap_term.specs.Tree.{Tree, Trees, int, node, none, more}
use Rattle.ap_instr.specs.Builtin.{comparison_name}
use Rattle.ap_instr.specs.Code.{Compiled}
use Rattle.ap_instr.specs.Step.{Step}
use Rattle.ap_instr.specs.Steps.{steps_from}
use Rattle.ap_instr.specs.Runs.{Runs, read, set_x, set_y, IsOpen, AsksOpenly}
use Rattle.ap_direct.specs.declared.goal.Operand.{Operand}
use Rattle.ap_direct.specs.declared.goal.Operand.TheVariants.{Register, Integer}
use Rattle.ap_direct.specs.declared.goal.Part.{Part}
use Rattle.ap_direct.specs.declared.goal.Part.TheVariants.{Operand as One, Operation as Two, Nested'}
use Rattle.ap_direct.specs.declared.goal.Direct.{Direct}
use Rattle.ap_direct.specs.declared.goal.Goal.{Goal}
use Rattle.ap_direct.specs.declared.goal.Goal.TheVariants.{Compare, Match, Give}

abbrev pub operation_name : Operation → ℕ
operation_name Add = PLUS
operation_name Subtract = MINUS
operation_name Multiply = TIMES
operation_name Divide = DIVIDE
operation_name Remainder = REM
operation_name Modulo = MOD

abbrev pub pair : Tree → Tree → Trees
pair t u = more t (more u none)

-- ---- expressions, where registers hold the trees x and y

abbrev pub operand_tree : Operand → (ℕ → Tree) → (ℕ → Tree) → Tree
operand_tree (Register v) x y = read v x y
operand_tree (Integer z) x y = int z

abbrev pub part_tree : Part → (ℕ → Tree) → (ℕ → Tree) → Tree
part_tree (One o) x y = operand_tree o x y
part_tree (Two f a b) x y = node (operation_name f) (pair (operand_tree a x y) (operand_tree b x y))
part_tree (Nested' f p a q b) x y = node (operation_name f) (pair (part_tree a x y) (part_tree b x y))

-- ---- goals, where a new variable is the tree t

abbrev pub goal_name : Goal → ℕ
goal_name (Compare op a b) = comparison_name op
goal_name (Match v a) = IS
goal_name (Give v a) = IS

abbrev pub goal_left : Goal → Tree → (ℕ → Tree) → (ℕ → Tree) → Tree
goal_left (Compare op a b) t x y = part_tree a x y
goal_left (Match v a) t x y = read v x y
goal_left (Give v a) t x y = t

abbrev pub goal_right : Goal → (ℕ → Tree) → (ℕ → Tree) → Tree
goal_right (Compare op a b) x y = part_tree b x y
goal_right (Match v a) x y = part_tree a x y
goal_right (Give v a) x y = part_tree a x y

abbrev pub goal_tree : Goal → Tree → (ℕ → Tree) → (ℕ → Tree) → Tree
goal_tree g t x y = node (goal_name g) (pair (goal_left g t x y) (goal_right g x y))

-- the registers behind a goal
abbrev pub x_behind : {A : Type 0} → Goal → A → (ℕ → A) → ℕ → A
x_behind (Give v a) t x = set_x v t x
x_behind _ t x = x

abbrev pub y_behind : {A : Type 0} → Goal → A → (ℕ → A) → ℕ → A
y_behind (Give v a) t y = set_y v t y
y_behind _ t y = y

-- The steps ask for the goal, and then for what other steps ask for, by registers that are the same but for what the goal gives.
pub record AsksGoal (js : List Step) (g : Goal) (is : List Step) : Type 0 where
  pub only : (x y : ℕ → Tree) (bs : Trees) → Runs js none x y bs → (t : Tree) × (cs : Trees) × (bs ≡ more (goal_tree g t x y) cs) × Runs is none (x_behind g t x) (y_behind g t y) cs
  pub each : (x y : ℕ → Tree) (t : Tree) (cs : Trees) → Runs is none (x_behind g t x) (y_behind g t y) cs → Runs js none x y (more (goal_tree g t x y) cs)
  pub openly : AsksOpenly js → IsOpen is × AsksOpenly is

-- the code at a place asks for the goal, and then for what the code behind it asks for
abbrev pub AsksFirst : Compiled → ℕ → Direct → Type 0
AsksFirst code at d = AsksGoal (steps_from code at) d.goal (steps_from code d.to)
