-- Code in which groups are told by their checks and goals.
use Rattle.std.specs.Prelude.{◌≡◌, ℕ, ◌+◌, slice_get, Option, Some, None}
use Rattle.ap_term.specs.Tree.{Tree, Trees, none}
use Rattle.ap_instr.specs.declared.instruction.Instr.{Instr}
use Rattle.ap_instr.specs.declared.instruction.Instr.TheVariants.{CheckGround, CheckIndep, AllocParcall}
use Rattle.ap_instr.specs.Code.{Compiled}
use Rattle.ap_instr.specs.Steps.{steps_from}
use Rattle.ap_instr.specs.Runs.{Runs, AsksOpenly}
use Rattle.ap_tracked.specs.Marks.{Unmarked}

-- where a check leads to that doesn't hold, and where a group's goals are called one after another
abbrev pub otherwise : Instr → Option ℕ
otherwise (CheckGround v l) = Some l
otherwise (CheckIndep v w l) = Some l
otherwise (AllocParcall n l) = Some l
otherwise _ = None

-- the place from which on the rest of a group stands, without a check's own mark
abbrev pub rest_of : Instr → ℕ → ℕ
rest_of (AllocParcall n l) at = at
rest_of i at = at + 1

-- The code at a place asks for what the code at another one asks for, without the marks of the group that comes first: it
-- calls the group's goals one after another, and tests nothing behind them.
pub record AsksUnmarked (code : Compiled) (from to : ℕ) : Type 0 where
  pub only : (x y : ℕ → Tree) (bs : Trees) → Runs (steps_from code to) none x y bs → (ms : Trees) × Unmarked ms bs × Runs (steps_from code from) none x y ms
  pub each : (x y : ℕ → Tree) (ms bs : Trees) → Unmarked ms bs → Runs (steps_from code from) none x y ms → Runs (steps_from code to) none x y bs
  pub openly : AsksOpenly (steps_from code to)

-- wherever a check stands, it leads, where it doesn't hold, to its group as a sequence; and so does the beginning of a group's goals
abbrev pub HasSequences : Compiled → Type 0
HasSequences code = (at l : ℕ) (i : Instr) → slice_get code.instructions at ≡ Some i → otherwise i ≡ Some l → AsksUnmarked code (rest_of i at) l
