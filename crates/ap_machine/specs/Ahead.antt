-- How many goals a group pushes, told by the code at its checks.
use Rattle.std.specs.Prelude.{ℕ, List, ◌∷◌, Option, Some, None}
use Rattle.ap_instr.specs.declared.instruction.Instr.{Instr}
use Rattle.ap_instr.specs.declared.instruction.Instr.TheVariants.{CheckGround, CheckIndep, AllocParcall}
use Rattle.ap_instr.specs.Step.{Step, check_ground, check_indep, group}

-- as many as the group says that begins behind checks; where none does, none
abbrev pub goals_ahead : List Step → ℕ
goals_ahead (check_ground v ∷ is) = goals_ahead is
goals_ahead (check_indep v w ∷ is) = goals_ahead is
goals_ahead (group n ∷ is) = n
goals_ahead _ = 0

-- as many as an instruction says, unless it is a check, which says nothing of them
abbrev pub goals_said : Instr → Option ℕ
goals_said (CheckGround v l) = None
goals_said (CheckIndep v w l) = None
goals_said (AllocParcall n l) = Some n
goals_said _ = Some 0
