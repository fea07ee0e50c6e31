-- What a goal is before something is put into an X register.
use Rattle.std.specs.Prelude.{◌≡◌, ℕ}
use Rattle.ap_term.specs.Tree.{Tree}
use Rattle.ap_instr.specs.declared.instruction.Slot.{Slot}
use Rattle.ap_instr.specs.declared.instruction.Slot.TheVariants.{X}
use Rattle.ap_instr.specs.Runs.{read, set}
use Rattle.ap_direct.specs.declared.goal.Operand.{Operand}
use Rattle.ap_direct.specs.declared.goal.Part.{Part}
use Rattle.ap_direct.specs.declared.goal.Goal.{Goal}
use Rattle.ap_direct.specs.declared.goal.Goal.TheVariants.{Compare, Match, Give}
use Rattle.ap_direct.specs.declared.finding.Simple.{Simple}
use Rattle.ap_direct.specs.declared.finding.Put.{Put}
use Rattle.ap_direct.specs.declared.finding.Put.TheVariants.{New, Simple as Given}
use Rattle.ap_direct.specs.Goals.{operand_tree, part_tree}
use Rattle.ap_direct.specs.Puts.{simple_tree, IsPartApart}

-- ---- where the register a gets the expression s: the same trees, from the registers before that

abbrev pub IsOperandBefore : ℕ → Simple → Operand → Simple → Type 0
IsOperandBefore a s o r = (x y : ℕ → Tree) → operand_tree o (set x a (simple_tree s x y)) y ≡ simple_tree r x y

abbrev pub IsRegisterBefore : ℕ → Simple → Slot → Slot → Type 0
IsRegisterBefore a s v w = (x y : ℕ → Tree) → read v (set x a (simple_tree s x y)) y ≡ read w x y

abbrev pub IsPartBefore : ℕ → Simple → Part → Part → Type 0
IsPartBefore a s p q = (x y : ℕ → Tree) → part_tree p (set x a (simple_tree s x y)) y ≡ part_tree q x y

abbrev pub IsGoalBefore : ℕ → Simple → Goal → Goal → Type 0
IsGoalBefore a s (Compare op p q) (Compare cp k l) = (cp ≡ op) × IsPartBefore a s p k × IsPartBefore a s q l
IsGoalBefore a s (Match v p) (Match w q) = IsRegisterBefore a s v w × IsPartBefore a s p q
IsGoalBefore a s (Give v p) (Give w q) = (w ≡ v) × IsPartBefore a s p q
IsGoalBefore a s _ _ = ⊥

-- the goal behind asks for the value of the register a, a new variable that the register v gets too
abbrev pub GivesNew : ℕ → Slot → Goal → Goal → Type 0
GivesNew a v (Match w p) (Give u q) = (w ≡ X a) × (u ≡ v) × (q ≡ p) × IsPartApart v p × IsPartApart (X a) p
GivesNew a v _ _ = ⊥

abbrev pub IsBefore : ℕ → Put → Goal → Goal → Type 0
IsBefore a (New v) g h = GivesNew a v g h
IsBefore a (Given s) g h = IsGoalBefore a s g h
