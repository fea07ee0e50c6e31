-- What stands at a place, by its instruction.
use Rattle.std.proofs.Common.{◌≡◌, ℕ, ℤ, ◌+◌, ◌∷◌, slice_get, Some, refl, ap, sym, ◌∙◌, subst}
use Rattle.ap_term.specs.declared.builtins.Operation.{Operation}
use Rattle.ap_term.specs.declared.builtins.Relation.{Relation}
use Rattle.ap_term.specs.Arithmetic.{operation_named}
use Rattle.ap_instr.specs.declared.instruction.Slot.{Slot}
use Rattle.ap_instr.specs.declared.instruction.Slot.TheVariants.{X}
use Rattle.ap_instr.specs.declared.instruction.Instr.TheVariants.{PutVariable, PutValue, PutInteger, PutStructure, UnifyValue, UnifyInteger, Builtin}
use Rattle.ap_instr.specs.declared.builtins.Builtin.TheVariants.{Relation as RelationGoal}
use Rattle.ap_instr.specs.Builtin.{relation_name}
use Rattle.ap_instr.specs.Code.{Compiled}
use Rattle.ap_instr.specs.Step.{put_constant, put_structure, unify_constant, builtin}
use Rattle.ap_instr.specs.Runs.{read}
use Rattle.ap_instr.specs.Steps.{steps_from}
use Rattle.ap_direct.specs.declared.goal.Operand.{Operand}
use Rattle.ap_direct.specs.declared.goal.Operand.TheVariants.{Register, Integer}
use Rattle.ap_direct.specs.declared.goal.Direct.{Direct}
use Rattle.ap_direct.specs.declared.finding.Simple.TheVariants.{Operand as Single, Operation as Double}
use Rattle.ap_direct.specs.declared.finding.Put.{Put}
use Rattle.ap_direct.specs.declared.finding.Put.TheVariants.{New, Simple as Given}
use Rattle.ap_direct.specs.Goals.{AsksGoal, AsksFirst}
use Rattle.ap_direct.specs.Puts.{PutsFirst, FillsFirst, IsApart, IsUnseen, IsGoalOf}
use Rattle.ap_direct.specs.Before.{IsRegisterBefore, IsBefore}
use Rattle.ap_direct.proofs.Puts.{value-fills, integer-fills, variable-puts, value-puts, integer-puts, named-operation, structure-puts, set-here, asks-put, asks-goal}
use Rattle.ap_direct.proofs.Steps.{steps-next, steps-integer}

pub register_put : (a : ℕ) (v w : Slot) → v ≡ X a → IsRegisterBefore a (Single (Register w)) v w
register_put a v w e = subst (λ u. IsRegisterBefore a (Single (Register w)) u w) (sym e) (λ x y. set-here x a (read w x y))

module _ (code : Compiled) (at : ℕ) where
  pub value_fills_at : (v : Slot) → slice_get code.instructions at ≡ Some (UnifyValue v) → FillsFirst (steps_from code at) (Register v) (steps_from code (at + 1))
  value_fills_at v e = subst (λ js. FillsFirst js (Register v) (steps_from code (at + 1))) (sym (steps-next code at (UnifyValue v) e refl)) (value-fills v (steps_from code (at + 1)))

  pub integer_fills_at : (i : ℕ) (z : ℤ) → slice_get code.instructions at ≡ Some (UnifyInteger i) → slice_get code.integers i ≡ Some z → FillsFirst (steps_from code at) (Integer z) (steps_from code (at + 1))
  integer_fills_at i z e q =
      subst (λ js. FillsFirst js (Integer z) (steps_from code (at + 1))) (sym (steps-integer code at i (UnifyInteger i) z unify_constant e refl refl q)) (integer-fills z (steps_from code (at + 1)))

  pub variable_puts_at : (v : Slot) (a : ℕ) → slice_get code.instructions at ≡ Some (PutVariable v a) → PutsFirst (steps_from code at) a (New v) (steps_from code (at + 1))
  variable_puts_at v a e = subst (λ js. PutsFirst js a (New v) (steps_from code (at + 1))) (sym (steps-next code at (PutVariable v a) e refl)) (variable-puts v a (steps_from code (at + 1)))

  pub value_puts_at : (v : Slot) (a : ℕ) → slice_get code.instructions at ≡ Some (PutValue v a) → PutsFirst (steps_from code at) a (Given (Single (Register v))) (steps_from code (at + 1))
  value_puts_at v a e = subst (λ js. PutsFirst js a (Given (Single (Register v))) (steps_from code (at + 1))) (sym (steps-next code at (PutValue v a) e refl)) (value-puts v a (steps_from code (at + 1)))

  pub integer_puts_at : (i : ℕ) (z : ℤ) (a : ℕ) → slice_get code.instructions at ≡ Some (PutInteger i a) → slice_get code.integers i ≡ Some z → PutsFirst (steps_from code at) a (Given (Single (Integer z))) (steps_from code (at + 1))
  integer_puts_at i z a e q =
      subst (λ js. PutsFirst js a (Given (Single (Integer z))) (steps_from code (at + 1))) (sym (steps-integer code at i (PutInteger i a) z (λ c. put_constant c a) e refl refl q)) (integer-puts z a (steps_from code (at + 1)))

  pub structure_puts_at : (n a c : ℕ) (f : Operation) (o q : Operand) (k to : ℕ) → slice_get code.instructions at ≡ Some (PutStructure n c a) → c ≡ 2 → operation_named n ≡ Some f
      → FillsFirst (steps_from code (at + 1)) o (steps_from code k) → FillsFirst (steps_from code k) q (steps_from code to) → IsApart (X a) o → IsApart (X a) q
      → PutsFirst (steps_from code at) a (Given (Double f o q)) (steps_from code to)
  structure_puts_at n a c f o q k to e two named first second ao aq =
      subst (λ js. PutsFirst js a (Given (Double f o q)) (steps_from code to)) (sym (steps-next code at (PutStructure n 2 a) (e ∙ ap (λ m. Some (PutStructure n m a)) two) refl))
      (subst (λ m. PutsFirst (put_structure m 2 a ∷ steps_from code (at + 1)) a (Given (Double f o q)) (steps_from code to)) (sym (named-operation n f named))
      (structure-puts f a o q (steps_from code (at + 1)) (steps_from code k) (steps_from code to) first second ao aq))

  pub relation_stands_at : (r : Relation) → slice_get code.instructions at ≡ Some (Builtin (RelationGoal r)) → steps_from code at ≡ builtin (relation_name r) 2 ∷ steps_from code (at + 1)
  relation_stands_at r e = steps-next code at (Builtin (RelationGoal r)) e refl

  pub asks_there : (d : Direct) (r : Relation) → steps_from code at ≡ builtin (relation_name r) 2 ∷ steps_from code d.to → IsGoalOf r d.goal → AsksFirst code at d
  asks_there d r e is_goal = subst (λ js. AsksGoal js d.goal (steps_from code d.to)) (sym e) (asks-goal r (steps_from code d.to) d.goal is_goal)

  pub asks_before : (a m : ℕ) (p : Put) (d e : Direct) → PutsFirst (steps_from code at) a p (steps_from code m) → IsUnseen a p (steps_from code d.to) → AsksFirst code m d → e.to ≡ d.to → IsBefore a p d.goal e.goal
      → AsksFirst code at e
  asks_before a m p d e puts unseen asks same before =
      subst (λ n. AsksGoal (steps_from code at) e.goal (steps_from code n)) (sym same) (asks-put a (steps_from code at) (steps_from code m) (steps_from code d.to) p d.goal e.goal puts unseen before asks)
