use Rattle.std.proofs.Common.{true, length, refl, sym, subst, arith}
use Rattle.ap_instr.specs.declared.instruction.Instr.TheVariants.{GetVariable, GetValue, GetConstant, GetInteger, GetStructure, PutVariable, PutValue, PutConstant, PutInteger, PutStructure, Allocate, Deallocate}
use Rattle.ap_steps.specs.declared.run.Outcome.TheVariants.{On}
use Rattle.ap_steps.specs.Ways.{CameTo}
use Rattle.ap_steps.proofs.StepsTaken.{came, came-plain, frame-came}
use Rattle.ap_steps.proofs.run.step.Goals as goal

pub returns-in-GetVariable-clause-came : goal.returns-in-GetVariable-clause-came
returns-in-GetVariable-clause-came c =
    subst (λ i. CameTo c.args.code.now i c.args.at c.args.cells.now c.args.x.now c.args.y.now (On 0) c.args.cells.now c.get_variable.new.x c.get_variable.new.y) (sym c.in-GetVariable.is)
    (came-plain c.args.code.now (GetVariable c.in-GetVariable.v c.in-GetVariable.a) c.args.at c.args.cells.now c.args.cells.now c.args.x.now c.args.y.now c.get_variable.new.x c.get_variable.new.y true refl (c.get_variable.ensures.taken c.args.cells.now.cells) (λ p. c.get_variable.ensures.places_x (length c.args.cells.now.cells) c.requires.holds_x c.requires.holds_y) (λ p. c.get_variable.ensures.places_y (length c.args.cells.now.cells) c.requires.holds_x c.requires.holds_y) (λ p. omega arith))

pub returns-in_ok-same-in-GetValue-clause-came : goal.returns-in_ok-same-in-GetValue-clause-came
returns-in_ok-same-in-GetValue-clause-came c =
    subst (λ i. CameTo c.args.code.now i c.args.at c.args.cells.now c.args.x.now c.args.y.now c.came_to.result c.get_value.new.cells c.args.x.now c.args.y.now) (sym c.in-GetValue.is)
    (subst (λ o. CameTo c.args.code.now (GetValue c.in-GetValue.v c.in-GetValue.a) c.args.at c.args.cells.now c.args.x.now c.args.y.now o c.get_value.new.cells c.args.x.now c.args.y.now) (sym c.came_to.ensures) (came-plain c.args.code.now (GetValue c.in-GetValue.v c.in-GetValue.a) c.args.at c.args.cells.now c.get_value.new.cells c.args.x.now c.args.y.now c.args.x.now c.args.y.now c.in_ok-same-in-GetValue.same refl (c.in_ok-same-in-GetValue.ensures.taken) (λ p w. omega (arith, c.requires.holds_x w)) (λ p w. omega (arith, c.requires.holds_y w)) (λ p. omega arith)))

pub returns-in-GetConstant-clause-came : goal.returns-in-GetConstant-clause-came
returns-in-GetConstant-clause-came c =
    subst (λ i. CameTo c.args.code.now i c.args.at c.args.cells.now c.args.x.now c.args.y.now c.came_to-in-GetConstant.result c.get_constant.new.cells c.args.x.now c.args.y.now) (sym c.in-GetConstant.is)
    (subst (λ o. CameTo c.args.code.now (GetConstant c.in-GetConstant.name c.in-GetConstant.a) c.args.at c.args.cells.now c.args.x.now c.args.y.now o c.get_constant.new.cells c.args.x.now c.args.y.now) (sym c.came_to-in-GetConstant.ensures) (came-plain c.args.code.now (GetConstant c.in-GetConstant.name c.in-GetConstant.a) c.args.at c.args.cells.now c.get_constant.new.cells c.args.x.now c.args.y.now c.args.x.now c.args.y.now c.get_constant.result refl (c.get_constant.ensures.taken) (λ p w. omega (arith, c.requires.holds_x w)) (λ p w. omega (arith, c.requires.holds_y w)) (λ p. omega arith)))

pub returns-in-GetInteger-clause-came : goal.returns-in-GetInteger-clause-came
returns-in-GetInteger-clause-came c =
    subst (λ i. CameTo c.args.code.now i c.args.at c.args.cells.now c.args.x.now c.args.y.now c.came_to-in-GetInteger.result c.get_listed.new.cells c.args.x.now c.args.y.now) (sym c.in-GetInteger.is)
    (subst (λ o. CameTo c.args.code.now (GetInteger c.in-GetInteger.i c.in-GetInteger.a) c.args.at c.args.cells.now c.args.x.now c.args.y.now o c.get_listed.new.cells c.args.x.now c.args.y.now) (sym c.came_to-in-GetInteger.ensures) (came-plain c.args.code.now (GetInteger c.in-GetInteger.i c.in-GetInteger.a) c.args.at c.args.cells.now c.get_listed.new.cells c.args.x.now c.args.y.now c.args.x.now c.args.y.now c.get_listed.result refl (c.get_listed.ensures.taken) (λ p w. omega (arith, c.requires.holds_x w)) (λ p w. omega (arith, c.requires.holds_y w)) (λ p. omega arith)))

pub returns-in_ok-got-in-GetStructure-clause-came : goal.returns-in_ok-got-in-GetStructure-clause-came
returns-in_ok-got-in-GetStructure-clause-came c =
    subst (λ i. CameTo c.args.code.now i c.args.at c.args.cells.now c.args.x.now c.args.y.now c.came_to-in-GetStructure.result c.get_structure.new.cells c.get_structure.new.x c.get_structure.new.y) (sym c.in-GetStructure.is)
    (subst (λ o. CameTo c.args.code.now (GetStructure c.in-GetStructure.name c.in-GetStructure.count c.in-GetStructure.a) c.args.at c.args.cells.now c.args.x.now c.args.y.now o c.get_structure.new.cells c.get_structure.new.x c.get_structure.new.y) (sym c.came_to-in-GetStructure.ensures) (came c.args.code.now (GetStructure c.in-GetStructure.name c.in-GetStructure.count c.in-GetStructure.a) c.args.at c.in-GetStructure.count c.args.cells.now c.get_structure.new.cells c.args.x.now c.args.y.now c.get_structure.new.x c.get_structure.new.y c.in_ok-got-in-GetStructure.got refl (c.in_ok-got-in-GetStructure.ensures.taken) (c.in_ok-got-in-GetStructure.ensures.passed) (c.in_ok-got-in-GetStructure.ensures.holds_x) (c.in_ok-got-in-GetStructure.ensures.holds_y) (c.in_ok-got-in-GetStructure.ensures.spare)))

pub returns-in-PutVariable-clause-came : goal.returns-in-PutVariable-clause-came
returns-in-PutVariable-clause-came c =
    subst (λ i. CameTo c.args.code.now i c.args.at c.args.cells.now c.args.x.now c.args.y.now (On 0) c.put_variable.new.cells c.put_variable.new.x c.put_variable.new.y) (sym c.in-PutVariable.is)
    (came-plain c.args.code.now (PutVariable c.in-PutVariable.v c.in-PutVariable.a) c.args.at c.args.cells.now c.put_variable.new.cells c.args.x.now c.args.y.now c.put_variable.new.x c.put_variable.new.y true refl (c.put_variable.ensures.taken c.requires.holds_x c.requires.holds_y) (λ p. c.put_variable.ensures.places_x c.requires.holds_x) (λ p. c.put_variable.ensures.places_y c.requires.holds_y) (λ p. omega arith))

pub returns-in-PutValue-clause-came : goal.returns-in-PutValue-clause-came
returns-in-PutValue-clause-came c =
    subst (λ i. CameTo c.args.code.now i c.args.at c.args.cells.now c.args.x.now c.args.y.now (On 0) c.args.cells.now c.put_value.new.x c.args.y.now) (sym c.in-PutValue.is)
    (came-plain c.args.code.now (PutValue c.in-PutValue.v c.in-PutValue.a) c.args.at c.args.cells.now c.args.cells.now c.args.x.now c.args.y.now c.put_value.new.x c.args.y.now true refl (c.put_value.ensures.taken c.args.cells.now.cells) (λ p. c.put_value.ensures.places (length c.args.cells.now.cells) c.requires.holds_x c.requires.holds_y) (λ p. c.requires.holds_y) (λ p. omega arith))

pub returns-in-PutConstant-clause-came : goal.returns-in-PutConstant-clause-came
returns-in-PutConstant-clause-came c =
    subst (λ i. CameTo c.args.code.now i c.args.at c.args.cells.now c.args.x.now c.args.y.now (On 0) c.put_constant.new.cells c.put_constant.new.x c.args.y.now) (sym c.in-PutConstant.is)
    (came-plain c.args.code.now (PutConstant c.in-PutConstant.name c.in-PutConstant.a) c.args.at c.args.cells.now c.put_constant.new.cells c.args.x.now c.args.y.now c.put_constant.new.x c.args.y.now true refl (c.put_constant.ensures.taken c.args.y.now c.requires.holds_x c.requires.holds_y) (λ p. c.put_constant.ensures.places c.requires.holds_x) (λ p w. omega (arith, c.requires.holds_y w)) (λ p. omega arith))

pub returns-in-PutInteger-clause-came : goal.returns-in-PutInteger-clause-came
returns-in-PutInteger-clause-came c =
    subst (λ i. CameTo c.args.code.now i c.args.at c.args.cells.now c.args.x.now c.args.y.now c.came_to-in-PutInteger.result c.put_listed.new.cells c.put_listed.new.x c.args.y.now) (sym c.in-PutInteger.is)
    (subst (λ o. CameTo c.args.code.now (PutInteger c.in-PutInteger.i c.in-PutInteger.a) c.args.at c.args.cells.now c.args.x.now c.args.y.now o c.put_listed.new.cells c.put_listed.new.x c.args.y.now) (sym c.came_to-in-PutInteger.ensures) (came-plain c.args.code.now (PutInteger c.in-PutInteger.i c.in-PutInteger.a) c.args.at c.args.cells.now c.put_listed.new.cells c.args.x.now c.args.y.now c.put_listed.new.x c.args.y.now c.put_listed.result refl (c.put_listed.ensures.taken c.args.y.now c.requires.holds_x c.requires.holds_y) (λ p. c.put_listed.ensures.places c.requires.holds_x) (λ p w. omega (arith, c.requires.holds_y w)) (λ p. omega arith)))

pub returns-in-PutStructure-clause-came : goal.returns-in-PutStructure-clause-came
returns-in-PutStructure-clause-came c =
    subst (λ i. CameTo c.args.code.now i c.args.at c.args.cells.now c.args.x.now c.args.y.now c.came_to-in-PutStructure.result c.put_structure-put.new.cells c.put_structure-put.new.x c.put_structure-put.new.y) (sym c.in-PutStructure.is)
    (subst (λ o. CameTo c.args.code.now (PutStructure c.in-PutStructure.name c.in-PutStructure.count c.in-PutStructure.a) c.args.at c.args.cells.now c.args.x.now c.args.y.now o c.put_structure-put.new.cells c.put_structure-put.new.x c.put_structure-put.new.y) (sym c.came_to-in-PutStructure.ensures) (came c.args.code.now (PutStructure c.in-PutStructure.name c.in-PutStructure.count c.in-PutStructure.a) c.args.at c.in-PutStructure.count c.args.cells.now c.put_structure-put.new.cells c.args.x.now c.args.y.now c.put_structure-put.new.x c.put_structure-put.new.y c.put_structure-put.result refl (c.put_structure-put.ensures.taken) (c.put_structure-put.ensures.passed) (c.put_structure-put.ensures.holds_x) (c.put_structure-put.ensures.holds_y) (c.put_structure-put.ensures.spare)))

pub returns-in-Allocate-clause-came : goal.returns-in-Allocate-clause-came
returns-in-Allocate-clause-came c =
    subst (λ i. CameTo c.args.code.now i c.args.at c.args.cells.now c.args.x.now c.args.y.now (On 0) c.args.cells.now c.args.x.now c.args.y.now) (sym c.in-Allocate.is)
    (frame-came c.args.code.now (Allocate _) c.args.at c.args.cells.now c.args.x.now c.args.y.now refl refl c.requires.holds_x c.requires.holds_y)

pub returns-in-Deallocate-clause-came : goal.returns-in-Deallocate-clause-came
returns-in-Deallocate-clause-came c =
    subst (λ i. CameTo c.args.code.now i c.args.at c.args.cells.now c.args.x.now c.args.y.now (On 0) c.args.cells.now c.args.x.now c.args.y.now) (sym c.in-Deallocate.is)
    (frame-came c.args.code.now Deallocate c.args.at c.args.cells.now c.args.x.now c.args.y.now refl refl c.requires.holds_x c.requires.holds_y)
