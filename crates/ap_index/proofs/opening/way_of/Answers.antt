use Rattle.std.proofs.Common.{refl, sym, subst, slice_get}
use Rattle.ap_term.specs.Tree.{atom, none, more}
use Rattle.ap_tracked.specs.Marks.{ground_mark, apart_mark, group_mark}
use Rattle.ap_instr.specs.Runs.{set, read, set_x, set_y, applied, spread, lost}
use Rattle.ap_index.specs.declared.opening.Way.TheVariants.{On, Structure, Goal}
use Rattle.ap_index.specs.Opening.{LeadsBy}
use Rattle.ap_instr.specs.Builtin.{builtin_name, builtin_arity}
use Rattle.ap_index.proofs.Building.{structure-opens}
use Rattle.ap_index.proofs.Openness.{led-by-call, led-by-execute, led-by-push, by-listed}
use Rattle.ap_index.proofs.opening.way_of.Goals as goal

pub returns-in-GetVariable : goal.returns-in-GetVariable
returns-in-GetVariable c = subst (λ i. LeadsBy c.args.code.now i On) (sym c.in-GetVariable.is) (refl, λ is o x y. o (set_x c.in-GetVariable.field-0 (x c.in-GetVariable.field-1) x) (set_y c.in-GetVariable.field-0 (x c.in-GetVariable.field-1) y))

pub returns-in-PutVariable : goal.returns-in-PutVariable
returns-in-PutVariable c =
    let v = c.in-PutVariable.field-0 in
    subst (λ i. LeadsBy c.args.code.now i On) (sym c.in-PutVariable.is) (refl, λ is o x y. let r = o (set (set_x v (atom 0) x) c.in-PutVariable.field-1 (atom 0)) (set_y v (atom 0) y) in (r.0, (atom 0, r.1)))

pub returns-in-PutValue : goal.returns-in-PutValue
returns-in-PutValue c = subst (λ i. LeadsBy c.args.code.now i On) (sym c.in-PutValue.is) (refl, λ is o x y. o (set x c.in-PutValue.field-1 (read c.in-PutValue.field-0 x y)) y)

pub returns-in-PutConstant : goal.returns-in-PutConstant
returns-in-PutConstant c = subst (λ i. LeadsBy c.args.code.now i On) (sym c.in-PutConstant.is) (refl, λ is o x y. o (set x c.in-PutConstant.field-1 (atom c.in-PutConstant.field-0)) y)

pub returns-in-Allocate : goal.returns-in-Allocate
returns-in-Allocate c = subst (λ i. LeadsBy c.args.code.now i On) (sym c.in-Allocate.is) (refl, λ is o x y. o x y)

pub returns-in-Deallocate : goal.returns-in-Deallocate
returns-in-Deallocate c = subst (λ i. LeadsBy c.args.code.now i On) (sym c.in-Deallocate.is) (refl, λ is o x y. o x y)

pub returns-in-Some : goal.returns-in-Some
returns-in-Some c =
    subst (λ i. LeadsBy c.args.code.now i On) (sym c.in-PutInteger.is)
    (refl, by-listed (slice_get c.args.code.now.integers c.in-PutInteger.index) c.in-Some.field-0 c.in-Some.ensures c.in-PutInteger.field-1)

pub returns-in-Call : goal.returns-in-Call
returns-in-Call c =
    subst (λ i. LeadsBy c.args.code.now i c.way_by_call.result) (sym c.in-Call.is) (led-by-call c.args.code.now c.in-Call.number c.way_by_call.result c.way_by_call.ensures)

pub returns-in-Execute : goal.returns-in-Execute
returns-in-Execute c =
    subst (λ i. LeadsBy c.args.code.now i c.way_by_call-in-Execute.result) (sym c.in-Execute.is) (led-by-execute c.args.code.now c.in-Execute.number c.way_by_call-in-Execute.result c.way_by_call-in-Execute.ensures)

pub returns-in-Proceed : goal.returns-in-Proceed
returns-in-Proceed c = subst (λ i. LeadsBy c.args.code.now i Goal) (sym c.in-Proceed.is) (λ is o x y. (none, refl))

pub returns-in-Builtin : goal.returns-in-Builtin
returns-in-Builtin c =
    let b = c.in-Builtin.field-0 in
    subst (λ i. LeadsBy c.args.code.now i Goal) (sym c.in-Builtin.is)
    (λ is o x y. let r = o.0 x y in (more (applied (builtin_name b) (spread x 1 (builtin_arity b))) r.0, (r.0, refl, r.1)))

pub returns-in-PutStructure : goal.returns-in-PutStructure
returns-in-PutStructure c =
    let n = c.in-PutStructure.count in
    let a = c.in-PutStructure.a in
    subst (λ i. LeadsBy c.args.code.now i (Structure n a)) (sym c.in-PutStructure.is) (refl, structure-opens c.in-PutStructure.field-0 n a)

pub returns-in-CheckGround : goal.returns-in-CheckGround
returns-in-CheckGround c =
    let v = c.in-CheckGround.field-0 in
    subst (λ i. LeadsBy c.args.code.now i Goal) (sym c.in-CheckGround.is) (λ is o x y. let r = o.0 x y in (more ground_mark (more (read v x y) r.0), (r.0, refl, r.1)))

pub returns-in-CheckIndep : goal.returns-in-CheckIndep
returns-in-CheckIndep c =
    let v = c.in-CheckIndep.field-0 in
    let w = c.in-CheckIndep.field-1 in
    subst (λ i. LeadsBy c.args.code.now i Goal) (sym c.in-CheckIndep.is) (λ is o x y. let r = o.0 x y in (more apart_mark (more (read v x y) (more (read w x y) r.0)), (r.0, refl, r.1)))

pub returns-in-AllocParcall : goal.returns-in-AllocParcall
returns-in-AllocParcall c =
    subst (λ i. LeadsBy c.args.code.now i Goal) (sym c.in-AllocParcall.is) (λ is o x y. let r = o.0 x y in (more (group_mark c.in-AllocParcall.field-0) r.0, (r.0, refl, r.1)))

pub returns-in-PushGoal : goal.returns-in-PushGoal
returns-in-PushGoal c =
    let way = c.way_by_call-in-PushGoal in
    subst (λ i. LeadsBy c.args.code.now i way.result) (sym c.in-PushGoal.is) (led-by-push c.args.code.now c.in-PushGoal.field-0 c.in-PushGoal.number way.result way.ensures)

pub returns-in-WaitAll : goal.returns-in-WaitAll
returns-in-WaitAll c = subst (λ i. LeadsBy c.args.code.now i Goal) (sym c.in-WaitAll.is) (λ is o x y. o.0 lost y)

pub returns-in-Jump : goal.returns-in-Jump
returns-in-Jump c = subst (λ i. LeadsBy c.args.code.now i Goal) (sym c.in-Jump.is) (λ is o x y. o.0 x y)
