use Rattle.std.proofs.Common.{rules, ◌≡◌, ◌+◌, true, [], length, drop, slice_get, Some, sym, ap, ◌∙◌, subst, arith}
use Rattle.ap_instr.specs.Steps.{steps_from}
use Rattle.ap_instr.proofs.Steps.{steps-past}
use Rattle.ap_needs.specs.Needs.{HasTargets, wants}
use Rattle.ap_steps.specs.Moves.{held, Moves}
use Rattle.ap_steps.specs.Ways.{CameTo, Passed}
use Rattle.ap_steps.proofs.Places.{targets-here, room-here}
use Rattle.ap_steps.proofs.MemoryWants.{wants-now}
use Rattle.ap_steps.proofs.Steps.{Moves-stuck}
use Rattle.ap_control.proofs.Ran.{ran-on, ran-stuck, room-on, wants-behind, none-inside}
use Rattle.ap_control.proofs.runs.run_to_stop.Goals as goal
use Rattle.ap_cells.proofs.Stores.{Keeps-trans}

pub step-requires-clause-room : goal.step-requires-clause-room
step-requires-clause-room c =
    λ goes_on.
    let e : slice_get c.args.code.now.instructions c.run.place ≡ Some c.in-Some.instr.now = ap (λ is. slice_get is c.run.place) (sym c.instructions-instructions.ensures) ∙ c.in-Some.ensures.some in
    let r = room-here c.args.code.now.instructions c.run.place c.in-Some.instr.now e goes_on in
    let has_room = c.run.invariant.room in
    omega arith

pub step-requires-clause-has : goal.step-requires-clause-has
step-requires-clause-has c =
    let v = c.run.invariant in
    let e : slice_get c.args.code.now.instructions c.run.place ≡ Some c.in-Some.instr.now = ap (λ is. slice_get is c.run.place) (sym c.instructions-instructions.ensures) ∙ c.in-Some.ensures.some in
    let h : HasTargets c.in-Some.instr.now (length c.args.x.now) (length c.args.y.now) =
    (targets-here c.args.code.now.instructions c.run.place (length c.args.x.now) (length c.args.y.now) c.in-Some.instr.now e (c.requires.targets c.run.place)).0
    in
    subst (λ n. HasTargets c.in-Some.instr.now n (length c.run.y)) (sym v.x_len) (subst (HasTargets c.in-Some.instr.now (length c.args.x.now)) (sym v.y_len) h)

pub returns-in_err-outcome-clause-keeps : goal.returns-in_err-outcome-clause-keeps
returns-in_err-outcome-clause-keeps c = Keeps-trans c.args.cells.now c.run.cells c.step.new.cells c.run.invariant.keeps c.step.ensures.keeps

pub returns-in_err-outcome-clause-wants : goal.returns-in_err-outcome-clause-wants
returns-in_err-outcome-clause-wants c =
    let e : slice_get c.args.code.now.instructions c.run.place ≡ Some c.in-Some.instr.now = ap (λ is. slice_get is c.run.place) (sym c.instructions-instructions.ensures) ∙ c.in-Some.ensures.some in
    let w : wants (drop c.args.at c.args.code.now.instructions) ≡ true =
    c.run.invariant.wants (wants-now c.args.code.now.instructions c.run.place c.in-Some.instr.now e c.in_err-outcome.ensures.wants)
    in
    search rules

pub overflow_add-place-in-On : goal.overflow_add-place-in-On
overflow_add-place-in-On c =
    let p : Passed c.args.code.now c.in-Some.instr.now (c.run.place + 1) c.in-On.arguments c.run.cells c.run.x c.run.y c.step.new.cells c.step.new.x c.step.new.y =
    subst (λ o. CameTo c.args.code.now c.in-Some.instr.now (c.run.place + 1) c.run.cells c.run.x c.run.y o c.step.new.cells c.step.new.x c.step.new.y) c.in-On.is c.in_ok-outcome.ensures.came
    in
    let same = ap length c.instructions-instructions.ensures in
    let inside = none-inside c.args.code.now.instructions (c.run.place + 1) c.in-On.arguments p.arguments (omega arith) in
    omega arith

pub overflow_add-place-in-On-2 : goal.overflow_add-place-in-On-2
overflow_add-place-in-On-2 c =
    let p : Passed c.args.code.now c.in-Some.instr.now (c.run.place + 1) c.in-On.arguments c.run.cells c.run.x c.run.y c.step.new.cells c.step.new.x c.step.new.y =
    subst (λ o. CameTo c.args.code.now c.in-Some.instr.now (c.run.place + 1) c.run.cells c.run.x c.run.y o c.step.new.cells c.step.new.x c.step.new.y) c.in-On.is c.in_ok-outcome.ensures.came
    in
    let same = ap length c.instructions-instructions.ensures in
    let inside = none-inside c.args.code.now.instructions (c.run.place + 1) c.in-On.arguments p.arguments (omega arith) in
    omega arith

pub run-preserved : goal.run-preserved
run-preserved c =
    let v = c.run.invariant in
    let code = c.args.code.now in
    let e : slice_get c.args.code.now.instructions c.run.place ≡ Some c.in-Some.instr.now = ap (λ is. slice_get is c.run.place) (sym c.instructions-instructions.ensures) ∙ c.in-Some.ensures.some in
    let p : Passed code c.in-Some.instr.now (c.run.place + 1) c.in-On.arguments c.run.cells c.run.x c.run.y c.step.new.cells c.step.new.x c.step.new.y =
    subst (λ o. CameTo code c.in-Some.instr.now (c.run.place + 1) c.run.cells c.run.x c.run.y o c.step.new.cells c.step.new.x c.step.new.y) c.in-On.is c.in_ok-outcome.ensures.came
    in
    record {
      forward = omega (arith, v.forward);
      ran = ran-on code c.args.at c.run.place c.args.cells.now.cells c.args.x.now c.args.y.now c.run.cells c.run.x c.run.y c.in-Some.instr.now e v.ran c.in-On.arguments c.step.new.cells c.step.new.x c.step.new.y p;
      room = room-on code c.args.at c.run.place c.args.cells.now.cells c.args.x.now c.args.y.now c.run.cells c.run.x c.run.y c.in-Some.instr.now e c.in-On.arguments c.step.new.cells c.step.new.x c.step.new.y p v.room;
      wants = λ w. v.wants (wants-behind code c.args.at c.run.place c.args.cells.now.cells c.args.x.now c.args.y.now c.run.cells c.run.x c.run.y c.in-Some.instr.now e c.in-On.arguments c.step.new.cells c.step.new.x c.step.new.y p w);
      x_len = c.step.ensures.x_len ∙ v.x_len;
      y_len = c.step.ensures.y_len ∙ v.y_len;
      keeps = Keeps-trans c.args.cells.now c.run.cells c.step.new.cells v.keeps c.step.ensures.keeps;
    }

pub returns-in-Stuck-clause-ran : goal.returns-in-Stuck-clause-ran
returns-in-Stuck-clause-ran c =
    let code = c.args.code.now in
    let e : slice_get c.args.code.now.instructions c.run.place ≡ Some c.in-Some.instr.now = ap (λ is. slice_get is c.run.place) (sym c.instructions-instructions.ensures) ∙ c.in-Some.ensures.some in
    ran-stuck code c.args.at c.run.place c.args.cells.now.cells c.args.x.now c.args.y.now c.run.cells c.run.x c.run.y c.in-Some.instr.now e c.run.invariant.ran
    (subst (λ o. CameTo code c.in-Some.instr.now (c.run.place + 1) c.run.cells c.run.x c.run.y o c.step.new.cells c.step.new.x c.step.new.y) c.in-Stuck.is c.in_ok-outcome.ensures.came)

pub returns-in-Stuck-clause-keeps : goal.returns-in-Stuck-clause-keeps
returns-in-Stuck-clause-keeps c = Keeps-trans c.args.cells.now c.run.cells c.step.new.cells c.run.invariant.keeps c.step.ensures.keeps

pub returns-clause-ran : goal.returns-clause-ran
returns-clause-ran c =
    let js = steps_from c.args.code.now c.args.at in
    Moves-stuck c.args.cells.now.cells c.run.cells.cells (held c.args.x.now) (held c.args.y.now) (held c.run.x) (held c.run.y) js []
    (subst (λ hs. Moves c.args.cells.now.cells (held c.args.x.now) (held c.args.y.now) js c.run.cells.cells (held c.run.x) (held c.run.y) hs) (steps-past c.args.code.now c.run.place (ap (λ is. slice_get is c.run.place) (sym c.instructions-instructions.ensures) ∙ c.instruction_in.ensures.none c.in_default.is)) c.run.invariant.ran.moves)
    (λ k bs h. h.1)
