use Rattle.std.proofs.Common.{◌≡◌, ◌+◌, true, false, Ok, Err, length, slice_get, Some, sym, subst}
use Rattle.std.specs.Prelude.{IfOk, OnErr}
use Rattle.ap_cells.proofs.Stores.{Keeps-trans}
use Rattle.ap_instr.specs.Step.{step_of}
use Rattle.ap_needs.specs.Needs.{HasTargets, is_control, is_value, has_value}
use Rattle.ap_steps.specs.Moves.{held}
use Rattle.ap_steps.specs.Found.{Matched, MatchedAll}
use Rattle.ap_steps.specs.Ways.{NoneOfControl}
use Rattle.ap_steps.proofs.Pairs.{pair-targets, pair-targets-next, pair-value, pair-value-next, pair-passed, pair-stuck, pair-matched}
use Rattle.ap_steps.proofs.found.match_arguments.Goals as goal

pub match_argument-requires-clause-has : goal.match_argument-requires-clause-has
match_argument-requires-clause-has c =
    let code = c.args.code.now in
    let e : slice_get code.instructions c.args.at ≡ Some c.in-Some.one.now = subst (λ is. slice_get is c.args.at ≡ Some c.in-Some.one.now) c.instructions-instructions.ensures c.in-Some.ensures.some in
    let f : slice_get code.instructions (c.args.at + 1) ≡ Some c.in-Some-instruction_in.two.now = subst (λ is. slice_get is (c.args.at + 1) ≡ Some c.in-Some-instruction_in.two.now) c.instructions-instructions.ensures c.in-Some-instruction_in.ensures.some in
    pair-targets c.args.code.now c.args.at c.args.count c.if-count-eq2.true c.in-Some.one.now c.in-Some-instruction_in.two.now e f (length c.args.x.now) (length c.args.y.now) c.requires.targets

pub returns-in_err-begun-clause-wants : goal.returns-in_err-begun-clause-wants
returns-in_err-begun-clause-wants c =
    let code = c.args.code.now in
    let e : slice_get code.instructions c.args.at ≡ Some c.in-Some.one.now = subst (λ is. slice_get is c.args.at ≡ Some c.in-Some.one.now) c.instructions-instructions.ensures c.in-Some.ensures.some in
    let f : slice_get code.instructions (c.args.at + 1) ≡ Some c.in-Some-instruction_in.two.now = subst (λ is. slice_get is (c.args.at + 1) ≡ Some c.in-Some-instruction_in.two.now) c.instructions-instructions.ensures c.in-Some-instruction_in.ensures.some in
    elim c.from_residual.result as (λ r. OnErr r (has_value code.instructions c.args.at c.args.count ≡ true)) [
      | Ok b ↦ tt
      | Err r ↦ pair-value c.args.code.now c.args.at c.args.count c.if-count-eq2.true c.in-Some.one.now c.in-Some-instruction_in.two.now e f c.in_err-begun.ensures.wants
    ]

pub returns-then-not-begun-clause-matched : goal.returns-then-not-begun-clause-matched
returns-then-not-begun-clause-matched c =
    let code = c.args.code.now in
    let e : slice_get code.instructions c.args.at ≡ Some c.in-Some.one.now = subst (λ is. slice_get is c.args.at ≡ Some c.in-Some.one.now) c.instructions-instructions.ensures c.in-Some.ensures.some in
    let f : slice_get code.instructions (c.args.at + 1) ≡ Some c.in-Some-instruction_in.two.now = subst (λ is. slice_get is (c.args.at + 1) ≡ Some c.in-Some-instruction_in.two.now) c.instructions-instructions.ensures c.in-Some-instruction_in.ensures.some in
    pair-stuck c.args.code.now c.args.at c.args.count c.if-count-eq2.true c.in-Some.one.now c.in-Some-instruction_in.two.now e f c.args.first c.args.cells.now.cells c.match_argument.new.cells.cells c.match_argument.new.cells.cells (held c.args.x.now) (held c.args.y.now) (held c.match_argument.new.x) (held c.match_argument.new.y) (held c.match_argument.new.x) (held c.match_argument.new.y) c.requires.args
    (subst (Matched c.args.cells.now.cells (held c.args.x.now) (held c.args.y.now) (step_of code c.in-Some.one.now) c.args.first c.match_argument.new.cells.cells (held c.match_argument.new.x) (held c.match_argument.new.y)) c.if-not-begun.true c.in_ok-begun.ensures.matched)

pub match_argument-requires-in-Some-instruction_in-clause-has : goal.match_argument-requires-in-Some-instruction_in-clause-has
match_argument-requires-in-Some-instruction_in-clause-has c =
    let code = c.args.code.now in
    let e : slice_get code.instructions c.args.at ≡ Some c.in-Some.one.now = subst (λ is. slice_get is c.args.at ≡ Some c.in-Some.one.now) c.instructions-instructions.ensures c.in-Some.ensures.some in
    let f : slice_get code.instructions (c.args.at + 1) ≡ Some c.in-Some-instruction_in.two.now = subst (λ is. slice_get is (c.args.at + 1) ≡ Some c.in-Some-instruction_in.two.now) c.instructions-instructions.ensures c.in-Some-instruction_in.ensures.some in
    let h : HasTargets c.in-Some-instruction_in.two.now (length c.args.x.now) (length c.args.y.now) = pair-targets-next c.args.code.now c.args.at c.args.count c.if-count-eq2.true c.in-Some.one.now c.in-Some-instruction_in.two.now e f (length c.args.x.now) (length c.args.y.now) (c.in_ok-begun.ensures.argument c.if-not-begun.false) c.requires.targets in
    subst (λ n. HasTargets c.in-Some-instruction_in.two.now n (length c.match_argument.new.y)) (sym c.match_argument.ensures.x_len) (subst (HasTargets c.in-Some-instruction_in.two.now (length c.args.x.now)) (sym c.match_argument.ensures.y_len) h)

pub returns-in-Some-instruction_in-clause-matched : goal.returns-in-Some-instruction_in-clause-matched
returns-in-Some-instruction_in-clause-matched c =
    let code = c.args.code.now in
    let e : slice_get code.instructions c.args.at ≡ Some c.in-Some.one.now = subst (λ is. slice_get is c.args.at ≡ Some c.in-Some.one.now) c.instructions-instructions.ensures c.in-Some.ensures.some in
    let f : slice_get code.instructions (c.args.at + 1) ≡ Some c.in-Some-instruction_in.two.now = subst (λ is. slice_get is (c.args.at + 1) ≡ Some c.in-Some-instruction_in.two.now) c.instructions-instructions.ensures c.in-Some-instruction_in.ensures.some in
    let plain = c.in_ok-begun.ensures.argument c.if-not-begun.false in
    let first : Matched c.args.cells.now.cells (held c.args.x.now) (held c.args.y.now) (step_of code c.in-Some.one.now) c.args.first c.match_argument.new.cells.cells (held c.match_argument.new.x) (held c.match_argument.new.y) true = subst (Matched c.args.cells.now.cells (held c.args.x.now) (held c.args.y.now) (step_of code c.in-Some.one.now) c.args.first c.match_argument.new.cells.cells (held c.match_argument.new.x) (held c.match_argument.new.y)) c.if-not-begun.false c.in_ok-begun.ensures.matched in
    (elim c.match_argument-in-Some-instruction_in.result as (λ r. IfOk r (λ b. Matched c.match_argument.new.cells.cells (held c.match_argument.new.x) (held c.match_argument.new.y) (step_of code c.in-Some-instruction_in.two.now) (c.args.first + 1) c.match_argument-in-Some-instruction_in.new.cells.cells (held c.match_argument-in-Some-instruction_in.new.x) (held c.match_argument-in-Some-instruction_in.new.y) b) → IfOk r (λ b. b ≡ true → is_control c.in-Some-instruction_in.two.now ≡ false) → IfOk r (λ b. MatchedAll code c.args.at c.args.first c.args.count c.args.cells.now.cells (held c.args.x.now) (held c.args.y.now) c.match_argument-in-Some-instruction_in.new.cells.cells (held c.match_argument-in-Some-instruction_in.new.x) (held c.match_argument-in-Some-instruction_in.new.y) b)) [
      | Ok b ↦ λ second argument. pair-matched c.args.code.now c.args.at c.args.count c.if-count-eq2.true c.in-Some.one.now c.in-Some-instruction_in.two.now e f c.args.first c.args.cells.now.cells c.match_argument.new.cells.cells c.match_argument-in-Some-instruction_in.new.cells.cells (held c.args.x.now) (held c.args.y.now) (held c.match_argument.new.x) (held c.match_argument.new.y) (held c.match_argument-in-Some-instruction_in.new.x) (held c.match_argument-in-Some-instruction_in.new.y) c.requires.args plain c.match_argument.ensures.len first b argument second
      | Err r ↦ λ second argument. tt
    ]) c.match_argument-in-Some-instruction_in.ensures.matched c.match_argument-in-Some-instruction_in.ensures.argument

pub returns-in-Some-instruction_in-clause-passed : goal.returns-in-Some-instruction_in-clause-passed
returns-in-Some-instruction_in-clause-passed c =
    let code = c.args.code.now in
    let e : slice_get code.instructions c.args.at ≡ Some c.in-Some.one.now = subst (λ is. slice_get is c.args.at ≡ Some c.in-Some.one.now) c.instructions-instructions.ensures c.in-Some.ensures.some in
    let f : slice_get code.instructions (c.args.at + 1) ≡ Some c.in-Some-instruction_in.two.now = subst (λ is. slice_get is (c.args.at + 1) ≡ Some c.in-Some-instruction_in.two.now) c.instructions-instructions.ensures c.in-Some-instruction_in.ensures.some in
    let plain = c.in_ok-begun.ensures.argument c.if-not-begun.false in
    (elim c.match_argument-in-Some-instruction_in.result as (λ r. IfOk r (λ b. b ≡ true → is_control c.in-Some-instruction_in.two.now ≡ false) → IfOk r (λ b. b ≡ true → NoneOfControl code.instructions c.args.at c.args.count)) [
      | Ok b ↦ λ argument t. pair-passed c.args.code.now c.args.at c.args.count c.if-count-eq2.true c.in-Some.one.now c.in-Some-instruction_in.two.now e f plain (argument t)
      | Err r ↦ λ argument. tt
    ]) c.match_argument-in-Some-instruction_in.ensures.argument

pub returns-in-Some-instruction_in-clause-wants : goal.returns-in-Some-instruction_in-clause-wants
returns-in-Some-instruction_in-clause-wants c =
    let code = c.args.code.now in
    let e : slice_get code.instructions c.args.at ≡ Some c.in-Some.one.now = subst (λ is. slice_get is c.args.at ≡ Some c.in-Some.one.now) c.instructions-instructions.ensures c.in-Some.ensures.some in
    let f : slice_get code.instructions (c.args.at + 1) ≡ Some c.in-Some-instruction_in.two.now = subst (λ is. slice_get is (c.args.at + 1) ≡ Some c.in-Some-instruction_in.two.now) c.instructions-instructions.ensures c.in-Some-instruction_in.ensures.some in
    (elim c.match_argument-in-Some-instruction_in.result as (λ r. OnErr r (is_value c.in-Some-instruction_in.two.now ≡ true) → OnErr r (has_value code.instructions c.args.at c.args.count ≡ true)) [
      | Ok b ↦ λ wants. tt
      | Err r ↦ λ wants. pair-value-next c.args.code.now c.args.at c.args.count c.if-count-eq2.true c.in-Some.one.now c.in-Some-instruction_in.two.now e f wants
    ]) c.match_argument-in-Some-instruction_in.ensures.wants

pub returns-in-Some-instruction_in-clause-keeps : goal.returns-in-Some-instruction_in-clause-keeps
returns-in-Some-instruction_in-clause-keeps c = Keeps-trans c.args.cells.now c.match_argument.new.cells c.match_argument-in-Some-instruction_in.new.cells c.match_argument.ensures.keeps c.match_argument-in-Some-instruction_in.ensures.keeps
