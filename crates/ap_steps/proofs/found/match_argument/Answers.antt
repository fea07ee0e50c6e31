use Rattle.std.proofs.Common.{◌≡◌, true, false, Ok, Err, refl, sym, subst}
use Rattle.std.specs.Prelude.{IfOk, OnErr}
use Rattle.ap_instr.specs.Step.{step_of}
use Rattle.ap_needs.specs.Needs.{is_control, is_value}
use Rattle.ap_steps.specs.Moves.{held}
use Rattle.ap_steps.specs.Found.{Matched}
use Rattle.ap_steps.proofs.found.match_argument.Goals as goal

pub returns-in-UnifyVariable-clause-matched : goal.returns-in-UnifyVariable-clause-matched
returns-in-UnifyVariable-clause-matched c =
    subst (λ i. Matched c.args.cells.now.cells (held c.args.x.now) (held c.args.y.now) (step_of c.args.code.now i) c.args.place c.args.cells.now.cells (held c.match_variable.new.x) (held c.match_variable.new.y) true) (sym c.in-UnifyVariable.is)
    c.match_variable.ensures.matched

pub returns-in-UnifyValue-clause-matched : goal.returns-in-UnifyValue-clause-matched
returns-in-UnifyValue-clause-matched c =
    subst
    (λ i. IfOk c.match_value.result (λ b. Matched c.args.cells.now.cells (held c.args.x.now) (held c.args.y.now) (step_of c.args.code.now i) c.args.place c.match_value.new.cells.cells (held c.args.x.now) (held c.args.y.now) b))
    (sym c.in-UnifyValue.is) c.match_value.ensures.matched

pub returns-in-UnifyValue-clause-argument : goal.returns-in-UnifyValue-clause-argument
returns-in-UnifyValue-clause-argument c =
    subst (λ i. IfOk c.match_value.result (λ b. b ≡ true → is_control i ≡ false)) (sym c.in-UnifyValue.is)
    (elim c.match_value.result as (λ r. IfOk r (λ b. b ≡ true → false ≡ false)) [ Ok b ↦ λ t. refl | Err r ↦ tt ])

pub returns-in-UnifyValue-clause-wants : goal.returns-in-UnifyValue-clause-wants
returns-in-UnifyValue-clause-wants c =
    subst (λ i. OnErr c.match_value.result (is_value i ≡ true)) (sym c.in-UnifyValue.is) (elim c.match_value.result as (λ r. OnErr r (true ≡ true)) [ Ok b ↦ tt | Err r ↦ refl ])

pub returns-in-UnifyConstant-clause-matched : goal.returns-in-UnifyConstant-clause-matched
returns-in-UnifyConstant-clause-matched c =
    subst (λ i. Matched c.args.cells.now.cells (held c.args.x.now) (held c.args.y.now) (step_of c.args.code.now i) c.args.place c.match_name.new.cells.cells (held c.args.x.now) (held c.args.y.now) c.match_name.result)
    (sym c.in-UnifyConstant.is) c.match_name.ensures.matched

pub returns-in-UnifyInteger-clause-matched : goal.returns-in-UnifyInteger-clause-matched
returns-in-UnifyInteger-clause-matched c =
    subst (λ i. Matched c.args.cells.now.cells (held c.args.x.now) (held c.args.y.now) (step_of c.args.code.now i) c.args.place c.match_listed.new.cells.cells (held c.args.x.now) (held c.args.y.now) c.match_listed.result)
    (sym c.in-UnifyInteger.is) c.match_listed.ensures.matched
