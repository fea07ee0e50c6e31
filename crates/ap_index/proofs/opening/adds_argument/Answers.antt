use Rattle.std.proofs.Common.{◌+◌, ◌∷◌, slice_get, sym, subst}
use Rattle.ap_term.specs.Tree.{atom}
use Rattle.ap_instr.specs.Step.{step_of}
use Rattle.ap_index.specs.Opening.{IsOpenInside}
use Rattle.ap_index.proofs.Building.{constant-opens, value-opens, variable-opens, listed-opens}
use Rattle.ap_index.proofs.opening.adds_argument.Goals as goal

pub returns-in-UnifyVariable-clause-opens : goal.returns-in-UnifyVariable-clause-opens
returns-in-UnifyVariable-clause-opens c = λ b n is h.
    subst (λ i. IsOpenInside c.args.whole (n + 1) (step_of c.args.code.now i ∷ is)) (sym c.in-UnifyVariable.is) (variable-opens c.args.whole n is h c.in-UnifyVariable.v (c.is_apart.ensures b))

pub returns-in-UnifyValue-clause-opens : goal.returns-in-UnifyValue-clause-opens
returns-in-UnifyValue-clause-opens c = λ b n is h.
    subst (λ i. IsOpenInside c.args.whole (n + 1) (step_of c.args.code.now i ∷ is)) (sym c.in-UnifyValue.is) (value-opens c.args.whole n is h c.in-UnifyValue.v (c.is_apart-in-UnifyValue.ensures b))

pub returns-in-UnifyConstant-clause-opens : goal.returns-in-UnifyConstant-clause-opens
returns-in-UnifyConstant-clause-opens c = λ b n is h.
    subst (λ i. IsOpenInside c.args.whole (n + 1) (step_of c.args.code.now i ∷ is)) (sym c.in-UnifyConstant.is) (constant-opens c.args.whole n is h (atom c.in-UnifyConstant.field-0))

pub returns-in-Some-clause-opens : goal.returns-in-Some-clause-opens
returns-in-Some-clause-opens c = λ b n is h.
    subst (λ i. IsOpenInside c.args.whole (n + 1) (step_of c.args.code.now i ∷ is)) (sym c.in-UnifyInteger.is)
    (listed-opens c.args.whole n is h (slice_get c.args.code.now.integers c.in-UnifyInteger.index) c.in-Some.field-0 c.in-Some.ensures)
