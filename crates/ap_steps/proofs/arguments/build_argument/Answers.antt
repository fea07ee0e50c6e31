use Rattle.std.proofs.Common.{true, false, length, slice_get, sym, subst}
use Rattle.ap_instr.specs.Step.{step_of, unify_constant, with_integer}
use Rattle.ap_steps.specs.Moves.{held}
use Rattle.ap_steps.specs.Arguments.{Built, BuiltOr, are_built}
use Rattle.ap_steps.proofs.Building.{read-but}
use Rattle.ap_steps.proofs.arguments.build_argument.Goals as goal

pub returns-in-UnifyValue-clause-built : goal.returns-in-UnifyValue-clause-built
returns-in-UnifyValue-clause-built c =
    λ whole hx hy.
    subst (λ i. BuiltOr whole c.args.cells.now.cells (held c.args.x.now) (held c.args.y.now) (step_of c.args.code.now i) c.build_value.new.cells.cells (held c.args.x.now) (held c.args.y.now) (are_built c.build_value.result)) (sym c.in-UnifyValue.is)
    (c.build_value.ensures.built whole (read-but whole (length c.args.cells.now.cells) c.args.x.now c.args.y.now c.in-UnifyValue.v hx hy))

pub returns-in-UnifyConstant-clause-built : goal.returns-in-UnifyConstant-clause-built
returns-in-UnifyConstant-clause-built c =
    λ whole hx hy.
    subst (λ i. Built c.args.cells.now.cells (held c.args.x.now) (held c.args.y.now) (step_of c.args.code.now i) c.build_atom.new.cells.cells (held c.args.x.now) (held c.args.y.now)) (sym c.in-UnifyConstant.is)
    (c.build_atom.ensures.built c.args.x.now c.args.y.now)

pub returns-then-build_listed-clause-built : goal.returns-then-build_listed-clause-built
returns-then-build_listed-clause-built c =
    λ whole hx hy.
    subst (λ i. BuiltOr whole c.args.cells.now.cells (held c.args.x.now) (held c.args.y.now) (step_of c.args.code.now i) c.build_listed.new.cells.cells (held c.args.x.now) (held c.args.y.now) true) (sym c.in-UnifyInteger.is)
    (subst (BuiltOr whole c.args.cells.now.cells (held c.args.x.now) (held c.args.y.now) (with_integer (slice_get c.args.code.now.integers c.in-UnifyInteger.i) unify_constant) c.build_listed.new.cells.cells (held c.args.x.now) (held c.args.y.now)) c.if-build_listed.true
    (c.build_listed.ensures.built whole c.args.x.now c.args.y.now))

pub returns-else-build_listed-clause-built : goal.returns-else-build_listed-clause-built
returns-else-build_listed-clause-built c =
    λ whole hx hy.
    subst (λ i. BuiltOr whole c.args.cells.now.cells (held c.args.x.now) (held c.args.y.now) (step_of c.args.code.now i) c.build_listed.new.cells.cells (held c.args.x.now) (held c.args.y.now) false) (sym c.in-UnifyInteger.is)
    (subst (BuiltOr whole c.args.cells.now.cells (held c.args.x.now) (held c.args.y.now) (with_integer (slice_get c.args.code.now.integers c.in-UnifyInteger.i) unify_constant) c.build_listed.new.cells.cells (held c.args.x.now) (held c.args.y.now)) c.if-build_listed.false
    (c.build_listed.ensures.built whole c.args.x.now c.args.y.now))
