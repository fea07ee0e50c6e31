use Rattle.std.proofs.Common.{◌≡◌, false, get_or, subst, arith}
use Rattle.ap_term.specs.Vars.{occurs}
use Rattle.ap_cells.specs.Trees.{tree_at, trees}
use Rattle.ap_steps.specs.Arguments.{holds_constant}
use Rattle.ap_steps.specs.Moves.{held}
use Rattle.ap_steps.proofs.Building.{value-built}
use Rattle.ap_steps.proofs.NewCells.{push-keeps}
use Rattle.ap_steps.proofs.arguments.build_value.Goals as goal

pub returns-then-is_constant-clause-built : goal.returns-then-is_constant-clause-built
returns-then-is_constant-clause-built c =
    λ whole inside.
    value-built c.args.cells.now.cells c.push_value-argument.new.cells.cells c.read-place.result c.push_value-argument.result c.push_value-argument.ensures.place c.push_value-argument.ensures.len c.push_value-argument.ensures.becomes
    c.push_value-argument.ensures.fits (held c.args.x.now) (held c.args.y.now) c.args.v c.read-place.ensures

pub returns-then-is_constant-clause-stays : goal.returns-then-is_constant-clause-stays
returns-then-is_constant-clause-stays c =
    push-keeps c.args.cells.now.cells c.push_value-argument.new.cells.cells (tree_at (trees c.args.cells.now.cells) c.read-place.result) c.push_value-argument.ensures.trees

pub returns-else-is_constant-clause-built : goal.returns-else-is_constant-clause-built
returns-else-is_constant-clause-built c =
    λ whole inside.
    value-built c.args.cells.now.cells c.push_value-argument.new.cells.cells c.read-place.result c.push_value-argument.result c.push_value-argument.ensures.place c.push_value-argument.ensures.len c.push_value-argument.ensures.becomes
    c.push_value-argument.ensures.fits (held c.args.x.now) (held c.args.y.now) c.args.v c.read-place.ensures

pub returns-else-is_constant-clause-stays : goal.returns-else-is_constant-clause-stays
returns-else-is_constant-clause-stays c =
    push-keeps c.args.cells.now.cells c.push_value-argument.new.cells.cells (tree_at (trees c.args.cells.now.cells) c.read-place.result) c.push_value-argument.ensures.trees

pub returns-then-is_constant-clause-fresh : goal.returns-then-is_constant-clause-fresh
returns-then-is_constant-clause-fresh c =
    λ t x p inside above below.
    let q : c.push_value-argument.result ≡ p = omega arith in
    subst (λ i. occurs x (tree_at (trees c.push_value-argument.new.cells.cells) i) ≡ false) q (c.is_constant.ensures.apart c.if-is_constant.true x)

pub returns-else-is_constant-clause-values : goal.returns-else-is_constant-clause-values
returns-else-is_constant-clause-values c =
    λ t d. subst (λ i. holds_constant (get_or c.push_value-argument.new.cells.cells i d) ≡ false) c.push_value-argument.ensures.place (c.is_constant.ensures.other c.if-is_constant.false d)
