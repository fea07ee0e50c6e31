use Rattle.std.proofs.Common.{ℕ, List, subst, w64}
use Rattle.std.proofs.lemmas.Int.{to_z-of_z}
use Rattle.ap_term.specs.Tree.{int}
use Rattle.ap_instr.specs.Step.{unify_constant}
use Rattle.ap_steps.specs.Moves.{held}
use Rattle.ap_steps.specs.Arguments.{Built}
use Rattle.ap_steps.proofs.arguments.build_integer.Goals as goal

pub returns-clause-built : goal.returns-clause-built
returns-clause-built c =
    subst (λ z. (xs ys : List ℕ) → Built c.args.cells.now.cells (held xs) (held ys) (unify_constant (int z)) c.build_cell.new.cells.cells (held xs) (held ys)) (to_z-of_z w64 c.args.value c.ranges.value) c.build_cell.ensures.built
