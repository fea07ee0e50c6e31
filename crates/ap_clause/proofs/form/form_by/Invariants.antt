use Rattle.std.proofs.Common.{◌≡◌, List, [], map, length}
use Rattle.ap_reader.specs.Written.{leaf_of}
use Rattle.ap_reader.specs.Evaluated.{Value, evaluated, stacked}
use Rattle.ap_clause.specs.Shape.{shape_of}
use Rattle.ap_clause.proofs.form.form_by.Given as goal

abbrev pub invariant-loop-rest : goal.invariant-loop-rest
invariant-loop-rest l =
    (vs : List Value) × (l.stack.items ≡ stacked shape_of vs) × (evaluated (map leaf_of l.leaves) vs l.rest ≡ evaluated (map leaf_of l.leaves) [] l.steps)

abbrev pub decreases-loop-rest : goal.decreases-loop-rest
decreases-loop-rest l = length l.rest
