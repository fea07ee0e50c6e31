use Rattle.std.proofs.Common.{◌≡◌}
use Rattle.std.specs.List.{All}
use Rattle.ap_spec.specs.States.{rules_of}
use Rattle.ap_spec.specs.Searches.{IsShallow, with_tuples, answers_of_all}
use Rattle.ap_spec.proofs.Depths.{weight}
use Rattle.ap_spec.proofs.searches.answers_from.Given as goal

abbrev pub invariant-loop-tuples : goal.invariant-loop-tuples
invariant-loop-tuples l = record {
  whole : with_tuples l.tuples (answers_of_all (rules_of l.rules) l.stack l.d) ≡ answers_of_all (rules_of l.rules) l.initial.stack l.d;
  shallow : All (IsShallow l.d) l.stack;
}

abbrev pub decreases-loop-tuples : goal.decreases-loop-tuples
decreases-loop-tuples l = weight (rules_of l.rules) l.d l.stack
