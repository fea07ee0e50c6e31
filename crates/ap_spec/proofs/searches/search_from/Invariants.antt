use Rattle.std.proofs.Common.{◌≡◌, ◌+◌, ◌-◌, ◌*◌, ◌≤◌}
use Rattle.std.specs.List.{All}
use Rattle.ap_term.specs.Search.{search}
use Rattle.ap_spec.specs.States.{rules_of}
use Rattle.ap_spec.specs.Searches.{IsWithin, with_answers}
use Rattle.ap_spec.proofs.searches.search_from.Given as goal

abbrev pub invariant-loop-answers : goal.invariant-loop-answers
invariant-loop-answers l = record {
  fewer : l.left ≤ l.n;
  total : with_answers l.answers (search (rules_of l.rules) l.left l.stack) ≡ search (rules_of l.rules) l.n l.initial.stack;
  within : All (IsWithin (256 + 256 * (l.n - l.left)) (l.n - l.left)) l.stack;
}

abbrev pub decreases-loop-answers : goal.decreases-loop-answers
decreases-loop-answers l = l.left
