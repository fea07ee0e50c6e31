use Rattle.std.proofs.Common.{◌≡◌, ◌≤◌, [], ◌∷◌, ◌++◌, length, if◌then◌else◌}
use Rattle.ap_term.specs.Tree.{node}
use Rattle.ap_term.specs.TermView.{trees_of}
use Rattle.ap_reach.specs.declared.called.Called.{Called}
use Rattle.ap_reach.specs.Reached.{leads_before}
use Rattle.ap_reach.specs.Index.{clauses_at}
use Rattle.ap_reach.proofs.predicates.add_by_arguments.Given as goal

abbrev pub invariant-loop-place : goal.invariant-loop-place
invariant-loop-place l =
    (l.arity ≡ length l.args) × (l.place ≤ length l.args) × ((k : Called) → clauses_at l.index k ≡ (if leads_before l.place k (node l.name (trees_of l.args)) then clauses_at l.fn.index k ++ l.clause ∷ [] else clauses_at l.fn.index k))
