use Rattle.std.proofs.Common.{◌≡◌, ◌≤◌, ◌||◌, length}
use Rattle.std.specs.List.{list_any}
use Rattle.ap_term.specs.Tree.{node}
use Rattle.ap_term.specs.TermView.{trees_of}
use Rattle.ap_reach.specs.Reached.{Place, is_place, is_open_before}
use Rattle.ap_reach.proofs.predicates.add_open_places.Given as goal

abbrev pub invariant-loop-place : goal.invariant-loop-place
invariant-loop-place l =
    (l.arity ≡ length l.args) × (l.place ≤ length l.args) × ((k : Place) → list_any (is_place k) l.found.keys ≡ (list_any (is_place k) l.fn.found.keys || is_open_before l.place k (node l.name (trees_of l.args))))
