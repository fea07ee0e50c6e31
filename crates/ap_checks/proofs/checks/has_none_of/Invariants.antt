use Rattle.std.proofs.Common.{◌≡◌, ℕ, true, nat_eq, length}
use Rattle.std.specs.List.{list_any}
use Rattle.ap_cells.specs.Trees.{trees}
use Rattle.ap_cells.specs.Walks.{AreRanges, Search, weight_in}
use Rattle.ap_checks.proofs.checks.has_none_of.Given as goal

abbrev pub invariant-loop-variable : goal.invariant-loop-variable
invariant-loop-variable l = record {
  search : (x : ℕ) → list_any (nat_eq x) l.marks ≡ true → Search x (trees l.cells.cells) l.place l.walk.marks l.walk.ranges;
  inside : AreRanges (length l.cells.cells) l.walk.ranges;
}

abbrev pub decreases-loop-variable : goal.decreases-loop-variable
decreases-loop-variable l = weight_in (trees l.cells.cells) l.walk.ranges
