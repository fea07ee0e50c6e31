use Rattle.std.proofs.Common.{◌≡◌, ℕ, ◌≤◌, ◌<◌, true}
use Rattle.ap_term.specs.AtomTable.{is_held}
use Rattle.ap_clause.specs.Fresh.{lift_name}
use Rattle.ap_clause.proofs.fresh.next_name.Given as goal

abbrev pub invariant-loop-number : goal.invariant-loop-number
invariant-loop-number l = record {
  same : l.atoms ≡ l.fn.atoms;
  held : (i : ℕ) → l.fn.from ≤ i → i < l.number → is_held l.fn.atoms (lift_name i) ≡ true;
}
