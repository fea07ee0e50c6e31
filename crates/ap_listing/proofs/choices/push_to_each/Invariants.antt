-- The groups before the next one have the clause.
use Rattle.std.proofs.Common.{◌≡◌, length, map}
use Rattle.ap_listing.specs.Grouped.{group_of, with_clause}
use Rattle.ap_listing.proofs.Sets.{each}
use Rattle.ap_listing.proofs.choices.push_to_each.Given as goal

abbrev pub invariant-loop-number : goal.invariant-loop-number
invariant-loop-number l = record {
  count : length l.groups.items ≡ length l.fn.groups.items;
  changed : map group_of l.groups.items ≡ each (with_clause l.clause) l.number (map group_of l.fn.groups.items);
}
