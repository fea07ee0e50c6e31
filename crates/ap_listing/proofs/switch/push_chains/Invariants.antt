-- What is put in and what the rest needs are all of it.
use Rattle.std.proofs.Common.{◌≡◌, ◌++◌, ◌+◌, drop, length, map}
use Rattle.ap_listing.specs.Switch.{entries, chains}
use Rattle.ap_listing.specs.Grouped.{group_of}
use Rattle.ap_listing.proofs.switch.push_chains.Given as goal

abbrev pub invariant-loop-group : goal.invariant-loop-group
invariant-loop-group l = record {
  chains : l.instructions.items ++ chains (map group_of (drop l.group-index l.groups)) ≡ l.fn.instructions.items ++ chains (map group_of l.groups);
  entries : l.entries.items ++ entries (l.ahead + length l.instructions.items) (map group_of (drop l.group-index l.groups)) ≡ entries (l.ahead + length l.fn.instructions.items) (map group_of l.groups);
}
