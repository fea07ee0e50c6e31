-- What is written and the lines of the other predicates are all of it.
use Rattle.std.proofs.Common.{◌≡◌, ◌++◌, drop, flat_map}
use Rattle.ap_listing.specs.Lines.{predicate_lines, listing}
use Rattle.ap_listing.proofs.predicates.listing.Given as goal

abbrev pub invariant-loop-predicate : goal.invariant-loop-predicate
invariant-loop-predicate l =
    l.out.items ++ flat_map (predicate_lines l.atoms l.code) (drop l.predicate-index l.code.predicates) ≡ listing l.atoms l.code
