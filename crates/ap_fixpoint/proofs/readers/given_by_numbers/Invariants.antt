use Rattle.std.proofs.Common.{◌≡◌, ◌++◌, drop}
use Rattle.std.specs.List.{flat_map}
use Rattle.ap_patterns.specs.Given.{patterns}
use Rattle.ap_fixpoint.specs.Reads.{given_by_number, once, given_by_numbers}
use Rattle.ap_fixpoint.proofs.readers.given_by_numbers.Given as goal

abbrev pub invariant-loop-number : goal.invariant-loop-number
invariant-loop-number l =
    l.given.items ++ flat_map (given_by_number (patterns l.table) l.clauses) (once l.last (drop l.number-index l.numbers)) ≡ given_by_numbers (patterns l.table) l.clauses l.numbers
