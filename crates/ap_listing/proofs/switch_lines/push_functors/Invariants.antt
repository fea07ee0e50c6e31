-- What is written and the text of the rest are all of it.
use Rattle.std.proofs.Common.{◌≡◌, ◌++◌, drop}
use Rattle.ap_listing.specs.Held.{functors_text}
use Rattle.ap_listing.proofs.switch_lines.push_functors.Given as goal

abbrev pub invariant-loop-entry : goal.invariant-loop-entry
invariant-loop-entry l = l.out.items ++ functors_text l.atoms l.origin (drop l.entry-index l.entries) ≡ l.fn.out.items ++ functors_text l.atoms l.origin l.entries
