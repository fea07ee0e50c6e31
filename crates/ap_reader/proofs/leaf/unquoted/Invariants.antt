use Rattle.std.proofs.Common.{◌≡◌, ◌++◌, length}
use Rattle.ap_reader.specs.declared.leaf.Quote.TheVariants as quote
use Rattle.ap_reader.specs.Written.{unquoted}
use Rattle.ap_reader.proofs.leaf.unquoted.Given as goal

abbrev pub invariant-loop-left : goal.invariant-loop-left
invariant-loop-left l = l.out.items ++ unquoted l.state l.left ≡ unquoted quote.Plain l.text

abbrev pub decreases-loop-left : goal.decreases-loop-left
decreases-loop-left l = length l.left
