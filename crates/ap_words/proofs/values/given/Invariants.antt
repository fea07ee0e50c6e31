use Rattle.std.proofs.Common.{◌≡◌, drop, map}
use Rattle.ap_words.specs.Values.{given, value_of}
use Rattle.ap_words.proofs.values.given.Given as goal

abbrev pub invariant-loop-value : goal.invariant-loop-value
invariant-loop-value l = given l.name (map value_of (drop l.value-index l.values)) ≡ given l.name (map value_of l.values)
