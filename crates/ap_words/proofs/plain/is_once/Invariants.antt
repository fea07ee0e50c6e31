use Rattle.std.proofs.Common.{◌≡◌, drop, map}
use Rattle.ap_words.specs.Plain.{is_once}
use Rattle.ap_words.specs.Values.{value_of}
use Rattle.ap_words.proofs.plain.is_once.Given as goal

abbrev pub invariant-loop-at : goal.invariant-loop-at
invariant-loop-at l = is_once (map (λ o. o.now) l.options) (map value_of (drop l.at l.values)) ≡ is_once (map (λ o. o.now) l.options) (map value_of l.values)
