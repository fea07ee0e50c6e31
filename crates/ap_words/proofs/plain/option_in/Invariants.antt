use Rattle.std.proofs.Common.{◌≡◌, drop, map}
use Rattle.ap_words.specs.Plain.{option_in}
use Rattle.ap_words.proofs.plain.option_in.Given as goal

abbrev pub invariant-loop-option : goal.invariant-loop-option
invariant-loop-option l = option_in (map (λ o. o.now) (drop l.option-index l.options)) l.word ≡ option_in (map (λ o. o.now) l.options) l.word
