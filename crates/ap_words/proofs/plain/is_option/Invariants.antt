use Rattle.std.proofs.Common.{◌≡◌, drop, map}
use Rattle.ap_words.specs.Plain.{is_option}
use Rattle.ap_words.proofs.plain.is_option.Given as goal

abbrev pub invariant-loop-option : goal.invariant-loop-option
invariant-loop-option l = is_option (map (λ o. o.now) (drop l.option-index l.options)) l.name ≡ is_option (map (λ o. o.now) l.options) l.name
