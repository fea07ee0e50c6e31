use Rattle.std.proofs.Common.{◌≡◌, None, drop, map}
use Rattle.ap_words.specs.Known.{words_in}
use Rattle.ap_words.specs.Plain.{paired}
use Rattle.ap_words.specs.PlainKept.{joined, stand_of}
use Rattle.ap_words.specs.Values.{value_of}
use Rattle.ap_words.proofs.plain.paired.Given as goal

abbrev pub invariant-loop-word : goal.invariant-loop-word
invariant-loop-word l =
    joined (map value_of l.values.items) (paired (words_in l.known).options (map (λ w. w.now) (drop l.word-index l.words)) (stand_of l.stand))
    ≡ paired (words_in l.known).options (map (λ w. w.now) l.words) ((words_in l.known).places, None)
