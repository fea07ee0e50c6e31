use Rattle.std.proofs.Common.{◌∙◌, ◌+◌, drop, map, ap, sym}
use Rattle.std.specs.Prelude.{option_map}
use Rattle.std.proofs.lemmas.List.{at_drop_more}
use Rattle.ap_words.specs.Known.{words_in}
use Rattle.ap_words.specs.Plain.{paired}
use Rattle.ap_words.specs.PlainKept.{joined, stand_of}
use Rattle.ap_words.specs.Values.{value_of}
use Rattle.ap_words.proofs.Loops.{paired-flag, paired-plain}
use Rattle.ap_words.proofs.plain.paired.Goals as goal
use Rattle.ap_words.proofs.plain.paired.Goals.{then-is_plain+in-Some+in_ok-push, else-is_plain+in-Some-flag_step}

pub loop-word-preserved : goal.loop-word-preserved
loop-word-preserved c =
    let words = c.args.words.now in
    let i = c.loop-word.word-index in
    let options = (words_in c.args.known).options in
    let items = c.loop-word.values.items in
    let stand = stand_of c.loop-word.stand in
    let next = paired options (map (λ w. w.now) (drop (i + 1) words)) in
    let before = sym (at_drop_more (λ ws. joined (map value_of items) (paired options (map (λ w. w.now) ws) stand)) words i _ c.loop-word-test.true) ∙ c.loop-word.invariant in
    let rest = map (λ w. w.now) (drop (i + 1) words) in
    elim c.if-is_plain.branch [
      | then-is_plain+in-Some+in_ok-push w ↦
          let step = ap (option_map (λ p. (stand_of p.0, p.1.now))) (sym w.in-Some.is) ∙ w.plain_step.ensures in
          ap (λ s. joined (map value_of c.if-is_plain.values.items) (next (stand_of s))) w.stand-is
          ∙ paired-plain options items c.if-is_plain.values.items _ rest stand (stand_of w.in-Some.next) (ap (λ v. v.items) w.values-is ∙ w.in_ok-push.ensures.items) step (sym w.if-is_plain.true ∙ c.is_plain.ensures)
          ∙ before
      | else-is_plain+in-Some-flag_step w ↦
          let step = ap (option_map stand_of) (sym w.in-Some-flag_step.is) ∙ w.flag_step.ensures in
          ap (λ s. joined (map value_of c.if-is_plain.values.items) (next (stand_of s))) w.stand-is
          ∙ ap (λ vs. joined (map value_of vs.items) (next (stand_of w.in-Some-flag_step.next))) w.values-is
          ∙ paired-flag options items _ rest stand (stand_of w.in-Some-flag_step.next) step (sym w.if-is_plain.false ∙ c.is_plain.ensures)
          ∙ before
    ]
