use Rattle.std.proofs.Common.{rules, ◌≡◌, ◌∙◌, ◌+◌, ◌∷◌, ◌++◌, [], take, ap, sym, subst}
use Rattle.std.proofs.lemmas.List.{take_more}
use Rattle.ap_section.specs.Closes.{IsStandAnswer, AreSlotAnswers}
use Rattle.ap_section.proofs.Goings.{answers-more}
use Rattle.ap_section.proofs.settle.answers_of.Goals as goal

pub loop-slot-preserved : goal.loop-slot-preserved
loop-slot-preserved c =
    let found : IsStandAnswer c.slot-item.result.stand c.in-Some.answer = search rules in
    let longer : take (c.loop-slot.slot-index + 1) c.args.slots.now ≡ take c.loop-slot.slot-index c.args.slots.now ++ c.slot-item.result ∷ [] =
    take_more c.args.slots.now c.loop-slot.slot-index c.slot-item.result c.loop-slot-test.true ∙ ap (λ y. take c.loop-slot.slot-index c.args.slots.now ++ y ∷ []) (sym c.slot-item.is) in
    let pushed : c.push.new.self.items ≡ c.loop-slot.answers.items ++ c.in-Some.answer ∷ [] = search rules in
    let more = answers-more (take c.loop-slot.slot-index c.args.slots.now) c.loop-slot.answers.items c.slot-item.result c.in-Some.answer c.loop-slot.invariant found in
    subst (λ xs. AreSlotAnswers xs c.push.new.self.items) (sym longer) (subst (AreSlotAnswers (take c.loop-slot.slot-index c.args.slots.now ++ c.slot-item.result ∷ [])) (sym pushed) more)
