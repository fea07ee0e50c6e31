use Rattle.std.proofs.Common.{◌≤◌, take, length, sym, ap, ◌∙◌, subst}
use Rattle.std.proofs.lemmas.Option.{slice_get-get_or}
use Rattle.std.proofs.lemmas.List.{take_all}
use Rattle.ap_index.specs.Words.{IsShortOf}
use Rattle.ap_index.proofs.Words.{take-next, short-nothing, short-first, short-second, short-more}
use Rattle.ap_index.proofs.word.shorten.Goals.{then-ask-eq1+then-short-eq-NOTHING, else-ask-eq1+then-short-eq-NOTHING-2, else-ask-eq1+else-short-eq-NOTHING-2}
use Rattle.ap_index.proofs.word.shorten.Goals as goal

pub loop-ask-init : goal.loop-ask-init
loop-ask-init c = short-nothing c.args.asks.now _ c.nothing.ensures c.nothing-2.ensures

pub loop-ask-preserved : goal.loop-ask-preserved
loop-ask-preserved c =
    let asks = c.args.asks.now in
    let i = c.loop-ask.ask-index in
    let s = c.loop-ask.short in
    let next = take-next i asks _ (slice_get-get_or asks i _ c.loop-ask-test.true) in
    subst (λ es. IsShortOf es c.if-ask-eq1.short) (sym next)
    (elim c.if-ask-eq1.branch [
      | then-ask-eq1+then-short-eq-NOTHING w ↦ subst (IsShortOf _) (sym (w.short-is ∙ ap (λ v. record s { first = v }) w.of-short.ensures)) (short-first (take i asks) _ s c.loop-ask.invariant w.if-ask-eq1.true w.if-short-eq-NOTHING.true)
      | else-ask-eq1+then-short-eq-NOTHING-2 w ↦ subst (IsShortOf _) (sym (w.short-is ∙ ap (λ v. record s { argument = _; second = v }) w.of-short-then-short-eq-NOTHING-2.ensures)) (short-second (take i asks) _ s c.loop-ask.invariant w.if-short-eq-NOTHING-2.true)
      | else-ask-eq1+else-short-eq-NOTHING-2 w ↦ subst (IsShortOf _) (sym w.short-is) (short-more (take i asks) _ s c.loop-ask.invariant)
    ])

pub returns : goal.returns
returns c =
    let asks = c.args.asks.now in
    let last : length asks ≤ c.loop-ask.ask-index = c.loop-ask-test.false in
    subst (λ es. IsShortOf es c.loop-ask.short) (take_all c.loop-ask.ask-index asks last) c.loop-ask.invariant
