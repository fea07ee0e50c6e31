use Rattle.std.proofs.Common.{◌≡◌, ◌∙◌, Some, map, ap, sym, refl}
use Rattle.std.specs.Prelude.{option_map}
use Rattle.std.proofs.lemmas.Result.{IfOk-weaker}
use Rattle.ap_words.specs.Asked.{asked_of}
use Rattle.ap_words.specs.Reading.{IsRead, asks, reading_of}
use Rattle.ap_words.proofs.Readings.{asks_alone, claps_in, not_plain, plain_in, plain_is, plain_read}
use Rattle.ap_words.proofs.reading.read.Goals as goal

pub returns-in-Some-clause-is : goal.returns-in-Some-clause-is
returns-in-Some-clause-is c =
    let words = map (λ w. w.now) c.args.words.now in
    let found = sym c.in_ok-what.ensures ∙ ap (option_map asked_of) c.in-Some.is in
    IsRead.plain (asked_of c.in-Some.what) (plain_is words (asked_of c.in-Some.what) found) refl

pub returns-in-Some-clause-plain : goal.returns-in-Some-clause-plain
returns-in-Some-clause-plain c = λ what p.
    let words = map (λ w. w.now) c.args.words.now in
    let found : Some (asked_of c.in-Some.what) ≡ Some what = sym (ap (option_map asked_of) c.in-Some.is) ∙ c.in_ok-what.ensures ∙ plain_read words what p in
    cc

pub returns-in-Some-clause-ranges : goal.returns-in-Some-clause-ranges
returns-in-Some-clause-ranges c =
    let words = map (λ w. w.now) c.args.words.now in
    plain_in words (asked_of c.in-Some.what) (sym c.in_ok-what.ensures ∙ ap (option_map asked_of) c.in-Some.is)

pub returns-in-None-clause-is : goal.returns-in-None-clause-is
returns-in-None-clause-is c =
    let words = map (λ w. w.now) c.args.words.now in
    let none = not_plain words (sym c.in_ok-what.ensures ∙ ap (option_map asked_of) c.in-None.is) in
    IfOk-weaker c.by_clap.result _ _ (λ r h. IsRead.other none h) c.by_clap.ensures

pub returns-in-None-clause-plain : goal.returns-in-None-clause-plain
returns-in-None-clause-plain c = λ what p.
    let words = map (λ w. w.now) c.args.words.now in
    absurd (not_plain words (sym c.in_ok-what.ensures ∙ ap (option_map asked_of) c.in-None.is) what p)

pub returns-in-None-clause-ranges : goal.returns-in-None-clause-ranges
returns-in-None-clause-ranges c = IfOk-weaker c.by_clap.result _ _ (λ r h. claps_in _ (reading_of r) h) c.by_clap.ensures

pub returns-in-Some-clause-alone : goal.returns-in-Some-clause-alone
returns-in-Some-clause-alone c = λ what h.
    let words = map (λ w. w.now) c.args.words.now in
    let found = sym c.in_ok-what.ensures ∙ ap (option_map asked_of) c.in-Some.is in
    asks_alone words what (asks (asked_of c.in-Some.what)) h (IsRead.plain (asked_of c.in-Some.what) (plain_is words (asked_of c.in-Some.what) found) refl)

pub returns-in-None-clause-alone : goal.returns-in-None-clause-alone
returns-in-None-clause-alone c = λ what h.
    let words = map (λ w. w.now) c.args.words.now in
    let none = not_plain words (sym c.in_ok-what.ensures ∙ ap (option_map asked_of) c.in-None.is) in
    IfOk-weaker c.by_clap.result _ _ (λ r k. asks_alone words what (reading_of r) h (IsRead.other none k)) c.by_clap.ensures
