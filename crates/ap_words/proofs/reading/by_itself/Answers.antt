use Rattle.std.proofs.Common.{◌∙◌, map, ap, sym}
use Rattle.std.specs.Prelude.{option_map, option_and_then}
use Rattle.ap_words.specs.Asked.{asked_by}
use Rattle.ap_words.specs.PlainKept.{line_of}
use Rattle.ap_words.specs.Values.{value_of}
use Rattle.ap_words.proofs.reading.by_itself.Goals as goal

pub returns : goal.returns
returns c =
    c.asked_by.ensures ∙ ap (λ vs. asked_by c.in-Some.line.command.now (map value_of vs)) c.deref.ensures.value
    ∙ ap (option_and_then (λ p. asked_by p.0 p.1)) (ap (option_map line_of) (sym c.in-Some.is) ∙ c.in_ok-line.ensures)
