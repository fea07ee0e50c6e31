use Rattle.std.proofs.Common.{length, slice_get, refl, ap, sym, ◌∙◌}
use Rattle.std.proofs.lemmas.Option.{slice_get_read}
use Rattle.ap_index.proofs.index.Index.choice.Goals as goal

pub returns-in-Some-get : goal.returns-in-Some-get
returns-in-Some-get c =
    let found = c.in-Some-get.ensures.lookup in
    let number = c.in-Some.number.now in
    let held = slice_get_read c.deref-2.result.now (length c.deref-2.result.now) number c.in-Some-get.choice.now refl found.3.0 found.1 in
    λ code h. record { at_it = c.if-choice-at.true; is = h.choices number c.in-Some-get.choice.now (ap (λ choices. slice_get choices number) (sym c.deref-2.ensures.value) ∙ held) }
