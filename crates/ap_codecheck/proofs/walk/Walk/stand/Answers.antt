use Rattle.std.proofs.Common.{length, slice_get, refl, sym, ap, ◌∙◌}
use Rattle.std.proofs.lemmas.Option.{slice_get_read}
use Rattle.ap_codecheck.proofs.walk.Walk.stand.Goals as goal

pub returns-clause-way : goal.returns-clause-way
returns-clause-way c =
    let found = c.in-Some.ensures.lookup in
    let held = slice_get_read c.deref.result.now (length c.deref.result.now) c.args.number c.in-Some.way.now refl found.3.0 found.1 in
    (c.in-Some.way.now, ap (λ ways. slice_get ways c.args.number) (sym c.deref.ensures.value) ∙ held, refl, sym c.in_ok-self.ensures)
