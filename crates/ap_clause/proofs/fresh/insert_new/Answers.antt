use Rattle.std.proofs.Common.{◌≡◌, sym, ap, ◌∙◌, subst}
use Rattle.std.specs.Prelude.{is_ok, slice_get}
use Rattle.std.proofs.Common.{true}
use Rattle.ap_term.specs.AtomTable.{insert_name}
use Rattle.ap_reader.specs.Build.{Extends}
use Rattle.ap_clause.proofs.Names.{inserted, was_held, was_new, put_last, new_place, cut_back, some_name, no_name}
use Rattle.ap_clause.proofs.fresh.insert_new.Goals as goal

pub returns-in_default : goal.returns-in_default
returns-in_default c = inserted c.args.atoms.now c.intern.new.self c.args.name.now (is_ok c.intern.result) c.intern.ensures.names

pub returns-then-is_some : goal.returns-then-is_some
returns-then-is_some c =
    let old = c.args.atoms.now in
    let all = inserted old c.intern.new.self c.args.name.now true c.in-Ok.ensures.names in
    let cut : c.cut_to.new.self ≡ old = c.cut_to.ensures ∙ cut_back old c.intern.new.self c.mark-mark.result all c.mark-mark.ensures.mark in
    let there = some_name c.get.result (sym c.is_some.ensures ∙ c.if-is_some.true) in
    (was_held old c.intern.new.self c.args.name.now there.0 c.in-Ok.found c.in-Ok.ensures.names c.in-Ok.ensures.atom (sym (ap (λ l. slice_get l c.in-Ok.found) cut) ∙ sym c.get.ensures ∙ there.1), cut)

pub returns-in-Ok-intern : goal.returns-in-Ok-intern
returns-in-Ok-intern c =
    let old = c.args.atoms.now in
    let name = c.args.name.now in
    let all = inserted old c.intern.new.self name true c.in-Ok.ensures.names in
    let cut : c.cut_to.new.self ≡ old = c.cut_to.ensures ∙ cut_back old c.intern.new.self c.mark-mark.result all c.mark-mark.ensures.mark in
    let gone = no_name c.get.result (sym c.is_some.ensures ∙ c.if-is_some.false) in
    let is_new = was_new old c.intern.new.self name c.in-Ok.found c.in-Ok.ensures.names c.in-Ok.ensures.atom (sym (ap (λ l. slice_get l c.in-Ok.found) cut) ∙ sym c.get.ensures ∙ gone) in
    let last = put_last old c.intern-2.new.self name is_new (c.in-Ok-intern.ensures.names ∙ ap (λ l. insert_name l name) cut) in
    (is_new, new_place old name c.in-Ok-intern.atom is_new (sym (ap (λ l. slice_get l c.in-Ok-intern.atom) last) ∙ c.in-Ok-intern.ensures.atom), last)

pub returns-in-Err : goal.returns-in-Err
returns-in-Err c =
    let old = c.args.atoms.now in
    let all = inserted old c.intern.new.self c.args.name.now true c.in-Ok.ensures.names in
    let cut : c.cut_to.new.self ≡ old = c.cut_to.ensures ∙ cut_back old c.intern.new.self c.mark-mark.result all c.mark-mark.ensures.mark in
    subst (λ l. Extends l c.intern-2.new.self) cut (inserted c.cut_to.new.self c.intern-2.new.self c.args.name.now (is_ok c.intern-2.result) c.intern-2.ensures.names)
