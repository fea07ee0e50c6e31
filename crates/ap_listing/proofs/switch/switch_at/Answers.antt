use Rattle.std.proofs.Common.{◌≡◌, ◌<◌, ◌≤◌, sym, ap, ◌∙◌, length, arith}
use Rattle.std.proofs.lemmas.Bool.{eqb-true, eqb-false}
use Rattle.ap_listing.specs.Held.{table_in}
use Rattle.ap_listing.proofs.Tables.{table-open, table-found, table_with, held-none}
use Rattle.ap_listing.proofs.switch.switch_at.Goals as goal

pub returns-then-is_empty : goal.returns-then-is_empty
returns-then-is_empty c =
    let gs = c.in_ok-choices.choices.groups in
    let none : gs.len ≡ 0 = eqb-true gs.len 0 (sym c.is_empty.ensures ∙ c.if-is_empty.true) in
    let g = c.in_ok-choices.ensures in
    sym (table-open c.args.atoms.now c.args.code.now c.args.predicate.now c.args.places.now (sym g.are ∙ held-none gs.items (sym gs.ok.0 ∙ none)))

pub returns : goal.returns
returns c =
    let gs = c.in_ok-choices.choices.groups in
    let g = c.in_ok-choices.ensures in
    let ls = c.args.places.now in
    let some : 0 < length gs.items = omega (arith, gs.ok.0, eqb-false gs.len 0 (sym c.is_empty.ensures ∙ c.if-is_empty.false)) in
    let two : 2 ≤ length ls = omega arith in
    let own = ap (λ own. table_with c.args.atoms.now c.in_ok-choices.choices.others.items gs.items own) c.instructions_of.ensures in
    table-found c.args.atoms.now c.args.code.now c.args.predicate.now ls (table_in c.in_ok-switch.switch) c.in_ok-choices.choices.others.items gs.items two some g.are g.left
    (c.in_ok-switch.ensures ∙ own)
