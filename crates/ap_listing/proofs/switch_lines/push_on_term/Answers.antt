use Rattle.std.proofs.Common.{◌++◌, codes, ap, ◌∙◌}
use Rattle.ap_listing.specs.declared.switch.Place.TheVariants.{Line}
use Rattle.ap_listing.specs.Switch.{is_cell, first_place, lines_of, constants_place, structures_place}
use Rattle.ap_listing.specs.Lines.{place_text}
use Rattle.ap_listing.specs.Held.{table_in}
use Rattle.ap_listing.proofs.Texts.{six}
use Rattle.ap_listing.proofs.switch_lines.push_on_term.Goals as goal

pub returns : goal.returns
returns c =
    let o = c.args.origin in
    let s = c.args.switch.now in
    let names = c.args.atoms.now in
    six c.args.out.now.items c.extend_from_slice.new.self.items c.push_place.new.out.items c.push_place-2.new.out.items c.push_place-3.new.out.items c.push_place-4.new.out.items c.push.new.self.items
    (codes "  switch_on_term") (place_text o (Line (lines_of s.has_constants s.has_structures))) (place_text o (constants_place (table_in s)))
    (place_text o (first_place (is_cell names) s.entries.items s.others)) (place_text o (structures_place (table_in s))) (codes "\n")
    c.in_ok-extend_from_slice.ensures.items
    (c.in_ok-push_place.ensures ∙ ap (λ n. c.extend_from_slice.new.self.items ++ place_text o (Line n)) c.requires)
    (c.in_ok-push_place-2.ensures ∙ ap (λ p. c.push_place.new.out.items ++ place_text o p) c.constants_place.ensures)
    (c.in_ok-push_place-3.ensures ∙ ap (λ p. c.push_place-2.new.out.items ++ place_text o p) (c.cell_place-cells.ensures ∙ ap (λ es. first_place (is_cell names) es s.others) c.as_slice.ensures.value))
    (c.in_ok-push_place-4.ensures ∙ ap (λ p. c.push_place-3.new.out.items ++ place_text o p) c.structures_place.ensures)
    c.in_ok-push.ensures.items
