use Rattle.std.proofs.Common.{◌++◌, codes, ap, ◌∙◌}
use Rattle.std.specs.List.{filter}
use Rattle.ap_listing.specs.Switch.{is_functor}
use Rattle.ap_listing.specs.Lines.{place_text, entries_text}
use Rattle.ap_listing.specs.Held.{functors_text}
use Rattle.ap_listing.proofs.Texts.{four, functors_text-is}
use Rattle.ap_listing.proofs.switch_lines.push_structure_line.Goals as goal

pub returns : goal.returns
returns c =
    let o = c.args.origin in
    let s = c.args.switch.now in
    let names = c.args.atoms.now in
    four c.args.out.now.items c.extend_from_slice.new.self.items c.push_functors.new.out.items c.push_place.new.out.items c.push.new.self.items
    (codes "  switch_on_structure") (entries_text names o (filter (λ e. is_functor names e.key) s.entries.items)) (place_text o s.others) (codes "\n")
    c.in_ok-extend_from_slice.ensures.items
    (c.in_ok-push_functors.ensures ∙ ap (λ x. c.extend_from_slice.new.self.items ++ x) (ap (functors_text names o) c.as_slice.ensures.value ∙ functors_text-is names o s.entries.items))
    c.in_ok-push_place.ensures c.in_ok-push.ensures.items
