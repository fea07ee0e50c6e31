use Rattle.std.proofs.Common.{◌++◌, [], ap, ◌∙◌}
use Rattle.std.specs.Prelude.{if◌then◌else◌}
use Rattle.ap_listing.specs.Switch.{term_switch, constants_switch, structures_switch}
use Rattle.ap_listing.specs.Lines.{switch_text}
use Rattle.ap_listing.specs.Held.{table_in}
use Rattle.ap_listing.proofs.Texts.{three, some_lines}
use Rattle.ap_listing.proofs.switch_lines.push_switch.Goals as goal

pub returns : goal.returns
returns c =
    let o = c.args.origin in
    let s = c.args.switch.now in
    let names = c.args.atoms.now in
    let term = switch_text names o (term_switch names (table_in s)) in
    three c.args.out.now.items c.push_on_term.new.out.items c.push_on_constant.new.out.items c.push_on_structure.new.out.items term
    (if s.has_constants then switch_text names o (constants_switch (table_in s)) else []) (if s.has_structures then switch_text names o (structures_switch names (table_in s)) else [])
    c.in_ok-push_on_term.ensures c.in_ok-push_on_constant.ensures c.in_ok-push_on_structure.ensures
    ∙ ap (λ x. c.args.out.now.items ++ (term ++ x)) (some_lines names o s.has_constants s.has_structures (constants_switch (table_in s)) (structures_switch names (table_in s)))
