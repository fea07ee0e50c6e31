use Rattle.std.proofs.Common.{◌++◌, sym, ap, ◌∙◌}
use Rattle.ap_listing.specs.Switch.{switches}
use Rattle.ap_listing.specs.Lines.{switches_text, lines, origin_of, instruction_lines}
use Rattle.ap_listing.specs.Held.{table_in, table_if}
use Rattle.ap_listing.proofs.Texts.{two}
use Rattle.ap_listing.proofs.predicates.push_instructions.Goals as goal

pub returns : goal.returns
returns c =
    let out = c.args.out.now.items in
    let names = c.args.atoms.now in
    let code = c.args.code.now in
    let p = c.args.predicate.now in
    let s = c.in-Some.switch in
    let line = c.ahead_of-line.result in
    two out c.push_switch.new.out.items c.push_lines-2.new.out.items
    (switches_text names (origin_of p line) (switches names (table_in s))) (lines names code (origin_of p line) s.instructions.items)
    c.in_ok-push_switch.ensures
    (c.in_ok-push_lines.ensures ∙ ap (λ is. c.push_switch.new.out.items ++ lines names code (origin_of p line) is) c.as_slice.ensures.value)
    ∙ ap (λ n. out ++ (switches_text names (origin_of p n) (switches names (table_in s)) ++ lines names code (origin_of p n) s.instructions.items)) c.ahead_of-line.ensures
    ∙ ap (λ t. out ++ instruction_lines names code p t) (sym (ap table_if c.in-Some.is) ∙ c.in_ok-switch.ensures)
