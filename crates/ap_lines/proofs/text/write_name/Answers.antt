use Rattle.std.proofs.Common.{◌++◌, ap, ◌∙◌}
use Rattle.ap_writer.specs.Text.{name_at}
use Rattle.ap_lines.proofs.Spans.{atom-own}
use Rattle.ap_lines.proofs.text.write_name.Goals as goal
use Rattle.ap_term.proofs.Lists.{prefix-refl}

pub returns-clause-text : goal.returns-clause-text
returns-clause-text c =
    let numbers = c.write_term.new.numbers in
    c.in_ok-write_term.ensures.text numbers (prefix-refl numbers) ∙ ap (λ m. c.args.out.now.items ++ m) (atom-own (name_at c.args.atoms.now c.args.name))
