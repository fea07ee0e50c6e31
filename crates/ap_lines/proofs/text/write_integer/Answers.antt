use Rattle.std.proofs.Common.{◌++◌, ap, ◌∙◌}
use Rattle.std.specs.Fmt.{signed_decimal}
use Rattle.std.proofs.lemmas.Int.{to_z-of_z}
use mir.Syntax.{w64}
use Rattle.ap_lines.proofs.text.write_integer.Goals as goal
use Rattle.ap_term.proofs.Lists.{prefix-refl}

pub returns-clause-text : goal.returns-clause-text
returns-clause-text c =
    let numbers = c.write_term.new.numbers in
    c.in_ok-write_term.ensures.text numbers (prefix-refl numbers) ∙ ap (λ z. c.args.out.now.items ++ signed_decimal z) (to_z-of_z w64 c.args.n c.ranges.n)
