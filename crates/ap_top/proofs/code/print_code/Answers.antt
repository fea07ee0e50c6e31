use Rattle.std.proofs.Common.{◌≡◌, ◌∙◌, ap}
use Rattle.ap_outside.proofs.Halts.{finishes_map}
use Rattle.ap_top.specs.TextLines.{text_lines}
use Rattle.ap_top.specs.Codes.{IsListed}
use Rattle.ap_top.proofs.code.print_code.Goals as goal

pub returns-clause-lines : goal.returns-clause-lines
returns-clause-lines g c =
    let P = c.args.program.now in
    let table = c.args.atoms.now in
    finishes_map {T = Unit {0}} _ _ (λ _ put. put ≡ text_lines c.deref.result.now) (λ _. IsListed P table) c.put_text.result
    (λ _ ls e. (c.in-Ok.text.items, c.in-Ok.ensures, e ∙ ap text_lines c.deref.ensures.value)) c.put_text.ensures.lines
