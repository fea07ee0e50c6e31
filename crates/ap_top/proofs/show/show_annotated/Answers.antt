use Rattle.std.proofs.Common.{◌≡◌}
use Rattle.ap_outside.proofs.Halts.{finishes_map}
use Rattle.ap_cge.specs.Printed.{lines_of}
use Rattle.ap_top.specs.Shows.{IsPrinted}
use Rattle.ap_top.proofs.ShowLayers.{printed_lines}
use Rattle.ap_top.proofs.show.show_annotated.Goals as goal

pub returns-clause-lines : goal.returns-clause-lines
returns-clause-lines g c =
    let k = c.args.kind in
    let E = c.args.entries.now in
    let P = c.args.program.now in
    let table = c.args.atoms.now in
    let A = c.annotated.result.now in
    let certified = c.in-Ok.certified.program in
    finishes_map {T = Unit {0}} _ _ (λ _ put. put ≡ lines_of table A) (λ _. IsPrinted k E P table) c.print_lines.result
    (λ _ ls e. printed_lines k E P A certified table c.annotated.ensures c.in-Ok.ensures.made c.in-Ok.ensures.sound ls e) c.print_lines.ensures.lines
