use Rattle.std.proofs.Common.{arith}
use Rattle.ap_needs.proofs.Behind.{grown-widths}
use Rattle.ap_needs.proofs.widths.widths_behind.Goals as goal

pub returns : goal.returns
returns c = λ base begins alone h places predicates.
    let wide = c.wider-written.ensures in
    let most = c.max.ensures in
    grown-widths base c.args.code.now begins alone c.args.before (record { x = c.max.result; y = c.wider-written.result.y }) h
    (λ at l. c.of_instructions-own.ensures at c.max.result c.wider-written.result.y (omega arith) (omega (arith, wide.b_x, most)) (omega (arith, wide.b_y)))
    (λ n q l e. let low = c.of_arguments-arguments.ensures n q (omega arith) e in omega (arith, low, most)) (omega (arith, wide.a_x, most)) (omega (arith, wide.a_y))
