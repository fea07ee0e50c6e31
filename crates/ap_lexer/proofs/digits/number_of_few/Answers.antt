use Rattle.std.proofs.Common.{◌*◌, ◌+◌, ◌-◌, suc, drop, get_or, sym, ap, ◌∙◌, arith}
use Rattle.std.proofs.Math.Seq.{drop-cons}
use Rattle.ap_lexer.specs.Lexeme.{number_from}
use Rattle.ap_lexer.proofs.Numbers.{number_from-le}
use Rattle.ap_lexer.proofs.digits.number_of_few.Goals as goal

pub overflow_mul-number : goal.overflow_mul-number
overflow_mul-number c =
    let digits = c.args.digits.now in
    let i = c.loop-b.b-index in
    let n = 10 * c.loop-b.number + (get_or digits i 0 - 48) in
    let same = ap (number_from c.loop-b.number) (sym (drop-cons digits i 0 c.loop-b-test.true)) ∙ c.loop-b.invariant in
    omega (arith, c.requires, same, number_from-le n (drop (suc i) digits))

pub overflow_add-number : goal.overflow_add-number
overflow_add-number c =
    let digits = c.args.digits.now in
    let i = c.loop-b.b-index in
    let n = 10 * c.loop-b.number + (get_or digits i 0 - 48) in
    let same = ap (number_from c.loop-b.number) (sym (drop-cons digits i 0 c.loop-b-test.true)) ∙ c.loop-b.invariant in
    omega (arith, c.requires, same, number_from-le n (drop (suc i) digits), c.from.ensures, c.saturating_sub.ensures)
