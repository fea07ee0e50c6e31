use Rattle.std.proofs.Common.{◌+◌, ◌-◌, ◌*◌, ◌<◌, ◌^◌, suc, drop, get_or, sym, ap, ◌∙◌, leb, arith}
use Rattle.std.proofs.Math.Seq.{drop-cons}
use Rattle.ap_lexer.specs.Lexeme.{number_from}
use Rattle.ap_lexer.proofs.Numbers.{too_large}
use Rattle.ap_lexer.proofs.digits.tested_number.Goals as goal

pub returns-then-number-gt-GREATEST : goal.returns-then-number-gt-GREATEST
returns-then-number-gt-GREATEST c =
    let digits = c.args.digits.now in
    let i = c.loop-b.b-index in
    let same = sym c.loop-b.invariant.0 ∙ ap (number_from c.loop-b.number) (drop-cons digits i 0 c.loop-b-test.true) in
    let above : 2 ^ 63 < 10 * c.loop-b.number + (get_or digits i 0 - 48) = omega (arith, c.from.ensures, c.saturating_sub.ensures) in
    ap (λ n. leb n (2 ^ 63)) same ∙ too_large (2 ^ 63) (10 * c.loop-b.number + (get_or digits i 0 - 48)) (drop (suc i) digits) above

pub returns-then-number-gt-TENTH : goal.returns-then-number-gt-TENTH
returns-then-number-gt-TENTH c =
    let digits = c.args.digits.now in
    let i = c.loop-b.b-index in
    let same = sym c.loop-b.invariant.0 ∙ ap (number_from c.loop-b.number) (drop-cons digits i 0 c.loop-b-test.true) in
    let above : 2 ^ 63 < 10 * c.loop-b.number + (get_or digits i 0 - 48) = omega (arith, c.if-number-gt-TENTH.true) in
    ap (λ n. leb n (2 ^ 63)) same ∙ too_large (2 ^ 63) (10 * c.loop-b.number + (get_or digits i 0 - 48)) (drop (suc i) digits) above
