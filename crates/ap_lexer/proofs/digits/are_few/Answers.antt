use Rattle.std.proofs.Common.{length, arith}
use Rattle.std.proofs.lemmas.Bool.{leb-true}
use Rattle.ap_lexer.proofs.Numbers.{few_fit}
use Rattle.ap_lexer.proofs.digits.are_few.Goals as goal

pub returns : goal.returns
returns c = λ few.
    let digits = c.args.digits.now in
    few_fit digits (λ k. omega (arith, c.type_inv.digits k)) (leb-true (length digits) 17 few)
