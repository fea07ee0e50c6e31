use Rattle.std.proofs.Common.{◌≡◌, sym, ap, ◌∙◌, drop, arith}
use Rattle.ap_lexer.specs.Lexeme.{closing}
use Rattle.ap_lexer.proofs.ahead.run.Goals as goal

pub returns : goal.returns
returns c =
    let there : c.loop-at.at ≡ c.args.to = omega (arith, c.loop-at.invariant.1, c.loop-at-test.false) in
    sym c.loop-at.invariant.0 ∙ ap (λ n. closing c.loop-at.here n (drop n c.args.text.now)) there
