use Rattle.std.proofs.Common.{◌≡◌, ◌+◌, ◌-◌, ap, ◌∙◌, drop, arith, sym}
use Rattle.ap_lexer.specs.Lexeme.{lexemes}
use Rattle.ap_lexer.specs.Piece.{line_at}
use Rattle.ap_lexer.specs.Token.{tokens_from}
use Rattle.ap_lexer.proofs.NextPiece.{seen}
use Rattle.ap_lexer.proofs.Streaming.{whole_tokens}
use Rattle.ap_lexer.proofs.stream.Tokens.between.Goals as goal

pub returns-clause-stands : goal.returns-clause-stands
returns-clause-stands c =
    let p = c.args.piece.now in
    let within = c.requires.within in
    record {
      within = omega (arith, within.low, within.some, within.high);
      end = omega (arith, within.low, within.high);
      sound = c.new.ensures c.args.text.now;
      line_low = omega (arith, within.low, within.line_low);
      fits = c.requires.fits;
    }

pub returns-clause-gives : goal.returns-clause-gives
returns-clause-gives c = λ whole rest line.
    let p = c.args.piece.now in
    let before = c.args.before in
    let within = c.requires.within in
    let from : p.from ≡ before + (p.from - before) = omega (arith, within.low) in
    let to : p.to ≡ before + (p.to - before) = omega (arith, within.low, within.some) in
    let at = p.from - before in
    let there = seen c.args.text.now whole before at rest in
    record {
      are = sym (
          whole_tokens c.args.text.now whole before at (p.to - before) p.line (lexemes (drop at c.args.text.now)) rest (line ∙ ap (line_at whole) from)
          ∙ ap (λ r. tokens_from whole (before + at) (before + (p.to - before)) (lexemes r)) there
          ∙ ap (λ n. tokens_from whole n (before + (p.to - before)) (lexemes (drop n whole))) (sym from) ∙ ap (λ n. tokens_from whole p.from n (lexemes (drop p.from whole))) (sym to));
    }
