use Rattle.std.proofs.Common.{◌≡◌, ◌+◌, ◌∙◌, ap, arith}
use Rattle.ap_lexer.specs.Piece.{line_at}
use Rattle.ap_lexer.proofs.cutter.Cutter.behind.Goals as goal

pub returns-clause-stands : goal.returns-clause-stands
returns-clause-stands c = record {
  within = omega arith;
  sound = c.new.ensures c.args.text.now;
  line_low = omega (arith, c.requires.line);
  fits = c.requires.fits;
}

pub returns-clause-cuts : goal.returns-clause-cuts
returns-clause-cuts c = λ whole e l.
    let here : c.args.before ≡ c.args.before + 0 = omega arith in
    record { rest = e; line_is = l ∙ ap (line_at whole) here }
