use Rattle.std.proofs.Common.{map, sym, arith}
use Rattle.std.proofs.lemmas.Bool.{le-ltb}
use Rattle.std.proofs.lemmas.List.{length-map}
use Rattle.ap_lexer.specs.Token.{view}
use Rattle.ap_reader.specs.declared.written.TheConstants.{MAX_OPEN}
use Rattle.ap_reader.specs.Bracket.{most_open}
use Rattle.ap_reader.proofs.Few.{brackets_few}
use Rattle.ap_reader.proofs.written.is_too_open.Goals as goal

pub returns-then-tokens-le-MAX_OPEN : goal.returns-then-tokens-le-MAX_OPEN
returns-then-tokens-le-MAX_OPEN c =
    let ts = map view c.args.tokens.now in
    sym (le-ltb MAX_OPEN (most_open 0 ts) (omega (arith, brackets_few 0 ts, length-map c.args.tokens.now view, c.if-tokens-le-MAX_OPEN.true)))
