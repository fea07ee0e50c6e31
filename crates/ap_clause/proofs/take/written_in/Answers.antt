use Rattle.std.proofs.Common.{subst, Err, inr, map}
use Rattle.ap_reader.specs.Reading.{Parsed}
use Rattle.ap_lexer.specs.Token.{view}
use Rattle.ap_clause.proofs.Verdicts.{judges_none}
use Rattle.ap_clause.proofs.take.written_in.Goals as goal

pub returns-in-Err-NotAClause-clause-err : goal.returns-in-Err-NotAClause-clause-err
returns-in-Err-NotAClause-clause-err c =
    let ts = map view c.args.tokens.now in
    let parsed = subst (λ e. Parsed ts (Err e)) c.in-Err-NotAClause.field-0-is c.in-Err-NotAClause.ensures in
    inr (λ source p. judges_none source p ts c.in-Err-NotAClause.line parsed.0 parsed.1 parsed.2)
