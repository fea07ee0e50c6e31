use Rattle.std.proofs.Common.{map, sym, ◌∙◌}
use Rattle.std.proofs.lemmas.Bool.{ltb-false}
use Rattle.ap_lexer.specs.Token.{view}
use Rattle.ap_reader.specs.declared.written.TheConstants.{MAX_OPEN}
use Rattle.ap_reader.specs.Bracket.{most_open}
use Rattle.ap_reader.proofs.written.parse_in.Goals as goal

pub returns-in_default : goal.returns-in_default
returns-in_default c = (ltb-false MAX_OPEN (most_open 0 (map view c.args.tokens.now)) (sym c.is_too_open.ensures ∙ c.if-is_too_open.false), c.first_line-line.ensures, λ front t s. c.in_default.ensures front s.ends)
