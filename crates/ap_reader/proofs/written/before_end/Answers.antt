use Rattle.std.proofs.Common.{ap, ◌∙◌, map}
use Rattle.ap_lexer.specs.Token.{view}
use Rattle.ap_reader.proofs.Trees.{map-push}
use Rattle.ap_reader.proofs.written.before_end.Goals as goal

pub returns-in-End : goal.returns-in-End
returns-in-End c = (view c.in-Some.last.now, c.in-End.is, ap (map view) c.in-Some.ensures.cases.0 ∙ map-push view c.in-Some.front.now c.in-Some.last.now)
