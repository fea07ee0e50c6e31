use Rattle.ap_lexer.proofs.Ends.{line_known}
use Rattle.ap_lexer.proofs.ahead.line_len.Goals as goal

pub returns-in-Some-clause-value : goal.returns-in-Some-clause-value
returns-in-Some-clause-value c = line_known c.args.text.now c.args.known.now c.in-Some.seen c.args.at c.in-Some.is c.requires.knows c.if-seen-at.true c.if-at-seen.true
