use Rattle.std.proofs.Common.{refl}
use Rattle.ap_lexer.proofs.Ends.{comment_known}
use Rattle.ap_lexer.proofs.ahead.comment_end.Goals as goal

pub returns-in-Some-clause-value : goal.returns-in-Some-clause-value
returns-in-Some-clause-value c = comment_known c.args.text.now c.args.known.now c.in-Some.seen c.args.from c.in-Some.is c.requires.knows c.if-seen-from.true (c.if-is_behind.ensures.0 refl)
