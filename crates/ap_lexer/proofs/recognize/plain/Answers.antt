use Rattle.ap_lexer.proofs.Classes.{plain-solo}
use Rattle.ap_lexer.proofs.recognize.plain.Goals as goal

pub returns-in-Some-clause-value : goal.returns-in-Some-clause-value
returns-in-Some-clause-value c = plain-solo c.args.text.now c.in-Some.row (cc (c.in-Some.is, c.solo.ensures))
