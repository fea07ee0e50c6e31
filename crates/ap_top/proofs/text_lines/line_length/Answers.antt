use Rattle.ap_top.proofs.TextLines.{length_to, length_all}
use Rattle.ap_top.proofs.text_lines.line_length.Goals as goal

pub returns-in-Some-clause-is : goal.returns-in-Some-clause-is
returns-in-Some-clause-is c = length_to c.args.text.now c.first_feed.result c.in-Some.at c.first_feed.ensures c.in-Some.is

pub returns-in-None-clause-is : goal.returns-in-None-clause-is
returns-in-None-clause-is c = length_all c.args.text.now c.first_feed.result c.first_feed.ensures c.in-None.is
