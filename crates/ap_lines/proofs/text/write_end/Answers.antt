use Rattle.std.proofs.Common.{length}
use Rattle.ap_lines.proofs.text.write_end.Goals as goal

pub returns-in_ok-put_two-clause-inside : goal.returns-in_ok-put_two-clause-inside
returns-in_ok-put_two-clause-inside c = λ k. c.in_ok-put_two.ensures.inside (length c.args.cells.now.cells) c.requires.inside tt k
