use Rattle.ap_index.proofs.head.past.Goals as goal

pub returns-then-reading-gt0 : goal.returns-then-reading-gt0
returns-then-reading-gt0 c = c.past_argument.ensures c.args.code.now
