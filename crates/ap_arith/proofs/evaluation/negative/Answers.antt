use Rattle.ap_arith.proofs.evaluation.negative.Goals as goal

pub returns-clause-inside : goal.returns-clause-inside
returns-clause-inside c n h = c.closed.ensures.inside n
