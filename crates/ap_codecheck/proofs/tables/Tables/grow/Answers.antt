use Rattle.ap_codecheck.proofs.Keeping.{index-still, goals-still}
use Rattle.ap_codecheck.proofs.tables.Tables.grow.Goals as goal

pub grow-requires : goal.grow-requires
grow-requires c = index-still c.requires.0 c.args.code.now c.args.self.now c.requires.1 c.requires.2

pub grow-requires-3-clause-asked : goal.grow-requires-3-clause-asked
grow-requires-3-clause-asked c = goals-still c.requires.0 c.args.code.now c.args.self.now c.requires.1 c.requires.2
