use Rattle.ap_patterns.specs.Given.{patterns}
use Rattle.ap_fixpoint.proofs.Indexing.{none-given}
use Rattle.ap_fixpoint.proofs.readers.add_numbered.Goals as goal

pub returns-in-None : goal.returns-in-None
returns-in-None c = none-given (patterns c.args.table.now) c.args.clauses.now c.args.number c.args.given.now.items c.in-None.ensures.lookup.3
