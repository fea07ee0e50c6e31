use Rattle.ap_cells.specs.declared.cells.Raw.TheVariants.{Free}
use Rattle.ap_match.proofs.Matches.{push-becomes, push-longer}
use Rattle.ap_match.proofs.matching.push_free.Goals as goal

pub returns-clause-becomes : goal.returns-clause-becomes
returns-clause-becomes c = push-becomes c.args.cells.now.cells c.push_free.new.self.cells c.args.cells.now.trail Free c.is_store.ensures tt c.push_free.ensures.cells c.push_free.ensures.trees c.push_free.result c.push_free.ensures.place

pub returns-clause-fits : goal.returns-clause-fits
returns-clause-fits c = push-longer c.args.cells.now.cells c.push_free.new.self.cells c.args.cells.now.trail Free c.is_store.ensures tt c.push_free.ensures.cells c.push_free.ensures.trees c.push_free.result c.push_free.ensures.place
