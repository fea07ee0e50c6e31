use Rattle.ap_cells.specs.Raws.{raw_of}
use Rattle.ap_match.proofs.Matches.{push-becomes, push-longer}
use Rattle.ap_match.proofs.matching.push_new.Goals as goal

pub returns-clause-becomes : goal.returns-clause-becomes
returns-clause-becomes c =
    push-becomes c.args.cells.now.cells c.push.new.self.cells c.args.cells.now.trail (raw_of c.args.cell) c.is_store.ensures c.requires.within c.push.ensures.cells c.push.ensures.trees c.push.result c.push.ensures.place

pub returns-clause-fits : goal.returns-clause-fits
returns-clause-fits c =
    push-longer c.args.cells.now.cells c.push.new.self.cells c.args.cells.now.trail (raw_of c.args.cell) c.is_store.ensures c.requires.within c.push.ensures.cells c.push.ensures.trees c.push.result c.push.ensures.place
