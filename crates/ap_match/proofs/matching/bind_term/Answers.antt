use Rattle.ap_cells.specs.Raws.{raw_of}
use Rattle.ap_match.proofs.Maps.{bound-fits}
use Rattle.ap_match.proofs.matching.bind_term.Goals as goal

pub returns-clause-becomes : goal.returns-clause-becomes
returns-clause-becomes c =
    bound-fits c.args.cells.now.cells c.bind_to.new.self.cells c.args.x (raw_of c.args.cell) c.requires.inside c.requires.within c.requires.bound c.requires.unbound c.requires.absent c.bind_to.ensures.len c.bind_to.ensures.trees
