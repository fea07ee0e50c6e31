use Rattle.ap_cells.specs.declared.cells.Raw.TheVariants.{Atom as AtomRaw}
use Rattle.ap_match.proofs.Matches.{push-becomes, push-longer}
use Rattle.ap_match.proofs.matching.push_atom.Goals as goal

pub returns-clause-becomes : goal.returns-clause-becomes
returns-clause-becomes c = push-becomes c.args.cells.now.cells c.push_atom.new.self.cells c.args.cells.now.trail (AtomRaw c.args.name) c.is_store.ensures tt c.push_atom.ensures.cells c.push_atom.ensures.trees c.push_atom.result c.push_atom.ensures.place

pub returns-clause-fits : goal.returns-clause-fits
returns-clause-fits c = push-longer c.args.cells.now.cells c.push_atom.new.self.cells c.args.cells.now.trail (AtomRaw c.args.name) c.is_store.ensures tt c.push_atom.ensures.cells c.push_atom.ensures.trees c.push_atom.result c.push_atom.ensures.place
