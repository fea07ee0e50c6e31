use Rattle.ap_term.specs.Tree.{atom}
use Rattle.ap_steps.specs.Moves.{held}
use Rattle.ap_steps.proofs.Finding.{constant-matched}
use Rattle.ap_steps.proofs.found.match_name.Goals as goal

pub returns-clause-matched : goal.returns-clause-matched
returns-clause-matched c =
    constant-matched c.args.cells.now.cells c.match_atom.new.cells.cells (held c.args.x.now) (held c.args.y.now) c.requires.x c.requires.y (atom c.args.name) c.args.place c.match_atom.result c.match_atom.ensures.answered
