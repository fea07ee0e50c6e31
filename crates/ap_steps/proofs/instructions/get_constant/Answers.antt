use Rattle.std.proofs.Common.{◌≡◌, subst}
use Rattle.ap_term.specs.Tree.{atom}
use Rattle.ap_match.specs.Fits.{Answered}
use Rattle.ap_steps.specs.Moves.{held}
use Rattle.ap_steps.proofs.Steps.{constant-taken}
use Rattle.ap_steps.proofs.instructions.get_constant.Goals as goal

pub returns-clause-taken : goal.returns-clause-taken
returns-clause-taken c =
    let old = c.args.cells.now.cells in
    let new = c.match_atom.new.cells.cells in
    let b = c.match_atom.result in
    constant-taken old new (held c.args.x.now) (held c.args.y.now) c.requires.x c.requires.y (atom c.args.name) c.args.a b
    (subst (λ q. Answered old new (λ k. k q ≡ atom c.args.name) b) c.place_in.ensures c.match_atom.ensures.answered)
