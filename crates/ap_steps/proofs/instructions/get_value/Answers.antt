use Rattle.std.proofs.Common.{◌≡◌, subst}
use Rattle.ap_match.specs.Fits.{Answered}
use Rattle.ap_steps.specs.Moves.{held}
use Rattle.ap_steps.proofs.Steps.{value-taken}
use Rattle.ap_steps.proofs.instructions.get_value.Goals as goal

pub returns-clause-taken : goal.returns-clause-taken
returns-clause-taken c =
    let old = c.args.cells.now.cells in
    let new = c.equate.new.cells.cells in
    let b = c.in_ok-answer.answer in
    value-taken old new (held c.args.x.now) (held c.args.y.now) c.requires.x c.requires.y c.args.v c.args.a b
    (subst (λ q. Answered old new (λ k. k q ≡ k (held c.args.x.now c.args.a)) b) c.read-left.ensures
    (subst (λ q. Answered old new (λ k. k c.read-left.result ≡ k q) b) c.place_in-right.ensures c.in_ok-answer.ensures.answered))
