use Rattle.std.proofs.Common.{◌≡◌, subst, w64}
use Rattle.std.proofs.lemmas.Int.{to_z-of_z}
use Rattle.ap_term.specs.Tree.{int}
use Rattle.ap_match.specs.Fits.{Answered}
use Rattle.ap_steps.specs.Moves.{held}
use Rattle.ap_steps.proofs.Steps.{constant-taken}
use Rattle.ap_steps.proofs.instructions.get_integer.Goals as goal

pub returns-clause-taken : goal.returns-clause-taken
returns-clause-taken c =
    let old = c.args.cells.now.cells in
    let new = c.match_integer.new.cells.cells in
    let b = c.match_integer.result in
    let e = to_z-of_z w64 c.args.value c.ranges.value in
    constant-taken old new (held c.args.x.now) (held c.args.y.now) c.requires.x c.requires.y (int c.args.value) c.args.a b
    (subst (λ q. Answered old new (λ k. k q ≡ int c.args.value) b) c.place_in.ensures (subst (λ z. Answered old new (λ k. k c.place_in.result ≡ int z) b) e c.match_integer.ensures.answered))
