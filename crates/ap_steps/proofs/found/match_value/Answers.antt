use Rattle.std.proofs.Common.{◌≡◌, Ok, Err, subst}
use Rattle.std.specs.Prelude.{IfOk}
use Rattle.ap_instr.specs.Step.{unify_value}
use Rattle.ap_match.specs.Fits.{Answered}
use Rattle.ap_steps.specs.Moves.{held}
use Rattle.ap_steps.specs.Found.{Matched}
use Rattle.ap_steps.proofs.Finding.{value-matched}
use Rattle.ap_steps.proofs.found.match_value.Goals as goal

pub returns-clause-matched : goal.returns-clause-matched
returns-clause-matched c =
    (elim c.equate.result as (λ r. IfOk r (λ b. Answered c.args.cells.now.cells c.equate.new.cells.cells (λ k. k c.read-left.result ≡ k c.args.place) b) → IfOk r (λ b. Matched c.args.cells.now.cells (held c.args.x.now) (held c.args.y.now) (unify_value c.args.v) c.args.place c.equate.new.cells.cells (held c.args.x.now) (held c.args.y.now) b)) [
      | Ok b ↦ λ answered. value-matched c.args.cells.now.cells c.equate.new.cells.cells (held c.args.x.now) (held c.args.y.now) c.requires.x c.requires.y c.args.v c.args.place b
          (subst (λ q. Answered c.args.cells.now.cells c.equate.new.cells.cells (λ k. k q ≡ k c.args.place) b) c.read-left.ensures answered)
      | Err r ↦ λ answered. tt
    ]) c.equate.ensures.answered
