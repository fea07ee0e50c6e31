use Rattle.std.proofs.Common.{List, ◌∷◌, subst, ◌∙◌}
use Rattle.std.specs.Prelude.{IfOk}
use Rattle.ap_term.specs.Tree.{Trees}
use Rattle.ap_term.specs.UpToNames.{SameUpToNames}
use Rattle.ap_tracked.specs.Tracked.{Tracked}
use Rattle.ap_instr.specs.Code.{Compiled}
use Rattle.ap_standing.specs.Holds.{Holds}
use Rattle.ap_machine.specs.View.{Paused}
use Rattle.ap_machine.specs.Stands.{IsAtAnswer}
use Rattle.ap_section.proofs.held.Held.answer.Goals as goal

pub returns-clause-answered : goal.returns-clause-answered
returns-clause-answered c =
    subst (λ (p : Paused). IfOk c.answer.result (λ (parcel : Trees). IsAtAnswer p.machine → (code : Compiled) (s : Tracked) (ss : List Tracked) → Holds code p.machine (s ∷ ss) → SameUpToNames parcel s.tuple)) (c.deref.ensures ∙ c.self.view_is) c.answer.ensures.answered
