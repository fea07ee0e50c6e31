use Rattle.std.proofs.Common.{List, ◌∷◌, subst, ◌∙◌}
use Rattle.ap_term.specs.UpToNames.{SameUpToNames}
use Rattle.ap_tracked.specs.Tracked.{Tracked}
use Rattle.ap_instr.specs.Code.{Compiled}
use Rattle.ap_standing.specs.Holds.{Holds}
use Rattle.ap_machine.specs.View.{Paused}
use Rattle.ap_machine.specs.Stands.{IsAtAnswer}
use Rattle.ap_machine.specs.Lent.{terms_of}
use Rattle.ap_section.proofs.held.Held.tuple.Goals as goal

pub returns-clause-answered : goal.returns-clause-answered
returns-clause-answered c =
    subst (λ (p : Paused). IsAtAnswer p.machine → (code : Compiled) (s : Tracked) (ss : List Tracked) → Holds code p.machine (s ∷ ss) → SameUpToNames (terms_of c.tuple.result) s.tuple) (c.deref.ensures ∙ c.self.view_is) c.tuple.ensures.answered
