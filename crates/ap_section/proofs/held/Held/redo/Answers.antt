use Rattle.std.proofs.Common.{List, ◌∷◌, subst, ◌∙◌}
use Rattle.ap_tracked.specs.Tracked.{Tracked}
use Rattle.ap_instr.specs.Code.{Compiled}
use Rattle.ap_standing.specs.Holds.{Holds}
use Rattle.ap_machine.specs.View.{Paused}
use Rattle.ap_machine.specs.Stands.{IsAtAnswer}
use Rattle.ap_section.proofs.held.Held.redo.Goals as goal

pub returns-clause-left : goal.returns-clause-left
returns-clause-left c =
    subst (λ (p : Paused). IsAtAnswer p.machine → (code : Compiled) (s : Tracked) (ss : List Tracked) → Holds code p.machine (s ∷ ss) → Holds code c.redo.new.self.machine ss) (c.deref_mut.ensures.value ∙ c.self.view_is) c.redo.ensures.left
