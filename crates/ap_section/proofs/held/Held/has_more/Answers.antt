use Rattle.std.proofs.Common.{◌≡◌, List, [], ◌∷◌, true, subst, ◌∙◌}
use Rattle.ap_tracked.specs.Tracked.{Tracked}
use Rattle.ap_instr.specs.Code.{Compiled}
use Rattle.ap_standing.specs.Holds.{Holds}
use Rattle.ap_machine.specs.View.{Paused, IsFor}
use Rattle.ap_machine.specs.Stands.{IsAtAnswer}
use Rattle.ap_section.proofs.held.Held.has_more.Goals as goal

pub returns-clause-more : goal.returns-clause-more
returns-clause-more c =
    subst (λ (p : Paused). c.has_more.result ≡ true → (code : Compiled) → IsFor code p → IsAtAnswer p.machine → (s : Tracked) (ss : List Tracked) → Holds code p.machine (s ∷ ss) → ss ≡ [] → ⊥) (c.deref.ensures ∙ c.self.view_is) c.has_more.ensures.more
