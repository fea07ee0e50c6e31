use Rattle.std.proofs.Common.{◌≡◌, length, subst, ◌∙◌}
use Rattle.ap_machine.specs.View.{Paused}
use Rattle.ap_machine.specs.Forking.{HasForked}
use Rattle.ap_section.proofs.held.Held.group_goals.Goals as goal

pub returns : goal.returns
returns c = subst (λ (p : Paused). (t : Paused) (h : HasForked c.args.sound.now p t) → length h.forked.goals ≡ c.group_goals.result) (c.deref.ensures ∙ c.self.view_is) c.group_goals.ensures
