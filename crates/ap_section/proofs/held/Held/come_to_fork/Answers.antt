use Rattle.std.proofs.Common.{sym, subst, ◌∙◌}
use Rattle.ap_machine.specs.View.{IsFor}
use Rattle.ap_section.proofs.held.Held.come_to_fork.Goals as goal

pub returns-clause-is_for : goal.returns-clause-is_for
returns-clause-is_for c = λ code h. c.come_to_fork.ensures.is_for code (subst (IsFor code) (sym (c.deref_mut.ensures.value ∙ c.self.view_is)) h)
