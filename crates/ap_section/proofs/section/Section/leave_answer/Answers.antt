use Rattle.std.proofs.Common.{◌∙◌, ◌+◌, ◌<◌, ◌^◌, ap, sym, subst}
use Rattle.ap_machine.specs.View.{Paused, IsFor}
use Rattle.ap_section.specs.Views.{view_of, spent_in}
use Rattle.ap_section.specs.Ready.{IsReady}
use Rattle.ap_section.proofs.Levels.{view_of-out}
use Rattle.ap_section.proofs.Closes.{going-view, going-ready, twice, search-of}
use Rattle.ap_section.proofs.section.Section.leave_answer.Goals as goal

pub grant-requires : goal.grant-requires
grant-requires c = subst (λ n. n + c.args.rest < 2 ^ 64) (ap spent_in (view_of-out c.args.self.now) ∙ sym (ap (λ p. p.spent) (search-of c.args.self.now c.redo.new.self ∙ c.redo.ensures.failed))) c.requires

pub returns-clause-goes_on : goal.returns-clause-goes_on
returns-clause-goes_on c = ap view_of (twice c.args.self.now c.redo.new.self c.grant.new.self)
    ∙ going-view c.args.self.now c.grant.new.self c.args.rest (c.grant.ensures.budget ∙ ap (λ (p : Paused). record p { budget = p.spent + c.args.rest }) (search-of c.args.self.now c.redo.new.self ∙ c.redo.ensures.failed))

pub returns-clause-ready : goal.returns-clause-ready
returns-clause-ready c = λ code h. subst (IsReady code) (sym (twice c.args.self.now c.redo.new.self c.grant.new.self))
    (going-ready code c.args.self.now c.grant.new.self (ap (λ p. p.older) (c.grant.ensures.budget ∙ ap (λ (p : Paused). record p { budget = p.spent + c.args.rest }) (search-of c.args.self.now c.redo.new.self ∙ c.redo.ensures.failed)))
    (λ k. c.grant.ensures.is_for code (subst (IsFor code) (sym (search-of c.args.self.now c.redo.new.self)) (c.redo.ensures.is_for code k))) h)
