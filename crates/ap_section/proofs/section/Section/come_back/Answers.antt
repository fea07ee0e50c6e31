use Rattle.std.proofs.Common.{◌∙◌, ap, sym, is_some}
use Rattle.ap_term.proofs.Lists.{prefix-refl}
use Rattle.ap_section.specs.Lending.{frames_in}
use Rattle.ap_section.proofs.Shut.{top-last, none-last}
use Rattle.ap_section.proofs.Back.{none-rested, not-some, back-came, back-due, fewer-came}
use Rattle.ap_section.proofs.Newest.{searching}
use Rattle.ap_section.proofs.Counted.{frames-searching, frames-fewer, frames-same, count-fewer}
use Rattle.ap_section.proofs.section.Section.come_back.Goals as goal

pub returns-in_default-clause-end : goal.returns-in_default-clause-end
returns-in_default-clause-end c = λ code shut. none-rested code c.args.self.now (none-last c.args.self.now c.deref.result.now c.deref.ensures.value c.in_default.ensures.value) c.requires.end shut

pub returns-in_default-clause-frames : goal.returns-in_default-clause-frames
returns-in_default-clause-frames c = prefix-refl (frames_in c.args.self.now)

pub returns-then-is_some-clause-moved : goal.returns-then-is_some-clause-moved
returns-then-is_some-clause-moved c = λ code shut. (back-came c.reaching_law.ensures code c.args.self.now c.come_to_fork.new.self shut c.requires.end (c.come_to_fork.ensures.is_for code) c.in-Some.frame.now (top-last c.args.self.now c.in-Some.frame.now c.deref.result.now c.deref.ensures.value c.in-Some.ensures.value)
    (ap is_some (sym c.next_redo.ensures) ∙ sym c.is_some.ensures ∙ c.if-is_some.true) c.come_to_fork.ensures.some).moved

pub returns-then-is_some-clause-spent : goal.returns-then-is_some-clause-spent
returns-then-is_some-clause-spent c = λ code shut. (back-came c.reaching_law.ensures code c.args.self.now c.come_to_fork.new.self shut c.requires.end (c.come_to_fork.ensures.is_for code) c.in-Some.frame.now (top-last c.args.self.now c.in-Some.frame.now c.deref.result.now c.deref.ensures.value c.in-Some.ensures.value)
    (ap is_some (sym c.next_redo.ensures) ∙ sym c.is_some.ensures ∙ c.if-is_some.true) c.come_to_fork.ensures.some).spent

pub returns-then-is_some-clause-ready : goal.returns-then-is_some-clause-ready
returns-then-is_some-clause-ready c = λ code shut. (back-came c.reaching_law.ensures code c.args.self.now c.come_to_fork.new.self shut c.requires.end (c.come_to_fork.ensures.is_for code) c.in-Some.frame.now (top-last c.args.self.now c.in-Some.frame.now c.deref.result.now c.deref.ensures.value c.in-Some.ensures.value)
    (ap is_some (sym c.next_redo.ensures) ∙ sym c.is_some.ensures ∙ c.if-is_some.true) c.come_to_fork.ensures.some).ready

pub returns-then-is_some-clause-end : goal.returns-then-is_some-clause-end
returns-then-is_some-clause-end c = λ code shut n u. back-due c.reaching_law.ensures code c.args.self.now c.come_to_fork.new.self shut c.requires.end (c.come_to_fork.ensures.is_for code) c.in-Some.frame.now (top-last c.args.self.now c.in-Some.frame.now c.deref.result.now c.deref.ensures.value c.in-Some.ensures.value)
    (ap is_some (sym c.next_redo.ensures) ∙ sym c.is_some.ensures ∙ c.if-is_some.true) c.come_to_fork.ensures.some

pub returns-clause-moved : goal.returns-clause-moved
returns-clause-moved c = λ code shut. (fewer-came c.reaching_law.ensures code c.args.self.now c.forget_fork.new.self shut c.requires.end (c.forget_fork.ensures.is_for code) c.in-Some.frame.now (top-last c.args.self.now c.in-Some.frame.now c.deref.result.now c.deref.ensures.value c.in-Some.ensures.value)
    c.pop.new.self c.pop.ensures.rest (sym c.next_redo.ensures ∙ not-some c.next_redo.result (sym c.is_some.ensures ∙ c.if-is_some.false)) c.forget_fork.ensures.some).moved

pub returns-clause-spent : goal.returns-clause-spent
returns-clause-spent c = λ code shut. (fewer-came c.reaching_law.ensures code c.args.self.now c.forget_fork.new.self shut c.requires.end (c.forget_fork.ensures.is_for code) c.in-Some.frame.now (top-last c.args.self.now c.in-Some.frame.now c.deref.result.now c.deref.ensures.value c.in-Some.ensures.value)
    c.pop.new.self c.pop.ensures.rest (sym c.next_redo.ensures ∙ not-some c.next_redo.result (sym c.is_some.ensures ∙ c.if-is_some.false)) c.forget_fork.ensures.some).spent

pub returns-clause-ready : goal.returns-clause-ready
returns-clause-ready c = λ code shut. (fewer-came c.reaching_law.ensures code c.args.self.now c.forget_fork.new.self shut c.requires.end (c.forget_fork.ensures.is_for code) c.in-Some.frame.now (top-last c.args.self.now c.in-Some.frame.now c.deref.result.now c.deref.ensures.value c.in-Some.ensures.value)
    c.pop.new.self c.pop.ensures.rest (sym c.next_redo.ensures ∙ not-some c.next_redo.result (sym c.is_some.ensures ∙ c.if-is_some.false)) c.forget_fork.ensures.some).ready

pub returns-then-is_some-clause-frames : goal.returns-then-is_some-clause-frames
returns-then-is_some-clause-frames c = frames-same c.args.self.now (searching c.args.self.now c.come_to_fork.new.self) (frames-searching c.args.self.now c.come_to_fork.new.self)

pub returns-clause-frames : goal.returns-clause-frames
returns-clause-frames c =
    frames-fewer c.args.self.now c.forget_fork.new.self c.pop.new.self c.in-Some.frame.now (top-last c.args.self.now c.in-Some.frame.now c.deref.result.now c.deref.ensures.value c.in-Some.ensures.value) c.pop.ensures.rest

pub returns-clause-dropped : goal.returns-clause-dropped
returns-clause-dropped c = λ e. count-fewer c.args.self.now c.forget_fork.new.self c.pop.new.self c.in-Some.frame.now c.pop.result (top-last c.args.self.now c.in-Some.frame.now c.deref.result.now c.deref.ensures.value c.in-Some.ensures.value) c.pop.ensures.cases
