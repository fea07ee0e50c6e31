use Rattle.std.proofs.Common.{rules, ◌∙◌, ◌-◌, ◌≤◌, ap, sym, subst, take, length}
use Rattle.std.specs.List.{list_all}
use Rattle.ap_frames.specs.Slots.{has_answer}
use Rattle.ap_section.proofs.Newest.{count-at}
use Rattle.ap_section.proofs.Redoes.{next-place, redoable-some, redoable-none, not-redoable}
use Rattle.ap_section.proofs.section.Section.is_redoable.Goals as goal

pub overflow_sub-newest : goal.overflow_sub-newest
overflow_sub-newest c = let h = count-at c.args.self.now c.requires in let e = c.len-newest.ensures in search rules

pub index-frame-requires : goal.index-frame-requires
index-frame-requires c = let h = count-at c.args.self.now c.requires in let e = c.len-newest.ensures in search rules

pub left_answered-requires : goal.left_answered-requires
left_answered-requires c = let h = next-place c.index-frame.result.now.slots.items c.in-Some.i (sym c.next_redo.ensures ∙ c.in-Some.is) in
    (h.0, subst (λ n. c.in-Some.i ≤ n) (sym (ap length c.deref.ensures.value)) h.1)

pub returns-in-Some-clause-redoable : goal.returns-in-Some-clause-redoable
returns-in-Some-clause-redoable c = λ h. redoable-some c.args.self.now c.len-newest.result c.index-frame.result.now c.in-Some.i c.len-newest.ensures c.requires c.index-frame.ensures (sym c.next_redo.ensures ∙ c.in-Some.is) (sym (ap (λ xs. list_all has_answer (take (c.in-Some.i - 1) xs)) c.deref.ensures.value) ∙ sym c.left_answered.ensures ∙ h)

pub returns-in-Some-clause-none : goal.returns-in-Some-clause-none
returns-in-Some-clause-none c = λ h. not-redoable c.args.self.now c.len-newest.result c.index-frame.result.now c.in-Some.i c.len-newest.ensures c.requires c.index-frame.ensures (sym c.next_redo.ensures ∙ c.in-Some.is) (sym (ap (λ xs. list_all has_answer (take (c.in-Some.i - 1) xs)) c.deref.ensures.value) ∙ sym c.left_answered.ensures ∙ h)

pub returns-in-None-clause-redoable : goal.returns-in-None-clause-redoable
returns-in-None-clause-redoable c = λ h. redoable-none c.args.self.now c.len-newest.result c.index-frame.result.now c.len-newest.ensures c.requires c.index-frame.ensures (sym c.next_redo.ensures ∙ c.in-None.is)
