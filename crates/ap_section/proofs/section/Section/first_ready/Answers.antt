use Rattle.std.proofs.Common.{rules, ◌≡◌, ◌∙◌, ap, sym, Some, None}
use Rattle.std.specs.Prelude.{position}
use Rattle.ap_frames.specs.Slots.{is_startable}
use Rattle.ap_section.proofs.Newest.{count-at}
use Rattle.ap_section.proofs.Found.{closed-ready, none-ready, first-ready}
use Rattle.ap_section.proofs.section.Section.first_ready.Goals as goal

pub overflow_sub-newest : goal.overflow_sub-newest
overflow_sub-newest c = let h = count-at c.args.self.now c.requires in let e = c.len-newest.ensures in search rules

pub index-frame-requires : goal.index-frame-requires
index-frame-requires c = let h = count-at c.args.self.now c.requires in let e = c.len-newest.ensures in search rules

pub returns-in-Closed-clause-none : goal.returns-in-Closed-clause-none
returns-in-Closed-clause-none c = closed-ready c.args.self.now c.len-newest.result c.index-frame.result.now c.len-newest.ensures c.requires c.index-frame.ensures c.in-Closed.is

pub returns-in-Some : goal.returns-in-Some
returns-in-Some c =
    let at : position is_startable c.index-frame.result.now.slots.items ≡ Some c.in-Some.i = ap (λ xs. position is_startable xs) (sym c.deref.ensures.value) ∙ sym c.first_startable.ensures.found ∙ c.in-Some.is in
    record { found = first-ready c.args.self.now c.len-newest.result c.index-frame.result.now c.in-Some.i c.len-newest.ensures c.requires c.index-frame.ensures c.in_default.not-Closed at; none = tt }

pub returns-in-None : goal.returns-in-None
returns-in-None c =
    let at : position is_startable c.index-frame.result.now.slots.items ≡ None = ap (λ xs. position is_startable xs) (sym c.deref.ensures.value) ∙ sym c.first_startable.ensures.found ∙ c.in-None.is in
    record { found = tt; none = none-ready c.args.self.now c.len-newest.result c.index-frame.result.now c.len-newest.ensures c.requires c.index-frame.ensures at }
