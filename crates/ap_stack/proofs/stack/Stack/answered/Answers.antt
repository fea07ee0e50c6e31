use Rattle.std.proofs.Common.{◌≡◌, ◌-◌, true, refl, ap, sym, ◌∙◌, subst}
use Rattle.ap_frames.specs.Slots.{has_answer}
use Rattle.ap_tie.specs.Sections.{held}
use Rattle.ap_tied.specs.SlotCalls.{stood, answered}
use Rattle.ap_open.specs.Opened as seen
use Rattle.ap_section.specs.Views.{view_of, spent_in, budget_in}
use Rattle.ap_section.specs.Ready.{IsReady}
use Rattle.ap_section.specs.Slots.{IsPlaceIn, told_of}
use Rattle.ap_stack.specs.declared.stack.Open.{Open}
use Rattle.ap_stack.specs.declared.stack.Stack.{Stack}
use Rattle.ap_stack.specs.Levels.{level_of, levels_of}
use Rattle.ap_stack.specs.Stacks.{code_in, section_in, Goes}
use Rattle.ap_stack.proofs.Waiting.{cost-is, has-more, put-answer}
use Rattle.ap_stack.proofs.Counts.{budget-stood, popped-counts, closed-owes, ended-owes}
use Rattle.ap_stack.proofs.Moves.{popped-open, ended, goes-then}
use Rattle.ap_stack.proofs.stack.Stack.answered.Goals as goal

pub restart_behind-requires-clause-good : goal.restart_behind-requires-clause-good
restart_behind-requires-clause-good c =
    let p = c.args.post.now in
    let s = c.args.self.now in
    let b = c.pop.new.self in
    let d = c.in-Some.done in
    let code = code_in s in
    let x = section_in s in
    let e : Open = record { section = b.newest; place = d.place; since = d.since; frame = b.frame; turn = d.turn } in
    let is = c.in-Some.ensures.outer in
    let good = c.requires.good in
    let waits = (popped-open p s b.outer.items e is good).1 in
    let section = c.in-Some.ensures.section.0 in
    let has = c.has_more-has_more in
    let more = has-more code x has.result has.ensures.none (λ h. has.ensures.more h code good.ready c.requires.answering.at) in
    let cost = cost-is x _ _ d.since (c.spent.ensures ∙ ap (λ a. spent_in (view_of a)) section) c.saturating_sub-cost.ensures in
    let t : Stack = record b { newest = c.put_answer.new.self } in
    let put = c.put_answer.ensures in
    let stands = put.stands ∙ ap (λ a. stood d.place (answered c.saturating_sub-cost.result has.result) (held (view_of a)) (view_of b.newest)) section
    ∙ ap (λ n. stood d.place (answered n has.result) (held x) (view_of b.newest)) cost in
    let first : Goes p s p t = ended p s b.outer.items e is _ (held x) t refl c.in-Some.ensures.same.0 c.in-Some.ensures.same.1 refl c.in-Some.ensures.section.1 good (good.none_out c.requires.runs)
    (put.ready code waits.ready (subst (IsReady code) (sym section) good.ready)) put.at_frame stands
    (c.sharing_law.ensures.answers code (levels_of p b.outer.items) (level_of p e) x has.result c.requires.answering more)
    (λ n r o u tie h. popped-counts n s t b.outer.items e is refl c.in-Some.ensures.share (ap budget_in stands ∙ budget-stood d.place (answered (seen.spent_in x - d.since) has.result) (held x) (view_of b.newest))
    (λ k. ended-owes d.place (answered (seen.spent_in x - d.since) has.result) (held x) (view_of b.newest) x (section_in t) d.since refl (closed-owes x c.requires.answering.closed) stands) h) in
    first.good

pub restart_behind-requires-clause-place : goal.restart_behind-requires-clause-place
restart_behind-requires-clause-place c =
    let b = c.pop.new.self in
    let d = c.in-Some.done in
    let e : Open = record { section = b.newest; place = d.place; since = d.since; frame = b.frame; turn = d.turn } in
    let waits = (popped-open c.args.post.now c.args.self.now b.outer.items e c.in-Some.ensures.outer c.requires.good).1 in
    subst (λ v. IsPlaceIn d.place v) (sym c.put_answer.ensures.stands) (put-answer d.place _ _ _ (view_of b.newest) waits.place waits.runs).0

pub restart_behind-requires-clause-answered : goal.restart_behind-requires-clause-answered
restart_behind-requires-clause-answered c =
    let b = c.pop.new.self in
    let d = c.in-Some.done in
    let e : Open = record { section = b.newest; place = d.place; since = d.since; frame = b.frame; turn = d.turn } in
    let waits = (popped-open c.args.post.now c.args.self.now b.outer.items e c.in-Some.ensures.outer c.requires.good).1 in
    subst (λ v. told_of has_answer d.place v ≡ true) (sym c.put_answer.ensures.stands) (put-answer d.place _ _ _ (view_of b.newest) waits.place waits.runs).1

pub returns-clause-goes : goal.returns-clause-goes
returns-clause-goes c =
    let p = c.args.post.now in
    let s = c.args.self.now in
    let b = c.pop.new.self in
    let d = c.in-Some.done in
    let code = code_in s in
    let x = section_in s in
    let e : Open = record { section = b.newest; place = d.place; since = d.since; frame = b.frame; turn = d.turn } in
    let is = c.in-Some.ensures.outer in
    let good = c.requires.good in
    let waits = (popped-open p s b.outer.items e is good).1 in
    let section = c.in-Some.ensures.section.0 in
    let has = c.has_more-has_more in
    let more = has-more code x has.result has.ensures.none (λ h. has.ensures.more h code good.ready c.requires.answering.at) in
    let cost = cost-is x _ _ d.since (c.spent.ensures ∙ ap (λ a. spent_in (view_of a)) section) c.saturating_sub-cost.ensures in
    let t : Stack = record b { newest = c.put_answer.new.self } in
    let put = c.put_answer.ensures in
    let stands = put.stands ∙ ap (λ a. stood d.place (answered c.saturating_sub-cost.result has.result) (held (view_of a)) (view_of b.newest)) section
    ∙ ap (λ n. stood d.place (answered n has.result) (held x) (view_of b.newest)) cost in
    let first : Goes p s p t = ended p s b.outer.items e is _ (held x) t refl c.in-Some.ensures.same.0 c.in-Some.ensures.same.1 refl c.in-Some.ensures.section.1 good (good.none_out c.requires.runs)
    (put.ready code waits.ready (subst (IsReady code) (sym section) good.ready)) put.at_frame stands
    (c.sharing_law.ensures.answers code (levels_of p b.outer.items) (level_of p e) x has.result c.requires.answering more)
    (λ n r o u tie h. popped-counts n s t b.outer.items e is refl c.in-Some.ensures.share (ap budget_in stands ∙ budget-stood d.place (answered (seen.spent_in x - d.since) has.result) (held x) (view_of b.newest))
    (λ k. ended-owes d.place (answered (seen.spent_in x - d.since) has.result) (held x) (view_of b.newest) x (section_in t) d.since refl (closed-owes x c.requires.answering.closed) stands) h) in
    goes-then p p p s t c.restart_behind.new.self first c.restart_behind.ensures.goes
