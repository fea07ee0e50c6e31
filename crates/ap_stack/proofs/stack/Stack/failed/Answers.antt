use Rattle.std.proofs.Common.{◌-◌, refl, ap, ◌∙◌}
use Rattle.ap_frames.specs.declared.slots.Stand.TheVariants.{Ended}
use Rattle.ap_frames.specs.declared.slots.Ending.TheVariants.{Failed}
use Rattle.ap_tie.specs.Sections.{nothing}
use Rattle.ap_tied.specs.SlotCalls.{stood}
use Rattle.ap_open.specs.Opened as seen
use Rattle.ap_section.specs.Views.{view_of, spent_in, budget_in}
use Rattle.ap_stack.specs.declared.stack.Open.{Open}
use Rattle.ap_stack.specs.declared.stack.Stack.{Stack}
use Rattle.ap_stack.specs.Levels.{level_of, levels_of}
use Rattle.ap_stack.specs.Stacks.{code_in, section_in}
use Rattle.ap_stack.proofs.Waiting.{cost-is}
use Rattle.ap_stack.proofs.Counts.{budget-stood, popped-counts, done-owes, ended-owes}
use Rattle.ap_stack.proofs.Moves.{popped-open, ended}
use Rattle.ap_stack.proofs.stack.Stack.failed.Goals as goal

pub returns-clause-goes : goal.returns-clause-goes
returns-clause-goes c =
    let p = c.args.post.now in
    let s = c.args.self.now in
    let b = c.pop.new.self in
    let d = c.in-Some.done in
    let code = code_in s in
    let e : Open = record { section = b.newest; place = d.place; since = d.since; frame = b.frame; turn = d.turn } in
    let is = c.in-Some.ensures.outer in
    let waits = (popped-open p s b.outer.items e is c.requires.good).1 in
    let cost = cost-is (section_in s) _ _ d.since (c.spent.ensures ∙ ap (λ a. spent_in (view_of a)) c.in-Some.ensures.section.0) c.saturating_sub-cost.ensures in
    let t : Stack = record b { newest = c.put_failed.new.self; pool = c.give_to.new.pool } in
    let put = c.put_failed.ensures in
    let stands = put.stands ∙ ap (λ n. stood d.place (Ended Failed n) nothing (view_of b.newest)) cost in
    ended p s b.outer.items e is _ nothing t refl c.in-Some.ensures.same.0 c.in-Some.ensures.same.1 refl c.in-Some.ensures.section.1 c.requires.good c.requires.none (put.ready code waits.ready) put.at_frame stands
    (c.sharing_law.ensures.fails code (levels_of p b.outer.items) (level_of p e) (section_in s) c.requires.done)
    (λ n r o u tie h. popped-counts n s t b.outer.items e is refl c.in-Some.ensures.share (ap budget_in stands ∙ budget-stood d.place (Ended Failed (seen.spent_in (section_in s) - d.since)) nothing (view_of b.newest))
    (λ k. ended-owes d.place (Ended Failed (seen.spent_in (section_in s) - d.since)) nothing (view_of b.newest) (section_in s) (section_in t) d.since refl (done-owes (section_in s) c.requires.done) stands) h)
