use Rattle.std.proofs.Common.{refl, ap, ◌∙◌}
use Rattle.ap_frames.specs.declared.slots.Stand.TheVariants.{Ended}
use Rattle.ap_frames.specs.declared.slots.Ending.TheVariants.{Spent}
use Rattle.ap_tie.specs.Sections.{nothing}
use Rattle.ap_tied.specs.SlotCalls.{stood}
use Rattle.ap_open.specs.Opened.{rest_in}
use Rattle.ap_open.specs.Away.{TiedBeside}
use Rattle.ap_section.specs.Views.{view_of, budget_in}
use Rattle.ap_stack.specs.declared.stack.Open.{Open}
use Rattle.ap_stack.specs.declared.stack.Stack.{Stack}
use Rattle.ap_stack.specs.Levels.{level_of, levels_of}
use Rattle.ap_stack.specs.Stacks.{code_in, levels_in, section_in, away_in}
use Rattle.ap_stack.proofs.Waiting.{rest-is}
use Rattle.ap_stack.proofs.Counts.{budget-stood, popped-counts, spent-ended}
use Rattle.ap_stack.proofs.Debts.{innermost, spent-owes}
use Rattle.ap_stack.proofs.Moves.{popped-open, ended}
use Rattle.ap_stack.proofs.stack.Stack.spent_all.Goals as goal

pub returns-clause-goes : goal.returns-clause-goes
returns-clause-goes c =
    let p = c.args.post.now in
    let s = c.args.self.now in
    let b = c.pop.new.self in
    let d = c.in-Some.done in
    let code = code_in s in
    let e : Open = record { section = b.newest; place = d.place; since = d.since; frame = b.frame; turn = d.turn } in
    let is = c.in-Some.ensures.outer in
    let waits = (popped-open p s b.outer.items e is c.requires.good).1 in
    let t : Stack = record b { newest = c.put_spent.new.self; pool = c.give_to.new.pool } in
    let put = c.put_spent.ensures in
    let stands = put.stands ∙ ap (λ n. stood d.place (Ended Spent n) nothing (view_of b.newest)) (c.rest-rest.ensures ∙ rest-is (view_of b.newest)) in
    ended p s b.outer.items e is _ nothing t refl c.in-Some.ensures.same.0 c.in-Some.ensures.same.1 refl c.in-Some.ensures.section.1 c.requires.good c.requires.none (put.ready code waits.ready) put.at_frame stands
    (c.sharing_law.ensures.spends code (levels_of p b.outer.items) (level_of p e) (section_in s) c.requires.spent)
    (λ n r o u tie h.
    let tied = innermost code r (TiedBeside code r (section_in s) (away_in p s)) (levels_in p s) o u tie in
    popped-counts n s t b.outer.items e is refl c.in-Some.ensures.share (ap budget_in stands ∙ budget-stood d.place (Ended Spent (rest_in (view_of b.newest))) nothing (view_of b.newest))
    (spent-ended d.place (view_of b.newest) (section_in s) (section_in t) d.since (spent-owes code r tied.0 (section_in s) tied.1 tied.2.1 c.requires.spent) stands) h)
