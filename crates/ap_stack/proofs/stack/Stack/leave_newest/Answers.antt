use Rattle.std.proofs.Common.{true, refl, ap, ◌∙◌}
use Rattle.ap_frames.specs.Rows.{stopped}
use Rattle.ap_tie.specs.Sections.{nothing}
use Rattle.ap_tied.specs.SlotCalls.{stood}
use Rattle.ap_section.specs.Views.{view_of, spent_in}
use Rattle.ap_stack.specs.declared.stack.Open.{Open}
use Rattle.ap_stack.specs.declared.stack.Stack.{Stack}
use Rattle.ap_stack.specs.Stacks.{code_in, section_in}
use Rattle.ap_stack.proofs.Waiting.{cost-is}
use Rattle.ap_stack.proofs.Moves.{popped-open}
use Rattle.ap_stack.proofs.Outer.{left-goes}
use Rattle.ap_stack.proofs.stack.Stack.leave_newest.Goals as goal

pub returns : goal.returns
returns c =
    let p = c.args.post.now in
    let s = c.args.self.now in
    let b = c.pop.new.self in
    let d = c.in-Some.left in
    let code = code_in s in
    let e : Open = record { section = b.newest; place = d.place; since = d.since; frame = b.frame; turn = d.turn } in
    let is = c.in-Some.ensures.outer in
    let waits = (popped-open p s b.outer.items e is c.requires.good).1 in
    let cost = cost-is (section_in s) _ _ d.since (c.spent.ensures ∙ ap (λ a. spent_in (view_of a)) c.in-Some.ensures.section.0) c.saturating_sub-cost.ensures in
    let t : Stack = record b { newest = c.put_stopped.new.self; pool = c.give_to.new.pool } in
    let put = c.put_stopped.ensures in
    let stands = put.stands ∙ ap (λ n. stood d.place (stopped (Unit {0}) true n) nothing (view_of b.newest)) cost in
    record { goes = left-goes c.sharing_law.ensures p s b.outer.items e is t refl c.in-Some.ensures.same.0 c.in-Some.ensures.same.1 refl c.in-Some.ensures.section.1 c.in-Some.ensures.share c.requires.good (put.ready code waits.ready) put.at_frame stands }
