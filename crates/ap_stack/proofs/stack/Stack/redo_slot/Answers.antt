use Rattle.std.proofs.Common.{◌≡◌, ◌-◌, ◌∷◌, [], ◌++◌, refl, ap, sym, ◌∙◌, subst}
use Rattle.ap_open.specs.Away.{Carries}
use Rattle.ap_tied.specs.SlotCalls.{held_in}
use Rattle.ap_section.specs.Slots.{slots_in, IsGoneOn}
use Rattle.ap_section.specs.Views.{view_of, spent_in, budget_in}
use Rattle.ap_section.specs.Ready.{IsReady}
use Rattle.ap_post.specs.Posts.{posted_in}
use Rattle.ap_stack.specs.declared.stack.Open.{Open}
use Rattle.ap_stack.specs.declared.stack.Stack.{Stack}
use Rattle.ap_stack.specs.Levels.{aways_of, aways_in, level_of}
use Rattle.ap_stack.specs.Stacks.{code_in, levels_in, section_in}
use Rattle.ap_stack.proofs.Calls.{level, redone-carries}
use Rattle.ap_stack.proofs.Debts.{redone-pays}
use Rattle.ap_stack.proofs.Moves.{no-less, one-more, fresh-above, fresh-below, kept, pushed, goes-posted, goes-then, out-none, not-at-none}
use Rattle.ap_stack.proofs.stack.Stack.redo_slot.Goals as goal

pub returns-in_err-frame : goal.returns-in_err-frame
returns-in_err-frame c =
    let p = c.args.post.now in
    let s = c.args.self.now in
    let t : Stack = record s { outer = c.reserve.new.self } in
    let law = c.sharing_law.ensures in
    let first = kept law p s t c.in_ok-reserve.ensures.items refl refl refl refl refl refl c.requires.good in
    let number = c.in_err-frame.ensures in
    record { goes = goes-then p p c.number.new.self s t t first (goes-posted law p c.number.new.self t number.posted number.jobs (no-less p.next c.number.new.self.next number.err) first.good) }

pub returns : goal.returns
returns c =
    let p = c.args.post.now in
    let q = c.number.new.self in
    let s = c.args.self.now in
    let t = c.push.new.self in
    let code = code_in s in
    let i = c.args.i in
    let law = c.sharing_law.ensures in
    let good = c.requires.good in
    let number = c.in_ok-frame.ensures in
    let first = goes-posted law p q s number.posted number.jobs (one-more p.next q.next number.number.1) good in
    let taken = c.take_section-section.ensures in
    let both = taken.ready code good.ready in
    let since = c.spent-since.result in
    let e : Open = record { section = c.take_section-section.new.self; place = i; since = since; frame = s.frame; turn = s.turns } in
    let is = c.push.ensures.outer ∙ ap (λ xs. xs ++ e ∷ []) c.in_ok-reserve.ensures.items in
    let newest = c.push.ensures.newest in
    let none : posted_in q s.frame ≡ [] = number.posted s.frame ∙ c.requires.none in
    let carries = redone-carries law code (levels_in q s) (section_in s) (view_of e.section) (view_of c.take_section-section.result) i since (good.at_frame c.requires.tends) c.requires.closed c.requires.next c.requires.there taken.section taken.taken c.spent-since.ensures in
    record {
      goes = goes-then p q q s s t first
          (pushed q s t e is c.push.ensures.same.0 c.push.ensures.same.1 first.good
          (record { ready = both.0; at_frame = taken.at_frame; place = taken.place; runs = taken.runs; out = out-none code (view_of e.section) (posted_in q s.frame) none; elsewhere = not-at-none i (posted_in q s.frame) none }) refl
          (fresh-above s.frame p.next t.frame (newest.1 ∙ number.number.0) good.below) (fresh-below p.next t.frame q.next (newest.1 ∙ number.number.0) number.number.1) (ap (posted_in q) newest.1 ∙ number.none)
          newest.2 (subst (IsReady code) (sym newest.0) both.1)
          (subst (λ x. Carries code (levels_in q s) (section_in s) (aways_in q s.frame) (levels_in q s ++ level_of q e ∷ []) (view_of x) []) (sym newest.0)
          (subst (λ out. Carries code (levels_in q s) (section_in s) out (levels_in q s ++ level (view_of e.section) i since out ∷ []) (view_of c.take_section-section.result) []) (sym (ap aways_of none)) carries))
          (redone-pays q s t e i is c.push.ensures.share (good.at_frame c.requires.tends) c.requires.closed c.requires.next c.requires.there
          (subst (λ x. IsGoneOn (budget_in (section_in s) - spent_in (section_in s)) (held_in i (slots_in (section_in s))) (view_of x)) (sym newest.0) taken.section) taken.taken
          (c.spent-since.ensures ∙ ap (λ x. spent_in (view_of x)) (sym newest.0))));
    }
