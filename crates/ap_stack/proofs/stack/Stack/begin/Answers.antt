use Rattle.std.proofs.Common.{◌∷◌, [], ◌++◌, refl, ap, sym, ◌∙◌, subst}
use Rattle.ap_frames.specs.declared.slots.Stand.TheVariants.{Running}
use Rattle.ap_frames.specs.declared.slots.Run.TheVariants.{First}
use Rattle.ap_tie.specs.Sections.{nothing}
use Rattle.ap_open.specs.Away.{Carries}
use Rattle.ap_section.specs.Views.{view_of}
use Rattle.ap_section.specs.Ends.{Begins}
use Rattle.ap_section.specs.Ready.{IsReady}
use Rattle.ap_post.specs.Posts.{posted_in}
use Rattle.ap_stack.specs.declared.stack.Open.{Open}
use Rattle.ap_stack.specs.declared.stack.Stack.{Stack}
use Rattle.ap_stack.specs.Levels.{level_of, AreOut}
use Rattle.ap_stack.specs.Stacks.{code_in, levels_in, section_in, away_in}
use Rattle.ap_stack.proofs.Calls.{begun-carries}
use Rattle.ap_stack.proofs.Counts.{begun-counts}
use Rattle.ap_stack.proofs.Moves.{no-less, one-more, fresh-above, fresh-below, kept, pushed, goes-posted, goes-then, out-stood, elsewhere-ready}
use Rattle.ap_stack.proofs.stack.Stack.begin.Goals as goal

pub start_pooled-requires : goal.start_pooled-requires
start_pooled-requires c =
    let k = c.goal-predicate.ensures.known c.args.self.now.sound.now c.requires.good.ready in
    let p = c.in_ok-tuple.ensures in
    (k.0, k.1, sym (k.2 p.0 p.1) ∙ sym p.3)

pub returns-in_err-section : goal.returns-in_err-section
returns-in_err-section c =
    let s = c.args.self.now in
    record { goes = kept c.sharing_law.ensures c.args.post.now s (record s { pool = c.start_pooled.new.pool }) refl refl refl refl refl refl refl c.requires.good }

pub returns-in_err-reserve : goal.returns-in_err-reserve
returns-in_err-reserve c =
    let s = c.args.self.now in
    record { goes = kept c.sharing_law.ensures c.args.post.now s (record s { outer = c.reserve.new.self; pool = c.start_pooled.new.pool }) c.in_err-reserve.ensures.items refl refl refl refl refl refl c.requires.good }

pub returns-in_err-frame : goal.returns-in_err-frame
returns-in_err-frame c =
    let p = c.args.post.now in
    let s = c.args.self.now in
    let t : Stack = record s { outer = c.reserve.new.self; pool = c.start_pooled.new.pool } in
    let law = c.sharing_law.ensures in
    let first = kept law p s t c.in_ok-reserve.ensures.items refl refl refl refl refl refl c.requires.good in
    let number = c.in_err-frame.ensures in
    record { goes = goes-then p p c.number.new.self s t t first (goes-posted law p c.number.new.self t number.posted number.jobs (no-less p.next c.number.new.self.next number.err) first.good) }

pub returns : goal.returns
returns c =
    let p = c.args.post.now in
    let q = c.number.new.self in
    let s = c.args.self.now in
    let t = c.push.new.self in
    let code = code_in s in
    let i = c.args.i in
    let law = c.sharing_law.ensures in
    let good = c.requires.good in
    let number = c.in_ok-frame.ensures in
    let first = goes-posted law p q s number.posted number.jobs (one-more p.next q.next number.number.1) good in
    let begun = c.start_slot.ensures in
    let e : Open = record { section = c.start_slot.new.self; place = i; since = 0; frame = s.frame; turn = s.turns } in
    let is = c.push.ensures.outer ∙ ap (λ xs. xs ++ e ∷ []) c.in_ok-reserve.ensures.items in
    let newest = c.push.ensures.newest in
    let apart = elsewhere-ready code i (section_in s) (posted_in q s.frame) c.requires.ready.1 first.good.out in
    let out = subst (λ v. AreOut code v (posted_in q s.frame)) (sym begun.stands) (out-stood code i (Running First) nothing (section_in s) (posted_in q s.frame) apart first.good.out) in
    let carries = begun-carries law code (levels_in q s) (section_in s) (view_of e.section) (view_of c.in_ok-section.section) (away_in q s) i c.goal-predicate.result c.rest-rest.result _ (good.at_frame c.requires.tends) c.requires.ready (c.asks.ensures c.if-asks.false) c.rest-rest.ensures
    c.goal-predicate.ensures.goal c.in_ok-tuple.ensures c.in_ok-section.ensures.begins begun.stands in
    record {
      goes = goes-then p q q s s t first
          (pushed q s t e is c.push.ensures.same.0 c.push.ensures.same.1 first.good (record { ready = begun.ready code good.ready; at_frame = begun.at_frame; place = begun.place; runs = begun.runs; out = out; elsewhere = apart }) refl
          (fresh-above s.frame p.next t.frame (newest.1 ∙ number.number.0) good.below) (fresh-below p.next t.frame q.next (newest.1 ∙ number.number.0) number.number.1) (ap (posted_in q) newest.1 ∙ number.none)
          newest.2 (subst (IsReady code) (sym newest.0) c.in_ok-section.ensures.ready)
          (subst (λ x. Carries code (levels_in q s) (section_in s) (away_in q s) (levels_in q s ++ level_of q e ∷ []) (view_of x) []) (sym newest.0) carries)
          (λ n r o u tie h. begun-counts n s t e i code c.in_ok-tuple.tuple c.goal-predicate.result c.rest-rest.result is c.push.ensures.share refl begun.stands (subst (λ x. Begins code c.in_ok-tuple.tuple c.goal-predicate.result c.rest-rest.result (view_of x)) (sym newest.0) c.in_ok-section.ensures.begins) c.rest-rest.ensures h));
    }
