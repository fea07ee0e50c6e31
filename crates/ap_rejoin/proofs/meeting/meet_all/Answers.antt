use Rattle.std.proofs.Common.{rules, ◌≡◌, ◌<◌, length, slice_get, Some, None, [], ap, subst, ◌∙◌, sym, arith}
use Rattle.std.proofs.lemmas.Option.{slice_get-get_or}
use Rattle.ap_group.specs.Meets.{IsInstance}
use Rattle.ap_cells.proofs.Stores.{Keeps-refl, Keeps-trans}
use Rattle.ap_match.specs.Fits.{Answered}
use Rattle.ap_group.specs.Groups.{Pushed}
use Rattle.ap_rejoin.proofs.Together.{same-count, none-met, more-met, not-met, all-met, inside-more}
use Rattle.ap_rejoin.proofs.meeting.meet_all.Goals as goal

pub returns-then-len-answers-clause-answered : goal.returns-then-len-answers-clause-answered
returns-then-len-answers-clause-answered c = λ k f m. c.if-len-answers.true (c.len.ensures ∙ same-count k c.args.goals.now c.args.answers.now m)

pub loop-i-init : goal.loop-i-init
loop-i-init c = record { becomes = none-met c.args.cells.now.cells c.args.goals.now c.args.answers.now; keeps = Keeps-refl c.args.cells.now }

pub returns-in_default-clause-answered : goal.returns-in_default-clause-answered
returns-in_default-clause-answered c =
    let d : Pushed = record { predicate = 0; arguments = [] } in
    let l : c.loop-i.i < length c.args.goals.now = omega (arith, c.loop-i-test.true, c.if-len-answers.false, c.len.ensures) in
    let s = slice_get-get_or c.args.goals.now c.loop-i.i d l in
    let n : slice_get c.args.goals.now c.loop-i.i ≡ None = search rules in
    let e : ⊥ = cc in
    absurd e

pub meet-requires : goal.meet-requires
meet-requires c =
    inside-more (length c.args.cells.now.cells) (length c.loop-i.cells.cells) c.loop-i.invariant.becomes.longer c.args.goals.now c.loop-i.i
    (record { predicate = c.in-Some.field-0-0; arguments = c.in-Some.places.now }) c.requires c.in-Some.ensures.some

pub returns-in_err-meet-clause-keeps : goal.returns-in_err-meet-clause-keeps
returns-in_err-meet-clause-keeps c = Keeps-trans c.args.cells.now c.loop-i.cells c.meet.new.cells c.loop-i.invariant.keeps c.meet.ensures.keeps

pub returns-then-not-branch-clause-answered : goal.returns-then-not-branch-clause-answered
returns-then-not-branch-clause-answered c =
    let p : Pushed = record { predicate = c.in-Some.field-0-0; arguments = c.in-Some.places.now } in
    let t = c.index-answers-i.result in
    let g : slice_get c.args.answers.now c.loop-i.i ≡ Some t = slice_get-get_or c.args.answers.now c.loop-i.i t c.loop-i-test.true ∙ ap Some (sym c.index-answers-i.is) in
    not-met c.args.cells.now.cells c.loop-i.cells.cells c.meet.new.cells.cells c.args.goals.now c.args.answers.now c.loop-i.i p t c.in-Some.ensures.some g c.requires c.loop-i.invariant.becomes
    (subst (Answered c.loop-i.cells.cells c.meet.new.cells.cells (IsInstance p.arguments t)) c.if-not-branch.true c.in_ok-meet.ensures.answered)

pub returns-then-not-branch-clause-keeps : goal.returns-then-not-branch-clause-keeps
returns-then-not-branch-clause-keeps c = Keeps-trans c.args.cells.now c.loop-i.cells c.meet.new.cells c.loop-i.invariant.keeps c.meet.ensures.keeps

pub loop-i-preserved : goal.loop-i-preserved
loop-i-preserved c =
    let p : Pushed = record { predicate = c.in-Some.field-0-0; arguments = c.in-Some.places.now } in
    let t = c.index-answers-i.result in
    let g : slice_get c.args.answers.now c.loop-i.i ≡ Some t = slice_get-get_or c.args.answers.now c.loop-i.i t c.loop-i-test.true ∙ ap Some (sym c.index-answers-i.is) in
    record {
      becomes =
          more-met c.args.cells.now.cells c.loop-i.cells.cells c.meet.new.cells.cells c.args.goals.now c.args.answers.now c.loop-i.i p t c.in-Some.ensures.some g c.requires c.loop-i.invariant.becomes
          (subst (Answered c.loop-i.cells.cells c.meet.new.cells.cells (IsInstance p.arguments t)) c.if-not-branch.false c.in_ok-meet.ensures.answered);
      keeps = Keeps-trans c.args.cells.now c.loop-i.cells c.meet.new.cells c.loop-i.invariant.keeps c.meet.ensures.keeps;
    }

pub returns-clause-answered : goal.returns-clause-answered
returns-clause-answered c =
    all-met c.args.cells.now.cells c.loop-i.cells.cells c.args.goals.now c.args.answers.now c.loop-i.i (sym c.len.ensures ∙ c.if-len-answers.false)
    (omega (arith, c.loop-i-test.false, c.loop-i.auto.i-end)) c.loop-i.invariant.becomes
