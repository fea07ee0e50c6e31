use Rattle.std.proofs.Common.{◌≡◌, ◌∙◌, ◌||◌, false, ap, sym, refl, get_or}
use Rattle.std.specs.List.{list_all}
use Rattle.std.proofs.lemmas.List.{take_all}
use Rattle.std.proofs.lemmas.Bool.{or_from}
use Rattle.ap_term.specs.declared.clauses.Check.TheVariants.{Ground}
use Rattle.ap_conditions.specs.FullCondition.{full_condition}
use Rattle.ap_certify.specs.Written.{is_written}
use Rattle.ap_certify.specs.Sights.{gives}
use Rattle.ap_certify.proofs.HeldGoals.{group-given, left-out}
use Rattle.ap_certify.proofs.groups.give_group.Goals as goal
use Rattle.ap_certify.proofs.groups.give_group.Goals.{then-is_written, else-is_written}

pub returns-then-not-is_there-clause-fault : goal.returns-then-not-is_there-clause-fault
returns-then-not-is_there-clause-fault c =
    let items = c.as_slice-check-items.ensures ∙ c.in_ok-condition.ensures ∙ ap full_condition c.as_slice.ensures in
    let all = c.as_slice-check-items.result.now in
    let x = get_or all c.loop-check.check-index (Ground 0) in
    let h : (is_written x c.args.checks.now || gives c.args.s.now x) ≡ false = elim c.if-is_written.branch [ then-is_written w ↦ absurd (cc) | else-is_written w ↦ or_from (is_written x c.args.checks.now) (gives c.args.s.now x) (sym (w.if-is_written.ensures ∙ ap (is_written x) c.as_slice-in-loop-check.ensures)) (sym w.gives-is_there.ensures ∙ sym w.is_there-is ∙ c.if-not-is_there.true) ] in
    (refl, refl, left-out c.args.s.now c.args.checks.now c.args.goals.now all c.loop-check.check-index (Ground 0) items c.loop-check-test.true h)

pub returns-clause-given : goal.returns-clause-given
returns-clause-given c =
    let items = c.as_slice-check-items.ensures ∙ c.in_ok-condition.ensures ∙ ap full_condition c.as_slice.ensures in
    group-given c.args.s.now c.args.checks.now c.args.goals.now c.requires
    (ap (list_all (λ k. is_written k c.args.checks.now || gives c.args.s.now k)) (sym items ∙ sym (take_all c.loop-check.check-index c.as_slice-check-items.result.now c.loop-check-test.false))
    ∙ c.loop-check.invariant)
