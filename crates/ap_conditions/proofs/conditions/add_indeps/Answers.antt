use Rattle.std.proofs.Common.{◌+◌, ◌∙◌, ◌++◌, [], if◌then◌else◌, append_assoc, append-nil, ap, ap₂, sym, arith}
use Rattle.std.specs.List.{flat_map}
use Rattle.ap_sharing.specs.VarSet.{both}
use Rattle.ap_conditions.specs.FullCondition.{numbers}
use Rattle.ap_conditions.specs.GoalSets.{others, indeps_with, indeps_among}
use Rattle.ap_conditions.proofs.Numbers.{joined-more, joined_below}
use Rattle.ap_conditions.proofs.conditions.add_indeps.Goals as goal
use Rattle.ap_conditions.proofs.conditions.add_indeps.Goals.{then-contains+in_ok-add_indeps_with, else-contains}

pub loop-x-init : goal.loop-x-init
unfolding numbers
loop-x-init c = sym (append-nil c.args.out.now)

pub loop-x-preserved : goal.loop-x-preserved
loop-x-preserved c =
    let old = flat_map (indeps_among c.args.sets.now c.args.alone) (numbers c.loop-x.x) in
    elim c.if-contains.branch [
      | then-contains+in_ok-add_indeps_with w ↦
          w.out-is ∙ w.in_ok-add_indeps_with.ensures
          ∙ ap₂ (λ o p. o ++ indeps_with p (c.loop-x.x + 1)) c.loop-x.invariant (w.both-partners.ensures ∙ ap (λ s. both s c.args.alone) w.others.ensures)
          ∙ ap (λ b. (c.args.out.now ++ old) ++ (if b then indeps_with (both (others c.args.sets.now (c.loop-x.x + 1)) c.args.alone) (c.loop-x.x + 1) else [])) (sym (sym c.contains.ensures ∙ w.if-contains.true))
          ∙ append_assoc c.args.out.now old (indeps_among c.args.sets.now c.args.alone (c.loop-x.x + 1))
          ∙ ap (λ l. c.args.out.now ++ l) (sym (joined-more (indeps_among c.args.sets.now c.args.alone) c.loop-x.x))
      | else-contains w ↦
          w.out-is ∙ c.loop-x.invariant ∙ sym (append-nil (c.args.out.now ++ old))
          ∙ ap (λ b. (c.args.out.now ++ old) ++ (if b then indeps_with (both (others c.args.sets.now (c.loop-x.x + 1)) c.args.alone) (c.loop-x.x + 1) else [])) (sym (sym c.contains.ensures ∙ w.if-contains.false))
          ∙ append_assoc c.args.out.now old (indeps_among c.args.sets.now c.args.alone (c.loop-x.x + 1))
          ∙ ap (λ l. c.args.out.now ++ l) (sym (joined-more (indeps_among c.args.sets.now c.args.alone) c.loop-x.x))
    ]

pub returns : goal.returns
returns c =
    c.loop-x.invariant
    ∙ ap (λ l. c.args.out.now ++ l)
    (joined_below (indeps_among c.args.sets.now c.args.alone) c.loop-x.x 255 (omega (arith, c.last_of-most.ensures.few))
    (λ x h k. ap (λ b. if b then indeps_with (both (others c.args.sets.now x) c.args.alone) x else []) (c.last_of-most.ensures.above x (omega (arith, h)) k)))
