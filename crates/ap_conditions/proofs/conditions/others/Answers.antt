use Rattle.std.proofs.Common.{◌+◌, ◌∙◌, ap, sym, drop}
use Rattle.std.proofs.lemmas.List.{drop_all}
use Rattle.ap_sharing.specs.VarSet.{union}
use Rattle.ap_sharing.proofs.Elements.{empty-union, union-empty}
use Rattle.ap_conditions.specs.GoalSets.{others}
use Rattle.ap_conditions.proofs.Sets.{others-passed, others-taken}
use Rattle.ap_conditions.proofs.conditions.others.Goals as goal
use Rattle.ap_conditions.proofs.conditions.others.Goals.{then-not-contains, else-not-contains}

pub loop-s-init : goal.loop-s-init
loop-s-init c = ap (λ z. union z (others c.args.sets.now c.args.x)) c.new-found.ensures ∙ empty-union (others c.args.sets.now c.args.x)

pub loop-s-preserved : goal.loop-s-preserved
loop-s-preserved c =
    elim c.if-not-contains.branch [
      | then-not-contains w ↦
          others-taken c.loop-s.found c.if-not-contains.found c.args.x c.loop-s.s-index c.s-item.result (others c.args.sets.now c.args.x) c.args.sets.now c.loop-s-test.true c.s-item.is
          (sym c.contains.ensures ∙ w.if-not-contains.true) (w.found-is ∙ w.union-found.ensures) c.loop-s.invariant
      | else-not-contains w ↦
          ap (λ z. union z (others (drop (c.loop-s.s-index + 1) c.args.sets.now) c.args.x)) w.found-is
          ∙ others-passed c.loop-s.found c.args.x c.loop-s.s-index c.s-item.result (others c.args.sets.now c.args.x) c.args.sets.now c.loop-s-test.true c.s-item.is
          (sym c.contains.ensures ∙ w.if-not-contains.false) c.loop-s.invariant
    ]

pub returns : goal.returns
returns c =
    sym (union-empty c.loop-s.found) ∙ ap (λ l. union c.loop-s.found (others l c.args.x)) (sym (drop_all c.loop-s.s-index c.args.sets.now c.loop-s-test.false)) ∙ c.loop-s.invariant
