use Rattle.std.proofs.Common.{ap, ap₂, sym, ◌∙◌, arith}
use Rattle.std.proofs.lemmas.List.{at_drop_all}
use Rattle.std.specs.List.{filter}
use Rattle.ap_sharing.specs.VarSet.{union, meets}
use Rattle.ap_sharing.specs.Sets.{all_of}
use Rattle.ap_sharing.proofs.Elements.{empty-union, union-empty}
use Rattle.ap_sharing.proofs.Turns.{met-turn, unmet-turn}
use Rattle.ap_sharing.proofs.sets.Sets.union_of_meeting.Goals as goal
use Rattle.ap_sharing.proofs.sets.Sets.union_of_meeting.Goals.{then-intersects, else-intersects}

pub loop-s-init : goal.loop-s-init
loop-s-init c =
    ap₂ union c.new-all.ensures (ap (λ r. all_of (filter (λ s. meets s c.args.v) r)) c.as_slice-s-items.ensures) ∙ empty-union (all_of (filter (λ s. meets s c.args.v) c.args.self.now))

pub loop-s-preserved : goal.loop-s-preserved
loop-s-preserved c =
    let items = c.as_slice-s-items.result.now in
    elim c.if-intersects.branch [
      | then-intersects w ↦ met-turn (λ s. meets s c.args.v) items c.loop-s.s-index c.s-item.result c.loop-s.all c.if-intersects.all (all_of (filter (λ s. meets s c.args.v) c.args.self.now))
          (omega arith) c.s-item.is (sym c.intersects.ensures ∙ w.if-intersects.true) (w.all-is ∙ w.union-all.ensures) c.loop-s.invariant
      | else-intersects w ↦ unmet-turn (λ s. meets s c.args.v) items c.loop-s.s-index c.s-item.result c.loop-s.all c.if-intersects.all (all_of (filter (λ s. meets s c.args.v) c.args.self.now))
          (omega arith) c.s-item.is (sym c.intersects.ensures ∙ w.if-intersects.false) w.all-is c.loop-s.invariant
    ]

pub returns : goal.returns
returns c =
    sym (ap (union c.loop-s.all) (at_drop_all (λ r. all_of (filter (λ s. meets s c.args.v) r)) c.as_slice-s-items.result.now c.loop-s.s-index c.loop-s-test.false) ∙ union-empty c.loop-s.all)
    ∙ c.loop-s.invariant
