use Rattle.std.proofs.Common.{ap, ap₂, sym, ◌∙◌, arith}
use Rattle.std.proofs.lemmas.List.{at_drop_all}
use Rattle.ap_sharing.specs.VarSet.{union}
use Rattle.ap_sharing.specs.Sets.{all_of}
use Rattle.ap_sharing.proofs.Elements.{empty-union, union-empty}
use Rattle.ap_sharing.proofs.Turns.{all_of-turn}
use Rattle.ap_sharing.proofs.sets.Sets.union_of_all.Goals as goal

pub loop-s-init : goal.loop-s-init
loop-s-init c = ap₂ union c.new-all.ensures (ap all_of c.as_slice-s-items.ensures) ∙ empty-union (all_of c.args.self.now)

pub loop-s-preserved : goal.loop-s-preserved
loop-s-preserved c =
    all_of-turn c.as_slice-s-items.result.now c.loop-s.s-index c.s-item.result c.loop-s.all c.union-all.result (all_of c.args.self.now) (omega arith) c.s-item.is c.union-all.ensures c.loop-s.invariant

pub returns : goal.returns
returns c =
    sym (ap (union c.loop-s.all) (at_drop_all all_of c.as_slice-s-items.result.now c.loop-s.s-index c.loop-s-test.false) ∙ union-empty c.loop-s.all) ∙ c.loop-s.invariant
