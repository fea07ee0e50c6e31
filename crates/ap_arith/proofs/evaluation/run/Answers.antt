use Rattle.std.proofs.Common.{ap, subst, sym, ◌∙◌, length, arith, rules, Ok, w64}
use Rattle.std.specs.Prelude.{FitsSigned}
use Rattle.std.proofs.lemmas.Int.{to_z-of_z}
use Rattle.ap_cells.specs.Trees.{trees}
use Rattle.ap_cells.specs.Walks.{Each}
use Rattle.ap_cells.proofs.Walks.{Each-pop}
use Rattle.ap_arith.specs.Valued.{IsFrame, framed, valued, turned, weight_turn, weight_frames}
use Rattle.ap_arith.proofs.Values.{valued-push, valued-fault, weight_frames-push}
use Rattle.ap_arith.proofs.evaluation.run.Goals as goal

pub returns-in-Stop : goal.returns-in-Stop
returns-in-Stop c =
    let ts = trees c.args.cells.now.cells in
    sym (valued-fault ts c.loop-turn.frames.items c.in-Stop.fault) ∙ ap (λ t. valued ts c.loop-turn.frames.items (turned ts t)) (sym c.in-Stop.is) ∙ c.loop-turn.invariant.value

pub loop-turn-smaller : goal.loop-turn-smaller
loop-turn-smaller c =
    let ts = trees c.args.cells.now.cells in
    let e = ap (weight_frames ts) c.in-Some.ensures.items ∙ weight_frames-push ts c.pop.new.self.items c.in-Some.frame in
    let w = ap (weight_turn ts) c.in-Close.is in
    let l = c.in_ok-turn-in-Some.ensures.less ts in
    omega arith

pub loop-turn-preserved : goal.loop-turn-preserved
loop-turn-preserved c =
    let ts = trees c.args.cells.now.cells in
    let z : FitsSigned w64 c.in-Close.value = search rules in
    let r = to_z-of_z w64 c.in-Close.value z in
    let n = length c.args.cells.now.cells in
    let e = ap (λ fs. valued ts fs (Ok c.in-Close.value)) c.in-Some.ensures.items ∙ valued-push ts c.pop.new.self.items c.in-Some.frame (Ok c.in-Close.value) in
    let t = ap (λ u. valued ts c.loop-turn.frames.items (turned ts u)) c.in-Close.is in
    let k = Each-pop (IsFrame n) c.pop.new.self.items c.in-Some.frame (subst (Each (IsFrame n)) c.in-Some.ensures.items c.loop-turn.invariant.frames) in
    record {
      value = c.in_ok-turn-in-Some.ensures.value ts ∙ ap (λ v. valued ts c.pop.new.self.items (framed ts c.in-Some.frame (Ok v))) r ∙ sym e ∙ sym t ∙ c.loop-turn.invariant.value;
      turn = c.in_ok-turn-in-Some.ensures.inside n k.1;
      frames = c.in_ok-turn-in-Some.ensures.frames n k.0;
    }
