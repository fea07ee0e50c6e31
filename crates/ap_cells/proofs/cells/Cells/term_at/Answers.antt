use Rattle.std.proofs.Common.{ap, subst, sym, ◌∙◌, length, arith}
use Rattle.ap_term.specs.TermView.{tree_of}
use Rattle.ap_cells.specs.Trees.{trees}
use Rattle.ap_cells.specs.Walks.{Each}
use Rattle.ap_cells.specs.Built.{IsFrame, IsTurn, closed, turned, weight_frames, weight_turn}
use Rattle.ap_cells.proofs.Walks.{Each-pop}
use Rattle.ap_cells.proofs.Built.{closed-push, weight_frames-push}
use Rattle.ap_cells.proofs.cells.Cells.term_at.Goals as goal

pub close-requires-clause-inside : goal.close-requires-clause-inside
close-requires-clause-inside c =
    let n = length c.args.self.now.cells in
    let k = Each-pop (IsFrame n) c.pop.new.self.items c.in-Some.frame (subst (Each (IsFrame n)) c.in-Some.ensures.items c.loop-turn.invariant.frames) in
    subst (λ m. IsFrame m c.in-Some.frame) (sym c.len-places.ensures.place) k.1

pub loop-turn-smaller : goal.loop-turn-smaller
loop-turn-smaller c =
    let ts = trees c.args.self.now.cells in
    let e = ap (weight_frames ts) c.in-Some.ensures.items ∙ weight_frames-push ts c.pop.new.self.items c.in-Some.frame in
    let w = ap (weight_turn ts) c.in-Close.is in
    let l = c.in_ok-turn-in-Some.ensures.less ts in
    omega arith

pub loop-turn-preserved : goal.loop-turn-preserved
loop-turn-preserved c =
    let ts = trees c.args.self.now.cells in
    let n = length c.args.self.now.cells in
    let p = c.len-places.ensures.place in
    let e = ap (λ fs. closed ts fs (tree_of c.in-Close.term)) c.in-Some.ensures.items ∙ closed-push ts c.pop.new.self.items c.in-Some.frame (tree_of c.in-Close.term) in
    let t = ap (λ u. closed ts c.loop-turn.frames.items (turned ts u)) c.in-Close.is in
    let k = Each-pop (IsFrame n) c.pop.new.self.items c.in-Some.frame (subst (Each (IsFrame n)) c.in-Some.ensures.items c.loop-turn.invariant.frames) in
    let f : Each (IsFrame c.len-places.result) c.pop.new.self.items = subst (λ m. Each (IsFrame m) c.pop.new.self.items) (sym p) k.0 in
    record {
      built = c.in_ok-turn-in-Some.ensures.built ts ∙ sym e ∙ sym t ∙ c.loop-turn.invariant.built;
      turn = subst (λ m. IsTurn m c.in_ok-turn-in-Some.turn) p c.in_ok-turn-in-Some.ensures.inside;
      frames = subst (λ m. Each (IsFrame m) c.close.new.frames.items) p (c.in_ok-turn-in-Some.ensures.frames f);
    }
