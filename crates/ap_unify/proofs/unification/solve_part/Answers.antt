use Rattle.std.proofs.Common.{◌+◌, ◌-◌, ◌*◌, ◌<◌, [], ◌∷◌, ◌++◌, length, refl, sym, ap, ◌∙◌, subst, arith}
use Rattle.std.proofs.lemmas.List.{nil_from_length}
use Rattle.ap_cells.specs.Trees.{tree_at, trees, frees}
use Rattle.ap_cells.proofs.Rounds.{trees-length}
use Rattle.ap_cells.proofs.Stores.{Keeps-refl, Keeps-trans}
use Rattle.ap_cells.specs.Walks.{Each, weight}
use Rattle.ap_cells.proofs.Walks.{Each-push, Each-pop}
use Rattle.ap_cells.specs.declared.pairs.Pairs.{Pairs}
use Rattle.ap_unify.specs.Works.{IsLeft, SolvesRun, weight_runs, turns, goes_on, with_args}
use Rattle.ap_unify.proofs.Works.{weight_runs-push}
use Rattle.ap_unify.proofs.Weights.{run_turn, turns-lt}
use Rattle.ap_cells.specs.Assumed.{ArePairs, IsBelow}
use Rattle.ap_unify.specs.Shared.{Going, Turned}
use Rattle.ap_unify.proofs.Shared.{going_turn, going_zero, going_fail, going_ends}
use Rattle.ap_unify.proofs.unification.solve_part.Goals as goal

pub loop-pairs-init : goal.loop-pairs-init
loop-pairs-init c = record {
  going = λ ts a b g. g;
  less = omega arith;
  left = c.requires.runs;
  inside = c.requires.start;
  len = refl;
  keeps = Keeps-refl c.args.cells.now;
  spare = refl;
}

pub loop-pairs-smaller-in-Some : goal.loop-pairs-smaller-in-Some
loop-pairs-smaller-in-Some c =
    let us = trees c.loop-pairs.cells.cells in
    let e = ap (weight_runs us) c.in-Some.ensures.items in
    let w = weight_runs-push us c.loop-pairs.runs.items c.loop-pairs.pairs in
    turns-lt (frees c.loop-pairs.cells.cells) (weight_runs us (c.pop.new.self.items ++ c.in-Some.next ∷ [])) (weight_runs us (c.loop-pairs.runs.items ++ c.loop-pairs.pairs ∷ [])) (omega arith)

pub loop-pairs-preserved-in-Some : goal.loop-pairs-preserved-in-Some
loop-pairs-preserved-in-Some c =
    let us = trees c.loop-pairs.cells.cells in
    let o = c.loop-pairs.invariant in
    let k = Each-pop (ArePairs (length c.loop-pairs.cells.cells)) c.pop.new.self.items c.in-Some.next (subst (Each (ArePairs (length c.loop-pairs.cells.cells))) c.in-Some.ensures.items o.left) in
    record {
      going = λ ts a b g. subst (λ rs. Going ts us rs c.loop-pairs.classes a b) c.in-Some.ensures.items
          (going_zero ts us (c.loop-pairs.runs.items ++ c.loop-pairs.pairs ∷ []) c.loop-pairs.runs.items c.loop-pairs.classes c.loop-pairs.pairs a b (o.going ts a b g) refl c.if-pairs-eq0.true);
      less = let k = loop-pairs-smaller-in-Some c in let m = o.less in omega arith;
      left = k.0;
      inside = k.1;
      len = o.len;
      keeps = o.keeps;
      spare = o.spare;
    }

pub returns-in-None-clause-tells : goal.returns-in-None-clause-tells
returns-in-None-clause-tells c ts a b x y g =
    let us = trees c.loop-pairs.cells.cells in
    going_ends ts us c.loop-pairs.runs.items c.loop-pairs.classes a b
    (going_zero ts us (c.loop-pairs.runs.items ++ c.loop-pairs.pairs ∷ []) c.loop-pairs.runs.items c.loop-pairs.classes c.loop-pairs.pairs a b (c.loop-pairs.invariant.going ts a b g) refl c.if-pairs-eq0.true)
    (nil_from_length c.loop-pairs.runs.items (let k = c.in-None.ensures.cases in omega arith)) x y

pub solve-requires : goal.solve-requires
solve-requires c =
    let l = c.loop-pairs.invariant.inside.0 in
    let r = c.loop-pairs.invariant.inside.1 in
    record { inside = (omega arith, omega arith) }

pub returns-in_err-solve-clause-keeps : goal.returns-in_err-solve-clause-keeps
returns-in_err-solve-clause-keeps c = Keeps-trans c.args.cells.now c.loop-pairs.cells c.solve.new.cells c.loop-pairs.invariant.keeps c.solve.ensures.keeps

pub returns-in-Apart-clause-tells : goal.returns-in-Apart-clause-tells
returns-in-Apart-clause-tells c ts a b x y g =
    let us = trees c.loop-pairs.cells.cells in
    let vs = trees c.solve.new.cells.cells in
    let rs = c.loop-pairs.runs.items in
    let p = c.loop-pairs.pairs in
    let t = subst (λ o. Turned us vs rs (with_args o rs) c.loop-pairs.classes c.solve.new.classes p.left p.right (goes_on o)) c.in-Apart.is (c.in_ok-solve.ensures.turned rs c.loop-pairs.invariant.left) in
    going_fail ts us (rs ++ p ∷ []) rs c.loop-pairs.classes p a b (c.loop-pairs.invariant.going ts a b g) (omega arith) refl t

pub returns-in-Apart-clause-keeps : goal.returns-in-Apart-clause-keeps
returns-in-Apart-clause-keeps c = Keeps-trans c.args.cells.now c.loop-pairs.cells c.solve.new.cells c.loop-pairs.invariant.keeps c.in_ok-solve.ensures.keeps

pub behind-pairs-requires-clause-fits : goal.behind-pairs-requires-clause-fits
behind-pairs-requires-clause-fits c =
    let l = c.loop-pairs.invariant.inside.0 in
    let r = c.loop-pairs.invariant.inside.1 in
    let f = c.len-places.ensures.few in
    let e = c.loop-pairs.invariant.len in
    (omega arith, omega arith)

pub loop-pairs-smaller-in-Solved : goal.loop-pairs-smaller-in-Solved
loop-pairs-smaller-in-Solved c =
    let us = trees c.loop-pairs.cells.cells in
    let vs = trees c.solve.new.cells.cells in
    let n = length c.loop-pairs.cells.cells in
    let rs = c.loop-pairs.runs.items in
    let p = c.loop-pairs.pairs in
    let rest : Pairs = record { left = p.left + 1; right = p.right + 1; count = p.count - 1 } in
    let qs = rs ++ rest ∷ [] in
    let l = c.loop-pairs.invariant.inside.0 in
    let r = c.loop-pairs.invariant.inside.1 in
    let i = Each-push (ArePairs n) rs rest c.loop-pairs.invariant.left (omega arith, omega arith) in
    let w = weight_runs-push us rs rest in
    subst (λ k. turns (frees c.solve.new.cells.cells) (weight_runs vs (rs ++ k ∷ [])) < turns (frees c.loop-pairs.cells.cells) (weight_runs us (rs ++ p ∷ []))) (sym c.behind-pairs.ensures)
    (run_turn (frees c.solve.new.cells.cells) (frees c.loop-pairs.cells.cells) us vs (rs ++ p ∷ []) rs qs qs p (omega arith) refl (omega arith)
    (subst (λ o. turns (frees c.solve.new.cells.cells) (weight_runs vs (with_args o qs)) < turns (frees c.loop-pairs.cells.cells) (weight_runs us qs + 2 * (weight (tree_at us p.left) + weight (tree_at us p.right)))) c.in-Solved.is
    (c.in_ok-solve.ensures.less qs i (ap goes_on c.in-Solved.is))))

pub loop-pairs-preserved-in-Solved : goal.loop-pairs-preserved-in-Solved
loop-pairs-preserved-in-Solved c =
    let us = trees c.loop-pairs.cells.cells in
    let vs = trees c.solve.new.cells.cells in
    let n = length c.loop-pairs.cells.cells in
    let o = c.loop-pairs.invariant in
    let rs = c.loop-pairs.runs.items in
    let p = c.loop-pairs.pairs in
    let rest : Pairs = record { left = p.left + 1; right = p.right + 1; count = p.count - 1 } in
    let qs = rs ++ rest ∷ [] in
    let l = o.inside.0 in
    let r = o.inside.1 in
    let i = Each-push (ArePairs n) rs rest o.left (omega arith, omega arith) in
    let z = trees-length c.loop-pairs.cells.cells in
    let e = o.len in
    let t = subst (λ w. Turned us vs qs (with_args w qs) c.loop-pairs.classes c.solve.new.classes p.left p.right (goes_on w)) c.in-Solved.is (c.in_ok-solve.ensures.turned qs i) in
    record {
      going = λ ts a b g. subst (λ k. Going ts vs (rs ++ k ∷ []) c.solve.new.classes a b) (sym c.behind-pairs.ensures)
          (going_turn ts us vs (rs ++ p ∷ []) rs qs qs c.loop-pairs.classes c.solve.new.classes p a b (o.going ts a b g) (omega arith) refl
          (λ h s q. Each-push (SolvesRun h us) rs rest s q) (λ ws w s. Each-pop (IsBelow ws w) rs rest s) t);
      less = let k = loop-pairs-smaller-in-Solved c in let m = o.less in omega arith;
      left = subst (λ m. Each (ArePairs m) rs) (sym c.in_ok-solve.ensures.len) o.left;
      inside = subst (λ k. ArePairs (length c.solve.new.cells.cells) k) (sym c.behind-pairs.ensures) (let g = c.in_ok-solve.ensures.len in (omega arith, omega arith));
      len = c.in_ok-solve.ensures.len ∙ o.len;
      keeps = Keeps-trans c.args.cells.now c.loop-pairs.cells c.solve.new.cells o.keeps c.in_ok-solve.ensures.keeps;
      spare = c.in_ok-solve.ensures.spare ∙ o.spare;
    }

pub leave-requires-clause-fits : goal.leave-requires-clause-fits
leave-requires-clause-fits c =
    let l = c.loop-pairs.invariant.inside.0 in
    let r = c.loop-pairs.invariant.inside.1 in
    let f = c.len-places.ensures.few in
    let e = c.loop-pairs.invariant.len in
    (omega arith, omega arith)

pub returns-in_err-leave-in-Args-clause-keeps : goal.returns-in_err-leave-in-Args-clause-keeps
returns-in_err-leave-in-Args-clause-keeps c = Keeps-trans c.args.cells.now c.loop-pairs.cells c.solve.new.cells c.loop-pairs.invariant.keeps c.in_ok-solve.ensures.keeps

pub loop-pairs-smaller : goal.loop-pairs-smaller
loop-pairs-smaller c =
    let us = trees c.loop-pairs.cells.cells in
    let vs = trees c.solve.new.cells.cells in
    let n = length c.loop-pairs.cells.cells in
    let rs = c.loop-pairs.runs.items in
    let p = c.loop-pairs.pairs in
    let qs = c.leave.new.runs.items in
    let i = c.in_ok-leave-in-Args.ensures.runs n c.loop-pairs.invariant.inside c.loop-pairs.invariant.left in
    run_turn (frees c.solve.new.cells.cells) (frees c.loop-pairs.cells.cells) us vs (rs ++ p ∷ []) rs qs (qs ++ c.in-Args.args ∷ []) p (omega arith) refl (c.in_ok-leave-in-Args.ensures.less us)
    (subst (λ o. turns (frees c.solve.new.cells.cells) (weight_runs vs (with_args o qs)) < turns (frees c.loop-pairs.cells.cells) (weight_runs us qs + 2 * (weight (tree_at us p.left) + weight (tree_at us p.right)))) c.in-Args.is
    (c.in_ok-solve.ensures.less qs i (ap goes_on c.in-Args.is)))

pub returns-then-not-has_step-clause-tells : goal.returns-then-not-has_step-clause-tells
returns-then-not-has_step-clause-tells c ts a b x y g =
    let us = trees c.loop-pairs.cells.cells in
    let vs = trees c.solve.new.cells.cells in
    let n = length c.loop-pairs.cells.cells in
    let o = c.loop-pairs.invariant in
    let rs = c.loop-pairs.runs.items in
    let p = c.loop-pairs.pairs in
    let qs = c.leave.new.runs.items in
    let i = c.in_ok-leave-in-Args.ensures.runs n o.inside o.left in
    let t = subst (λ w. Turned us vs qs (with_args w qs) c.loop-pairs.classes c.solve.new.classes p.left p.right (goes_on w)) c.in-Args.is (c.in_ok-solve.ensures.turned qs i) in
    going_turn ts us vs (rs ++ p ∷ []) rs qs (qs ++ c.in-Args.args ∷ []) c.loop-pairs.classes c.solve.new.classes p a b (o.going ts a b g) (omega arith) refl
    (λ h s q. c.in_ok-leave-in-Args.ensures.solves us h s q) (λ ws w s. c.in_ok-leave-in-Args.ensures.below ws w s) t

pub returns-then-not-has_step-clause-less : goal.returns-then-not-has_step-clause-less
returns-then-not-has_step-clause-less c =
    let us = trees c.loop-pairs.cells.cells in
    let vs = trees c.solve.new.cells.cells in
    let n = length c.loop-pairs.cells.cells in
    let rs = c.loop-pairs.runs.items in
    let p = c.loop-pairs.pairs in
    let qs = c.leave.new.runs.items in
    let i = c.in_ok-leave-in-Args.ensures.runs n c.loop-pairs.invariant.inside c.loop-pairs.invariant.left in
    let k = run_turn (frees c.solve.new.cells.cells) (frees c.loop-pairs.cells.cells) us vs (rs ++ p ∷ []) rs qs (qs ++ c.in-Args.args ∷ []) p (omega arith) refl (c.in_ok-leave-in-Args.ensures.less us)
    (subst (λ o. turns (frees c.solve.new.cells.cells) (weight_runs vs (with_args o qs)) < turns (frees c.loop-pairs.cells.cells) (weight_runs us qs + 2 * (weight (tree_at us p.left) + weight (tree_at us p.right)))) c.in-Args.is
    (c.in_ok-solve.ensures.less qs i (ap goes_on c.in-Args.is))) in
    let m = c.loop-pairs.invariant.less in
    omega arith

pub returns-then-not-has_step-clause-stop : goal.returns-then-not-has_step-clause-stop
returns-then-not-has_step-clause-stop c = subst (λ m. ArePairs m c.in-Args.args) (sym c.in_ok-solve.ensures.len) (subst (IsLeft (length c.loop-pairs.cells.cells)) c.in-Args.is c.in_ok-solve.ensures.args)

pub returns-then-not-has_step-clause-runs : goal.returns-then-not-has_step-clause-runs
returns-then-not-has_step-clause-runs c =
    subst (λ m. Each (ArePairs m) c.leave.new.runs.items) (sym c.in_ok-solve.ensures.len) (c.in_ok-leave-in-Args.ensures.runs (length c.loop-pairs.cells.cells) c.loop-pairs.invariant.inside c.loop-pairs.invariant.left)

pub returns-then-not-has_step-clause-keeps : goal.returns-then-not-has_step-clause-keeps
returns-then-not-has_step-clause-keeps c = Keeps-trans c.args.cells.now c.loop-pairs.cells c.solve.new.cells c.loop-pairs.invariant.keeps c.in_ok-solve.ensures.keeps

pub loop-pairs-preserved : goal.loop-pairs-preserved
loop-pairs-preserved c =
    let us = trees c.loop-pairs.cells.cells in
    let vs = trees c.solve.new.cells.cells in
    let n = length c.loop-pairs.cells.cells in
    let o = c.loop-pairs.invariant in
    let rs = c.loop-pairs.runs.items in
    let p = c.loop-pairs.pairs in
    let qs = c.leave.new.runs.items in
    let i = c.in_ok-leave-in-Args.ensures.runs n o.inside o.left in
    let z = trees-length c.loop-pairs.cells.cells in
    let e = o.len in
    let t = subst (λ w. Turned us vs qs (with_args w qs) c.loop-pairs.classes c.solve.new.classes p.left p.right (goes_on w)) c.in-Args.is (c.in_ok-solve.ensures.turned qs i) in
    record {
      going = λ ts a b g. going_turn ts us vs (rs ++ p ∷ []) rs qs (qs ++ c.in-Args.args ∷ []) c.loop-pairs.classes c.solve.new.classes p a b (o.going ts a b g) (omega arith) refl
          (λ h s q. c.in_ok-leave-in-Args.ensures.solves us h s q) (λ ws w s. c.in_ok-leave-in-Args.ensures.below ws w s) t;
      less = let k = loop-pairs-smaller c in let m = o.less in omega arith;
      left = subst (λ m. Each (ArePairs m) qs) (sym c.in_ok-solve.ensures.len) i;
      inside = subst (λ m. ArePairs m c.in-Args.args) (sym c.in_ok-solve.ensures.len) (subst (IsLeft n) c.in-Args.is c.in_ok-solve.ensures.args);
      len = c.in_ok-solve.ensures.len ∙ o.len;
      keeps = Keeps-trans c.args.cells.now c.loop-pairs.cells c.solve.new.cells o.keeps c.in_ok-solve.ensures.keeps;
      spare = c.in_ok-solve.ensures.spare ∙ o.spare;
    }
