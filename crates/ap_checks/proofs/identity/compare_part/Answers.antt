use Rattle.std.proofs.Common.{◌+◌, ◌-◌, ◌<◌, [], ◌∷◌, ◌++◌, length, refl, sym, ap, subst, arith}
use Rattle.std.proofs.lemmas.List.{nil_from_length}
use Rattle.ap_cells.specs.Trees.{tree_at, trees}
use Rattle.ap_cells.specs.Walks.{Each, weight}
use Rattle.ap_cells.specs.Assumed.{ArePairs, IsBelow}
use Rattle.ap_cells.specs.declared.pairs.Pairs.{Pairs}
use Rattle.ap_cells.proofs.Walks.{Each-push, Each-pop, weight-some}
use Rattle.ap_checks.specs.Pairs.{AreSame, weight_pairs}
use Rattle.ap_checks.specs.Shared.{Looked, AreLighter, AreInside, Going}
use Rattle.ap_checks.proofs.Pairs.{apart_pairs, weight_turn, weight_pairs-push}
use Rattle.ap_checks.proofs.Shared.{Going-on, Going-empty, Going-ends}
use Rattle.ap_checks.proofs.identity.compare_part.Goals as goal

pub loop-run-init : goal.loop-run-init
loop-run-init c = record {
  going = λ first g. g;
  less = omega arith;
  left = c.requires.pairs;
  inside = c.requires.start;
}

pub loop-run-smaller-in-Some : goal.loop-run-smaller-in-Some
loop-run-smaller-in-Some c =
    let ts = trees c.args.cells.now.cells in
    let e = ap (weight_pairs ts) c.in-Some.ensures.items in
    let w = weight_pairs-push ts c.loop-run.pairs.items c.loop-run.run in
    omega arith

pub loop-run-preserved-in-Some : goal.loop-run-preserved-in-Some
loop-run-preserved-in-Some c =
    let ts = trees c.args.cells.now.cells in
    let n = length c.args.cells.now.cells in
    let o = c.loop-run.invariant in
    let k = Each-pop (ArePairs n) c.pop.new.self.items c.in-Some.next (subst (Each (ArePairs n)) c.in-Some.ensures.items o.left) in
    record {
      going = λ first g. subst (λ rs. Going ts first rs c.loop-run.classes) c.in-Some.ensures.items
          (Going-empty ts first (c.loop-run.pairs.items ++ c.loop-run.run ∷ []) c.loop-run.pairs.items c.loop-run.classes c.loop-run.run c.if-run-eq0.true refl (o.going first g));
      less = let k = loop-run-smaller-in-Some c in let m = o.less in omega arith;
      left = k.0;
      inside = k.1;
    }

pub returns-in-None-clause-tells : goal.returns-in-None-clause-tells
returns-in-None-clause-tells c first g =
    let ts = trees c.args.cells.now.cells in
    Going-ends ts first c.loop-run.pairs.items c.loop-run.classes (nil_from_length c.loop-run.pairs.items (let k = c.in-None.ensures.cases in omega arith))
    (Going-empty ts first (c.loop-run.pairs.items ++ c.loop-run.run ∷ []) c.loop-run.pairs.items c.loop-run.classes c.loop-run.run c.if-run-eq0.true refl (c.loop-run.invariant.going first g))

pub compare-requires : goal.compare-requires
compare-requires c =
    let l = c.loop-run.invariant.inside.0 in
    let r = c.loop-run.invariant.inside.1 in
    (omega arith, omega arith)

pub returns-in-Apart-clause-tells : goal.returns-in-Apart-clause-tells
returns-in-Apart-clause-tells c first g s =
    let ts = trees c.args.cells.now.cells in
    let run = c.loop-run.run in
    let rs = c.loop-run.pairs.items in
    let t = subst (Looked ts c.loop-run.classes c.compare.new.classes run.left run.right) c.in-Apart.is c.in_ok-compare.ensures.looked in
    apart_pairs ts (rs ++ run ∷ []) rs run (omega arith) refl t ((c.loop-run.invariant.going first g).sound s).0

pub behind-run-requires-clause-fits : goal.behind-run-requires-clause-fits
behind-run-requires-clause-fits c =
    let l = c.loop-run.invariant.inside.0 in
    let r = c.loop-run.invariant.inside.1 in
    (omega arith, omega arith)

pub loop-run-smaller-in-Same : goal.loop-run-smaller-in-Same
loop-run-smaller-in-Same c =
    let ts = trees c.args.cells.now.cells in
    let run = c.loop-run.run in
    let rs = c.loop-run.pairs.items in
    let rest : Pairs = record { left = run.left + 1; right = run.right + 1; count = run.count - 1 } in
    let w = weight_pairs-push ts rs rest in
    let v = weight-some (tree_at ts run.left) in
    subst (λ k. weight_pairs ts (rs ++ k ∷ []) < weight_pairs ts (rs ++ run ∷ [])) (sym c.behind-run.ensures)
    (weight_turn ts (rs ++ run ∷ []) rs (rs ++ rest ∷ []) (rs ++ rest ∷ []) run (omega arith) refl (omega arith) (omega arith))

pub loop-run-preserved-in-Same : goal.loop-run-preserved-in-Same
loop-run-preserved-in-Same c =
    let ts = trees c.args.cells.now.cells in
    let n = length c.args.cells.now.cells in
    let o = c.loop-run.invariant in
    let run = c.loop-run.run in
    let rs = c.loop-run.pairs.items in
    let rest : Pairs = record { left = run.left + 1; right = run.right + 1; count = run.count - 1 } in
    let qs = rs ++ rest ∷ [] in
    let l = o.inside.0 in
    let r = o.inside.1 in
    let t = subst (Looked ts c.loop-run.classes c.compare.new.classes run.left run.right) c.in-Same.is c.in_ok-compare.ensures.looked in
    record {
      going = λ first g. subst (λ k. Going ts first (rs ++ k ∷ []) c.compare.new.classes) (sym c.behind-run.ensures)
          (Going-on ts first (rs ++ run ∷ []) rs qs qs c.loop-run.classes c.compare.new.classes run (omega arith) refl
          (λ s q. Each-push (AreSame ts) rs rest s q) (λ w s. Each-pop (IsBelow ts w) rs rest s) (t qs) (o.going first g));
      less = let k = loop-run-smaller-in-Same c in let m = o.less in omega arith;
      left = o.left;
      inside = subst (ArePairs n) (sym c.behind-run.ensures) (omega arith, omega arith);
    }

pub leave-requires-clause-fits : goal.leave-requires-clause-fits
leave-requires-clause-fits c =
    let l = c.loop-run.invariant.inside.0 in
    let r = c.loop-run.invariant.inside.1 in
    (omega arith, omega arith)

pub loop-run-smaller : goal.loop-run-smaller
loop-run-smaller c =
    let ts = trees c.args.cells.now.cells in
    let run = c.loop-run.run in
    let rs = c.loop-run.pairs.items in
    let qs = c.leave.new.pairs.items in
    let a = subst (λ o. AreLighter ts o (weight (tree_at ts run.left))) c.in-Arguments.is c.in_ok-compare.ensures.less in
    let w = weight_pairs-push ts qs c.in-Arguments.arguments in
    weight_turn ts (rs ++ run ∷ []) rs qs (qs ++ c.in-Arguments.arguments ∷ []) run (omega arith) refl (c.in_ok-leave-in-Arguments.ensures.less ts) (omega arith)

pub loop-run-preserved : goal.loop-run-preserved
loop-run-preserved c =
    let ts = trees c.args.cells.now.cells in
    let n = length c.args.cells.now.cells in
    let o = c.loop-run.invariant in
    let run = c.loop-run.run in
    let rs = c.loop-run.pairs.items in
    let qs = c.leave.new.pairs.items in
    let t = subst (Looked ts c.loop-run.classes c.compare.new.classes run.left run.right) c.in-Arguments.is c.in_ok-compare.ensures.looked in
    record {
      going = λ first g. Going-on ts first (rs ++ run ∷ []) rs qs (qs ++ c.in-Arguments.arguments ∷ []) c.loop-run.classes c.compare.new.classes run (omega arith) refl
          (c.in_ok-leave-in-Arguments.ensures.same ts) (c.in_ok-leave-in-Arguments.ensures.below ts) (t qs) (o.going first g);
      less = let k = loop-run-smaller c in let m = o.less in omega arith;
      left = c.in_ok-leave-in-Arguments.ensures.inside n o.inside o.left;
      inside = subst (AreInside n) c.in-Arguments.is c.in_ok-compare.ensures.inside;
    }

pub returns-then-not-has_step-clause-tells : goal.returns-then-not-has_step-clause-tells
returns-then-not-has_step-clause-tells c first g =
    let ts = trees c.args.cells.now.cells in
    let run = c.loop-run.run in
    let rs = c.loop-run.pairs.items in
    let qs = c.leave.new.pairs.items in
    let t = subst (Looked ts c.loop-run.classes c.compare.new.classes run.left run.right) c.in-Arguments.is c.in_ok-compare.ensures.looked in
    Going-on ts first (rs ++ run ∷ []) rs qs (qs ++ c.in-Arguments.arguments ∷ []) c.loop-run.classes c.compare.new.classes run (omega arith) refl
    (c.in_ok-leave-in-Arguments.ensures.same ts) (c.in_ok-leave-in-Arguments.ensures.below ts) (t qs) (c.loop-run.invariant.going first g)

pub returns-then-not-has_step-clause-less : goal.returns-then-not-has_step-clause-less
returns-then-not-has_step-clause-less c =
    let ts = trees c.args.cells.now.cells in
    let run = c.loop-run.run in
    let rs = c.loop-run.pairs.items in
    let qs = c.leave.new.pairs.items in
    let a = subst (λ o. AreLighter ts o (weight (tree_at ts run.left))) c.in-Arguments.is c.in_ok-compare.ensures.less in
    let w = weight_pairs-push ts qs c.in-Arguments.arguments in
    let k = weight_turn ts (rs ++ run ∷ []) rs qs (qs ++ c.in-Arguments.arguments ∷ []) run (omega arith) refl (c.in_ok-leave-in-Arguments.ensures.less ts) (omega arith) in
    let m = c.loop-run.invariant.less in
    omega arith

pub returns-then-not-has_step-clause-stop : goal.returns-then-not-has_step-clause-stop
returns-then-not-has_step-clause-stop c = subst (AreInside (length c.args.cells.now.cells)) c.in-Arguments.is c.in_ok-compare.ensures.inside

pub returns-then-not-has_step-clause-pairs : goal.returns-then-not-has_step-clause-pairs
returns-then-not-has_step-clause-pairs c = c.in_ok-leave-in-Arguments.ensures.inside (length c.args.cells.now.cells) c.loop-run.invariant.inside c.loop-run.invariant.left
