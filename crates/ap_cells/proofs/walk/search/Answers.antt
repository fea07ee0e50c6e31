use Rattle.std.proofs.Common.{ℕ, ◌≡◌, ◌<◌, ◌∷◌, nat_eq, true, length, ap, subst, sym, ◌∙◌, arith, inl, inr, eq-eqb}
use Rattle.std.specs.List.{list_any}
use Rattle.std.proofs.lemmas.Bool.{false≢true}
use Rattle.ap_term.specs.Vars.{occurs}
use Rattle.ap_cells.specs.Trees.{trees}
use Rattle.ap_cells.specs.Walks.{AreRanges, IsRange, weight_in}
use Rattle.ap_cells.proofs.Walks.{Each-pop, weight_in-push, weight-behind, weight-opened, other_var}
use Rattle.ap_cells.proofs.Searches.{Search-pop, Search-behind, Search-opened, Search-marks, Search-ends}
use Rattle.ap_cells.proofs.walk.search.Goals as goal

pub loop-run-smaller-in-Some : goal.loop-run-smaller-in-Some
loop-run-smaller-in-Some c =
    let ts = trees c.args.cells.now.cells in
    let w = ap (weight_in ts) c.in-Some.ensures.items ∙ weight_in-push ts c.pop.new.self.items c.in-Some.next in
    omega arith

pub loop-run-preserved-in-Some : goal.loop-run-preserved-in-Some
loop-run-preserved-in-Some c =
    let ts = trees c.args.cells.now.cells in
    let n = length c.args.cells.now.cells in
    let o = c.loop-run.invariant in
    let k = Each-pop (IsRange n) c.pop.new.self.items c.in-Some.next (subst (AreRanges n) c.in-Some.ensures.items o.inside) in
    let w = ap (weight_in ts) c.in-Some.ensures.items ∙ weight_in-push ts c.pop.new.self.items c.in-Some.next in
    let l = o.less in
    record {
      search = λ root s. Search-pop c.args.x ts root c.loop-run.marks c.loop-run.run c.in-Some.next c.pop.new.self.items c.loop-run.ranges.items c.if-run-eq0.true c.in-Some.ensures.items (o.search root s);
      less = omega arith;
      run = k.1;
      inside = k.0;
    }

pub returns-in-None-clause-tells : goal.returns-in-None-clause-tells
returns-in-None-clause-tells c root s =
    let ts = trees c.args.cells.now.cells in
    Search-ends c.args.x ts root c.loop-run.marks c.loop-run.run c.loop-run.ranges.items c.if-run-eq0.true (grind (arith, c.in-None.ensures, c.in-None.is)) (c.loop-run.invariant.search root s)

pub returns-then-variable-x-clause-tells : goal.returns-then-variable-x-clause-tells
returns-then-variable-x-clause-tells c root s =
    let run = c.loop-run.run in
    (c.loop-run.invariant.search root s).belongs run.first (inl (omega arith, omega arith)) (ap (occurs c.args.x) c.in-Free.ensures.tree ∙ eq-eqb c.args.x c.in-Free.variable (sym c.if-variable-x.true))

pub returns-then-variable-x-clause-ranges : goal.returns-then-variable-x-clause-ranges
returns-then-variable-x-clause-ranges c = c.loop-run.invariant.inside

pub loop-run-preserved-in-Free : goal.loop-run-preserved-in-Free
loop-run-preserved-in-Free c =
    let ts = trees c.args.cells.now.cells in
    let n = length c.args.cells.now.cells in
    let x = c.args.x in
    let run = c.loop-run.run in
    let o = c.loop-run.invariant in
    let l = o.run in
    let some : 0 < run.count = omega arith in
    let w = weight-behind ts run c.behind-run.result some c.behind-run.ensures in
    let m = o.less in
    record {
      search = λ root s. Search-behind x ts root c.loop-run.marks run c.behind-run.result c.loop-run.ranges.items some c.behind-run.ensures
          (λ e. absurd (false≢true (sym (ap (occurs x) c.in-Free.ensures.tree ∙ other_var x c.in-Free.variable c.if-variable-x.false) ∙ e))) (o.search root s);
      less = omega arith;
      run = subst (IsRange n) (sym c.behind-run.ensures) (omega arith);
      inside = o.inside;
    }

pub loop-run-preserved-then-are_settled_before : goal.loop-run-preserved-then-are_settled_before
loop-run-preserved-then-are_settled_before c =
    let ts = trees c.args.cells.now.cells in
    let n = length c.args.cells.now.cells in
    let x = c.args.x in
    let run = c.loop-run.run in
    let o = c.loop-run.invariant in
    let l = o.run in
    let some : 0 < run.count = omega arith in
    let w = weight-behind ts run c.behind-run-then-are_settled_before.result some c.behind-run-then-are_settled_before.ensures in
    let m = o.less in
    record {
      search = λ root s. Search-behind x ts root c.loop-run.marks run c.behind-run-then-are_settled_before.result c.loop-run.ranges.items some c.behind-run-then-are_settled_before.ensures
          (λ e. absurd (false≢true (sym (ap (occurs x) c.in-Node.ensures.tree ∙ c.are_settled_before.ensures c.if-are_settled_before.true) ∙ e))) (o.search root s);
      less = omega arith;
      run = subst (IsRange n) (sym c.behind-run-then-are_settled_before.ensures) (omega arith);
      inside = o.inside;
    }

pub returns-then-not-has_step-clause-tells : goal.returns-then-not-has_step-clause-tells
returns-then-not-has_step-clause-tells c root s =
    let ts = trees c.args.cells.now.cells in
    let run = c.loop-run.run in
    let some : 0 < run.count = omega arith in
    let f = c.in_ok-is_new-in-Node.ensures in
    Search-opened c.args.x ts root c.loop-run.marks c.is_new.new.marks run (record { first = c.in-Node.first; count = c.in-Node.count }) c.loop-run.ranges.items c.leave.new.ranges.items c.in-Node.field-0
    some c.in-Node.ensures.tree c.in_ok-leave-in-Node.ensures.places f.marked (λ y m. elim (f.no_more y m) [ inl a ↦ inl a | inr b ↦ inr b.0 ]) (c.loop-run.invariant.search root s)

pub returns-then-not-has_step-clause-ranges : goal.returns-then-not-has_step-clause-ranges
returns-then-not-has_step-clause-ranges c = c.in_ok-leave-in-Node.ensures.ranges (length c.args.cells.now.cells) c.loop-run.invariant.run c.loop-run.invariant.inside

pub loop-run-preserved-else-is_step : goal.loop-run-preserved-else-is_step
loop-run-preserved-else-is_step c =
    let ts = trees c.args.cells.now.cells in
    let n = length c.args.cells.now.cells in
    let run = c.loop-run.run in
    let o = c.loop-run.invariant in
    let some : 0 < run.count = omega arith in
    let f = c.in_ok-is_new-in-Node.ensures in
    let w = weight-opened ts run c.in-Node.field-0 c.in-Node.first c.in-Node.count some c.in-Node.ensures.tree in
    let k = c.in_ok-leave-in-Node.ensures.less ts in
    let m = o.less in
    record {
      search = λ root s. Search-opened c.args.x ts root c.loop-run.marks c.is_new.new.marks run (record { first = c.in-Node.first; count = c.in-Node.count }) c.loop-run.ranges.items c.leave.new.ranges.items c.in-Node.field-0
          some c.in-Node.ensures.tree c.in_ok-leave-in-Node.ensures.places f.marked (λ y m. elim (f.no_more y m) [ inl a ↦ inl a | inr b ↦ inr b.0 ]) (o.search root s);
      less = omega arith;
      run = c.in-Node.ensures.inside;
      inside = c.in_ok-leave-in-Node.ensures.ranges n o.run o.inside;
    }

pub loop-run-preserved-else-branch : goal.loop-run-preserved-else-branch
loop-run-preserved-else-branch c =
    let ts = trees c.args.cells.now.cells in
    let n = length c.args.cells.now.cells in
    let x = c.args.x in
    let run = c.loop-run.run in
    let o = c.loop-run.invariant in
    let l = o.run in
    let some : 0 < run.count = omega arith in
    let f = c.in_ok-is_new-in-Node.ensures in
    let only : (y : ℕ) → list_any (nat_eq y) c.is_new.new.marks ≡ true → list_any (nat_eq y) c.loop-run.marks ≡ true = λ y m. elim (f.no_more y m) [ inl a ↦ a | inr b ↦ absurd (false≢true (sym c.if-branch.false ∙ b.1)) ] in
    let w = weight-behind ts run c.behind-run-else-branch.result some c.behind-run-else-branch.ensures in
    let m = o.less in
    record {
      search = λ root s. Search-behind c.args.x ts root c.is_new.new.marks run c.behind-run-else-branch.result c.loop-run.ranges.items some c.behind-run-else-branch.ensures
          (λ e. f.seen c.if-branch.false) (Search-marks c.args.x ts root c.loop-run.marks c.is_new.new.marks (run ∷ c.loop-run.ranges.items) f.marked only (o.search root s));
      less = omega arith;
      run = subst (IsRange n) (sym c.behind-run-else-branch.ensures) (omega arith);
      inside = o.inside;
    }

pub loop-run-preserved-in-Int : goal.loop-run-preserved-in-Int
loop-run-preserved-in-Int c =
    let ts = trees c.args.cells.now.cells in
    let n = length c.args.cells.now.cells in
    let x = c.args.x in
    let run = c.loop-run.run in
    let o = c.loop-run.invariant in
    let l = o.run in
    let some : 0 < run.count = omega arith in
    let w = weight-behind ts run c.behind-run-in-Int.result some c.behind-run-in-Int.ensures in
    let m = o.less in
    record {
      search = λ root s. Search-behind x ts root c.loop-run.marks run c.behind-run-in-Int.result c.loop-run.ranges.items some c.behind-run-in-Int.ensures
          (λ e. absurd (false≢true (sym (ap (occurs x) c.in-Int.ensures.tree) ∙ e))) (o.search root s);
      less = omega arith;
      run = subst (IsRange n) (sym c.behind-run-in-Int.ensures) (omega arith);
      inside = o.inside;
    }

pub loop-run-preserved : goal.loop-run-preserved
loop-run-preserved c =
    let ts = trees c.args.cells.now.cells in
    let n = length c.args.cells.now.cells in
    let x = c.args.x in
    let run = c.loop-run.run in
    let o = c.loop-run.invariant in
    let l = o.run in
    let some : 0 < run.count = omega arith in
    let w = weight-behind ts run c.behind-run-in-Atom.result some c.behind-run-in-Atom.ensures in
    let m = o.less in
    record {
      search = λ root s. Search-behind x ts root c.loop-run.marks run c.behind-run-in-Atom.result c.loop-run.ranges.items some c.behind-run-in-Atom.ensures
          (λ e. absurd (false≢true (sym (ap (occurs x) c.in-Atom.ensures.tree) ∙ e))) (o.search root s);
      less = omega arith;
      run = subst (IsRange n) (sym c.behind-run-in-Atom.ensures) (omega arith);
      inside = o.inside;
    }
