use Rattle.std.proofs.Common.{ℕ, ◌≡◌, ◌<◌, ◌∷◌, nat_eq, true, length, refl, ap, subst, sym, ◌∙◌, arith, inl, inr, eq-eqb}
use Rattle.std.specs.List.{list_any}
use Rattle.std.proofs.lemmas.Bool.{false≢true}
use Rattle.ap_term.specs.Vars.{occurs}
use Rattle.ap_cells.specs.Trees.{trees, tree_at}
use Rattle.ap_cells.specs.Walks.{AreRanges, IsRange, weight_in, weight_all}
use Rattle.ap_cells.proofs.Walks.{Each-pop, weight_in-push, weight-behind, weight-opened, weight-some, span-first, other_var}
use Rattle.ap_cells.proofs.Searches.{Search-pop, Search-behind, Search-opened, Search-marks, Search-ends, Search-empty, Search-left}
use Rattle.ap_cells.proofs.walk.next_of.Goals as goal

pub loop-run-init : goal.loop-run-init
loop-run-init c = record {
  search = λ x root s. Search-empty x (trees c.args.cells.now.cells) root c.args.marks.now (record { first = 0; count = 0 }) c.args.ranges.now.items refl s;
  less = omega arith;
  run = omega arith;
  inside = c.requires;
}

pub loop-run-smaller-in-Some : goal.loop-run-smaller-in-Some
loop-run-smaller-in-Some c =
    let ts = trees c.args.cells.now.cells in
    let w = ap (weight_in ts) c.in-Some.ensures.items ∙ weight_in-push ts c.pop.new.self.items c.in-Some.next in
    omega arith

pub loop-run-preserved-in-Some : goal.loop-run-preserved-in-Some
loop-run-preserved-in-Some c =
    let ts = trees c.args.cells.now.cells in
    let n = length c.args.cells.now.cells in
    let o = c.loop-run.invariant in
    let k = Each-pop (IsRange n) c.pop.new.self.items c.in-Some.next (subst (AreRanges n) c.in-Some.ensures.items o.inside) in
    let w = ap (weight_in ts) c.in-Some.ensures.items ∙ weight_in-push ts c.pop.new.self.items c.in-Some.next in
    let l = o.less in
    record {
      search = λ x root s. Search-pop x ts root c.loop-run.marks c.loop-run.run c.in-Some.next c.pop.new.self.items c.loop-run.ranges.items c.if-run-eq0.true c.in-Some.ensures.items (o.search x root s);
      less = omega arith;
      run = k.1;
      inside = k.0;
    }

pub returns-in-None-clause-next : goal.returns-in-None-clause-next
returns-in-None-clause-next c x root s =
    Search-ends x (trees c.args.cells.now.cells) root c.loop-run.marks c.loop-run.run c.loop-run.ranges.items c.if-run-eq0.true (grind (arith, c.in-None.ensures, c.in-None.is)) (c.loop-run.invariant.search x root s)

pub returns-in-Free-clause-next : goal.returns-in-Free-clause-next
returns-in-Free-clause-next c x root s =
    let ts = trees c.args.cells.now.cells in
    let run = c.loop-run.run in
    let some : 0 < run.count = omega arith in
    let k = c.loop-run.invariant.search x root s in (
      λ e. k.belongs run.first (inl (omega arith, omega arith)) (ap (occurs x) c.in-Free.ensures.tree ∙ eq-eqb x c.in-Free.variable (sym e)),
      λ e. Search-left x ts root c.loop-run.marks run c.loop-run.ranges.items c.leave.new.ranges.items some
          (λ o. false≢true (sym (ap (occurs x) c.in-Free.ensures.tree ∙ other_var x c.in-Free.variable e) ∙ o)) c.in_ok-leave-in-Free.ensures.places k,
    )

pub returns-in-Free-clause-less : goal.returns-in-Free-clause-less
returns-in-Free-clause-less c =
    let ts = trees c.args.cells.now.cells in
    let run = c.loop-run.run in
    let w = ap weight_all (span-first ts run.first run.count (omega arith)) in
    let v = weight-some (tree_at ts run.first) in
    let k = c.in_ok-leave-in-Free.ensures.less ts in
    let m = c.loop-run.invariant.less in
    omega arith

pub returns-in-Free-clause-ranges : goal.returns-in-Free-clause-ranges
returns-in-Free-clause-ranges c = c.in_ok-leave-in-Free.ensures.ranges (length c.args.cells.now.cells) c.loop-run.invariant.run c.loop-run.invariant.inside

pub loop-run-preserved-then-branch : goal.loop-run-preserved-then-branch
loop-run-preserved-then-branch c =
    let ts = trees c.args.cells.now.cells in
    let n = length c.args.cells.now.cells in
    let run = c.loop-run.run in
    let o = c.loop-run.invariant in
    let some : 0 < run.count = omega arith in
    let f = c.in_ok-is_new-in-Node.ensures in
    let w = weight-opened ts run c.in-Node.field-0 c.in-Node.first c.in-Node.count some c.in-Node.ensures.tree in
    let k = c.in_ok-leave-in-Node.ensures.less ts in
    let m = o.less in
    record {
      search = λ x root s. Search-opened x ts root c.loop-run.marks c.is_new.new.marks run (record { first = c.in-Node.first; count = c.in-Node.count }) c.loop-run.ranges.items c.leave-then-branch.new.ranges.items c.in-Node.field-0
          some c.in-Node.ensures.tree c.in_ok-leave-in-Node.ensures.places f.marked (λ y m. elim (f.no_more y m) [ inl a ↦ inl a | inr b ↦ inr b.0 ]) (o.search x root s);
      less = omega arith;
      run = c.in-Node.ensures.inside;
      inside = c.in_ok-leave-in-Node.ensures.ranges n o.run o.inside;
    }

pub loop-run-preserved-else-branch : goal.loop-run-preserved-else-branch
loop-run-preserved-else-branch c =
    let ts = trees c.args.cells.now.cells in
    let n = length c.args.cells.now.cells in
    let run = c.loop-run.run in
    let o = c.loop-run.invariant in
    let l = o.run in
    let some : 0 < run.count = omega arith in
    let f = c.in_ok-is_new-in-Node.ensures in
    let only : (y : ℕ) → list_any (nat_eq y) c.is_new.new.marks ≡ true → list_any (nat_eq y) c.loop-run.marks ≡ true = λ y m. elim (f.no_more y m) [ inl a ↦ a | inr b ↦ absurd (false≢true (sym c.if-branch.false ∙ b.1)) ] in
    let w = weight-behind ts run c.behind-run.result some c.behind-run.ensures in
    let m = o.less in
    record {
      search = λ x root s. Search-behind x ts root c.is_new.new.marks run c.behind-run.result c.loop-run.ranges.items some c.behind-run.ensures
          (λ e. f.seen c.if-branch.false) (Search-marks x ts root c.loop-run.marks c.is_new.new.marks (run ∷ c.loop-run.ranges.items) f.marked only (o.search x root s));
      less = omega arith;
      run = subst (IsRange n) (sym c.behind-run.ensures) (omega arith);
      inside = o.inside;
    }

pub loop-run-preserved-in-Int : goal.loop-run-preserved-in-Int
loop-run-preserved-in-Int c =
    let ts = trees c.args.cells.now.cells in
    let n = length c.args.cells.now.cells in
    let run = c.loop-run.run in
    let o = c.loop-run.invariant in
    let l = o.run in
    let some : 0 < run.count = omega arith in
    let w = weight-behind ts run c.behind-run-in-Int.result some c.behind-run-in-Int.ensures in
    let m = o.less in
    record {
      search = λ x root s. Search-behind x ts root c.loop-run.marks run c.behind-run-in-Int.result c.loop-run.ranges.items some c.behind-run-in-Int.ensures
          (λ e. absurd (false≢true (sym (ap (occurs x) c.in-Int.ensures.tree) ∙ e))) (o.search x root s);
      less = omega arith;
      run = subst (IsRange n) (sym c.behind-run-in-Int.ensures) (omega arith);
      inside = o.inside;
    }

pub loop-run-preserved : goal.loop-run-preserved
loop-run-preserved c =
    let ts = trees c.args.cells.now.cells in
    let n = length c.args.cells.now.cells in
    let run = c.loop-run.run in
    let o = c.loop-run.invariant in
    let l = o.run in
    let some : 0 < run.count = omega arith in
    let w = weight-behind ts run c.behind-run-in-Atom.result some c.behind-run-in-Atom.ensures in
    let m = o.less in
    record {
      search = λ x root s. Search-behind x ts root c.loop-run.marks run c.behind-run-in-Atom.result c.loop-run.ranges.items some c.behind-run-in-Atom.ensures
          (λ e. absurd (false≢true (sym (ap (occurs x) c.in-Atom.ensures.tree) ∙ e))) (o.search x root s);
      less = omega arith;
      run = subst (IsRange n) (sym c.behind-run-in-Atom.ensures) (omega arith);
      inside = o.inside;
    }
