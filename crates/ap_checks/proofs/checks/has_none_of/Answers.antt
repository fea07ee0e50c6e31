use Rattle.std.proofs.Common.{◌≡◌, true, nat_eq, refl, sym, ap, ◌∙◌, subst}
use Rattle.std.specs.List.{list_any}
use Rattle.std.proofs.lemmas.Bool.{false≢true}
use Rattle.ap_cells.specs.Trees.{trees}
use Rattle.ap_cells.specs.Walks.{Meets}
use Rattle.ap_cells.proofs.Searches.{Meets-none}
use Rattle.ap_checks.proofs.checks.has_none_of.Goals as goal

pub loop-variable-init : goal.loop-variable-init
loop-variable-init c = record {
  search = λ x h. c.in_ok-start.ensures.begun x;
  inside = c.in_ok-start.ensures.ranges;
}

pub returns-then-contains : goal.returns-then-contains
returns-then-contains c =
    let ts = trees c.args.cells.now.cells in
    let v = c.in-Some.variable in
    let w = c.next.new.self in
    let h : list_any (nat_eq v) c.args.marks.now ≡ true = sym c.contains.ensures ∙ c.if-contains.true in
    let m = subst (Meets v ts c.args.place w.marks w.ranges) c.in-Some.is (c.in_ok-variable.ensures.next v c.args.place (c.loop-variable.invariant.search v h)) in
    (λ e. absurd (false≢true e), λ n. absurd (false≢true (sym (n v h) ∙ m.0 refl)))

pub loop-variable-preserved : goal.loop-variable-preserved
loop-variable-preserved c =
    let ts = trees c.args.cells.now.cells in
    let v = c.in-Some.variable in
    let w = c.next.new.self in
    record {
      search = λ x h.
          let m = subst (Meets x ts c.args.place w.marks w.ranges) c.in-Some.is (c.in_ok-variable.ensures.next x c.args.place (c.loop-variable.invariant.search x h)) in
          m.1 (λ e. false≢true (sym c.if-contains.false ∙ c.contains.ensures ∙ ap (λ y. list_any (nat_eq y) c.args.marks.now) e ∙ h));
      inside = c.in_ok-variable.ensures.ranges;
    }

pub returns : goal.returns
returns c =
    let ts = trees c.args.cells.now.cells in
    let w = c.next.new.self in
    (λ e x h. Meets-none x ts c.args.place w.marks w.ranges c.in_ok-variable.field-0 c.in_default.not-Some (c.in_ok-variable.ensures.next x c.args.place (c.loop-variable.invariant.search x h)), λ n. refl)
