use Rattle.std.proofs.Common.{◌++◌, length, ap, subst, sym, ◌∙◌, arith}
use Rattle.ap_term.specs.Vars.{add_vars}
use Rattle.ap_cells.specs.Trees.{tree_at, trees}
use Rattle.ap_cells.proofs.Walks.{Each-pop}
use Rattle.ap_lines.specs.Work.{left, vars_left, weight, IsInside, AreInside}
use Rattle.ap_lines.proofs.Left.{left-push, vars_left-push, weight-push, vars_left-later}
use Rattle.ap_lines.proofs.text.write_place.Goals as goal

pub write_one-requires : goal.write_one-requires
write_one-requires c =
    let n = length c.args.cells.now.cells in
    (Each-pop (IsInside n) c.pop.new.self.items c.in-Some.work (subst (AreInside n) c.in-Some.ensures.items c.loop-work.invariant.inside)).1

pub loop-work-smaller : goal.loop-work-smaller
loop-work-smaller c =
    let ts = trees c.args.cells.now.cells in
    omega (arith, ap (weight ts) c.in-Some.ensures.items, weight-push ts c.pop.new.self.items c.in-Some.work, c.in_ok-write_one.ensures.shorter)

pub loop-work-preserved : goal.loop-work-preserved
loop-work-preserved c =
    let ts = trees c.args.cells.now.cells in
    let n = length c.args.cells.now.cells in
    let names = c.args.atoms.now in
    let rest = c.pop.new.self.items in
    let all = add_vars (tree_at ts c.args.place) c.args.numbers.now in
    let inside = Each-pop (IsInside n) rest c.in-Some.work (subst (AreInside n) c.in-Some.ensures.items c.loop-work.invariant.inside) in
    let variables =
    c.in_ok-write_one.ensures.variables
    ∙ sym (ap (λ xs. vars_left ts xs c.loop-work.numbers) c.in-Some.ensures.items ∙ vars_left-push ts rest c.in-Some.work c.loop-work.numbers)
    ∙ c.loop-work.invariant.variables in
    record {
      text = λ found p.
          c.in_ok-write_one.ensures.text found (vars_left-later ts c.write_one.new.stack.items c.write_one.new.numbers all found variables p)
          ∙ ap (λ l. c.loop-work.out.items ++ l) (sym (ap (left names found ts) c.in-Some.ensures.items ∙ left-push ts names found rest c.in-Some.work))
          ∙ c.loop-work.invariant.text found p;
      variables = variables;
      inside = c.in_ok-write_one.ensures.inside inside.0;
    }
