use Rattle.std.proofs.Common.{subst}
use Rattle.ap_cells.specs.Trees.{trees}
use Rattle.ap_cells.specs.Walks.{Meets}
use Rattle.ap_cells.proofs.Searches.{Gathers-start, Gathers-next, Gathers-ends, Meets-none}
use Rattle.ap_cells.proofs.variables.mark_variables.Goals as goal

pub loop-variable-init : goal.loop-variable-init
loop-variable-init c = record {
  gathers = λ x. Gathers-start x (trees c.args.cells.now.cells) c.args.place c.args.marks.now c.start.new.self (c.in_ok-start.ensures.begun x);
  inside = c.in_ok-start.ensures.ranges;
}

pub loop-variable-preserved : goal.loop-variable-preserved
loop-variable-preserved c =
    let ts = trees c.args.cells.now.cells in
    let root = c.args.place in
    let w = c.next.new.self in
    record {
      gathers = λ x. Gathers-next x ts root c.args.marks.now c.loop-variable.marks c.insert.new.self c.loop-variable.walk w c.in-Some.variable
          (λ s. subst (Meets x ts root w.marks w.ranges) c.in-Some.is (c.in_ok-variable.ensures.next x root s)) (c.in_ok-insert.ensures.marked x) (c.loop-variable.invariant.gathers x);
      inside = c.in_ok-variable.ensures.ranges;
    }

pub returns : goal.returns
returns c x =
    let ts = trees c.args.cells.now.cells in
    let root = c.args.place in
    let w = c.next.new.self in
    Gathers-ends x ts root c.args.marks.now c.loop-variable.marks c.loop-variable.walk
    (λ s. Meets-none x ts root w.marks w.ranges c.in_ok-variable.field-0 c.in_default.not-Some (c.in_ok-variable.ensures.next x root s)) (c.loop-variable.invariant.gathers x)
