use Rattle.std.proofs.Common.{◌≤◌, ◌∷◌, [], ◌∙◌, ap, sym, map, take, drop, length, arith}
use Rattle.std.proofs.lemmas.List.{take_all, take-append-le, drop-append-le}
use Rattle.std.proofs.Math.ListN.{drop_of_length-le}
use Rattle.ap_term.specs.TermView.{tree_of}
use Rattle.ap_reader.specs.Build.{tree_cells}
use Rattle.ap_reader.proofs.Trees.{tree_cells-pop}
use Rattle.ap_reader.proofs.terms.list_from.Goals as goal

pub loop-alloc-preserved : goal.loop-alloc-preserved
loop-alloc-preserved c =
    let from = c.args.from in
    let all = c.loop-alloc.terms.items in
    let popped = c.pop-item.new.terms.items in
    let item = c.pop-item.result in
    let some : from ≤ length popped = omega (arith, c.pop-item.ensures.len, c.loop-alloc-test.true) in
    record {
      some = omega (arith, c.pop-item.ensures.len, c.loop-alloc-test.true);
      front = sym (take-append-le from popped (item ∷ []) some) ∙ sym (ap (take from) c.pop-item.ensures.items) ∙ c.loop-alloc.invariant.front;
      cells =
          ap (tree_cells c.args.dot (map tree_of (drop from popped))) c.in_ok-list.ensures
          ∙ tree_cells-pop c.args.dot (drop from all) (drop from popped) item c.loop-alloc.list (ap (drop from) c.pop-item.ensures.items ∙ drop-append-le from popped (item ∷ []) some)
          ∙ c.loop-alloc.invariant.cells;
    }

pub returns-clause-terms : goal.returns-clause-terms
returns-clause-terms c =
    let items = c.loop-alloc.terms.items in
    let all : length items ≤ c.args.from = omega (arith, c.loop-alloc-test.false, c.len.ensures) in
    sym (take_all c.args.from items all) ∙ c.loop-alloc.invariant.front

pub returns-clause-list : goal.returns-clause-list
returns-clause-list c =
    let items = c.loop-alloc.terms.items in
    let all : length items ≤ c.args.from = omega (arith, c.loop-alloc-test.false, c.len.ensures) in
    sym (ap (λ l. tree_cells c.args.dot (map tree_of l) (tree_of c.loop-alloc.list)) (drop_of_length-le items all)) ∙ c.loop-alloc.invariant.cells
