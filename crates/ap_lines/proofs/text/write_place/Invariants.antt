use Rattle.std.proofs.Common.{◌≡◌, ◌++◌, ℕ, List, length}
use Rattle.ap_term.specs.Vars.{add_vars}
use Rattle.ap_term.specs.Blocks.{IsPrefix}
use Rattle.ap_cells.specs.Trees.{tree_at, trees}
use Rattle.ap_writer.specs.Work.{text_by}
use Rattle.ap_lines.specs.Work.{left, vars_left, weight, AreInside}
use Rattle.ap_lines.proofs.text.write_place.Given as goal

abbrev pub invariant-loop-work : goal.invariant-loop-work
invariant-loop-work l = record {
  text : (found : List ℕ) → IsPrefix (add_vars (tree_at (trees l.cells.cells) l.place) l.initial.numbers) found
      → l.out.items ++ left l.atoms found (trees l.cells.cells) l.stack.items ≡ l.initial.out.items ++ text_by l.atoms found (tree_at (trees l.cells.cells) l.place);
  variables : vars_left (trees l.cells.cells) l.stack.items l.numbers ≡ add_vars (tree_at (trees l.cells.cells) l.place) l.initial.numbers;
  inside : AreInside (length l.cells.cells) l.stack.items;
}

abbrev pub decreases-loop-work : goal.decreases-loop-work
decreases-loop-work l = weight (trees l.cells.cells) l.stack.items
