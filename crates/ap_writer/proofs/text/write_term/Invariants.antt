use Rattle.std.proofs.Common.{◌≡◌, ◌++◌, ℕ, List}
use Rattle.ap_term.specs.TermView.{tree_of}
use Rattle.ap_term.specs.Vars.{add_vars}
use Rattle.ap_term.specs.Blocks.{IsPrefix}
use Rattle.ap_writer.specs.Work.{left, text_by, vars_left, weight}
use Rattle.ap_writer.proofs.text.write_term.Given as goal

abbrev pub invariant-loop-work : goal.invariant-loop-work
invariant-loop-work l = record {
  text : (found : List ℕ) → IsPrefix (add_vars (tree_of l.t) l.initial.numbers) found
      → l.out.items ++ left l.atoms found l.stack.items ≡ l.initial.out.items ++ text_by l.atoms found (tree_of l.t);
  variables : vars_left l.stack.items l.numbers ≡ add_vars (tree_of l.t) l.initial.numbers;
}

abbrev pub decreases-loop-work : goal.decreases-loop-work
decreases-loop-work l = weight l.stack.items
