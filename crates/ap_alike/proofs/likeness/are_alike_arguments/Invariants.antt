use Rattle.std.proofs.Common.{drop}
use Rattle.ap_term.specs.TermView.{trees_of}
use Rattle.ap_alike.specs.Alike.{AreAlikeArguments}
use Rattle.ap_alike.proofs.likeness.are_alike_arguments.Given as goal

abbrev pub invariant-loop-i : goal.invariant-loop-i
invariant-loop-i l = AreAlikeArguments (trees_of (drop l.i l.left)) (trees_of (drop l.i l.right)) → AreAlikeArguments (trees_of l.left) (trees_of l.right)
