use Rattle.std.proofs.Common.{◌≡◌, ◌++◌, option_map, drop}
use Rattle.ap_term.specs.TermView.{trees_of}
use Rattle.ap_top.specs.Patterns.{marks_of}
use Rattle.ap_top.proofs.patterns.marks_of.Given as goal

abbrev pub invariant-loop-arg : goal.invariant-loop-arg
invariant-loop-arg l = option_map (λ ms. l.marks.items ++ ms) (marks_of (trees_of (drop l.arg-index l.args))) ≡ marks_of (trees_of l.args)
