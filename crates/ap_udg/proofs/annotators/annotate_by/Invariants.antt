use Rattle.std.proofs.Common.{take}
use Rattle.ap_patterns.specs.Given.{patterns}
use Rattle.ap_udg.specs.Annotated.{IsAnnotated}
use Rattle.ap_udg.proofs.annotators.annotate_by.Given as goal

abbrev pub invariant-loop-clause : goal.invariant-loop-clause
invariant-loop-clause l = IsAnnotated l.rule (patterns l.table) (take l.clause-index l.clause-items) l.annotated.items
