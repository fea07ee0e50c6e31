use Rattle.ap_patterns.specs.Given.{patterns}
use Rattle.ap_udg.proofs.Annotations.{annotated-turn}
use Rattle.ap_udg.proofs.annotators.annotate_by.Goals as goal

pub loop-clause-preserved : goal.loop-clause-preserved
loop-clause-preserved c =
    annotated-turn c.args.rule (patterns c.args.table.now) c.as_slice-clause-items.result.now c.loop-clause.annotated.items c.push.new.self.items c.loop-clause.clause-index c.clause-item.result
    c.in_ok-annotated_clause.field-0 c.loop-clause-test.true c.clause-item.is c.in_ok-push.ensures.items c.loop-clause.invariant c.in_ok-annotated_clause.ensures
