use Rattle.std.proofs.Common.{arith}
use Rattle.ap_codegen.proofs.Growing.{grows_on}
use Rattle.ap_codegen.proofs.Heads.{heads_turn, heads_end}
use Rattle.ap_codegen.proofs.programs.add_heads.Goals as goal

pub loop-clause-preserved : goal.loop-clause-preserved
loop-clause-preserved c = (
  grows_on c.args.tables.now c.loop-clause.tables c.add_clause_head.new.tables c.loop-clause.invariant.0 c.in_ok-add_clause_head.ensures.grows,
  heads_turn c.loop-clause.tables.predicates c.add_clause_head.new.tables.predicates c.args.clauses.now c.loop-clause.clause-index c.clause-item.result _ (omega arith) c.clause-item.is c.in_ok-add_clause_head.ensures.keys c.loop-clause.invariant.1,
)

pub returns-clause-keys : goal.returns-clause-keys
returns-clause-keys c = heads_end c.loop-clause.tables.predicates c.args.clauses.now c.loop-clause.clause-index _ (omega arith) c.loop-clause.invariant.1
