use Rattle.std.proofs.Common.{ap, ◌∙◌, arith}
use Rattle.ap_term.specs.declared.fixed.TheConstants.{QUERY}
use Rattle.ap_term.specs.Tree.{node}
use Rattle.ap_codegen.proofs.AskedClause.{applied_variables}
use Rattle.ap_codegen.proofs.asking.asked_head.Goals as goal

pub returns : goal.returns
returns c = ap (λ a. node a c.in_ok-args.args) c.at-2.ensures ∙ ap (node QUERY) c.in_ok-args.ensures ∙ applied_variables QUERY c.args.vars (omega arith)
