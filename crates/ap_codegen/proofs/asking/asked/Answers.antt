use Rattle.std.proofs.Common.{◌++◌, map, ap, ◌∙◌}
use Rattle.ap_term.specs.declared.fixed.TheConstants.{QUERY}
use Rattle.ap_term.specs.GoalView.{part_of}
use Rattle.ap_term.specs.Search.{variables}
use Rattle.ap_instr.specs.Runs.{applied}
use Rattle.ap_codegen.proofs.AskedClause.{asked_fits}
use Rattle.ap_codegen.proofs.asking.asked.Goals as goal

pub new-requires : goal.new-requires
new-requires c =
    asked_fits c.question-question.result.now _ c.body.ensures.kept (c.in_ok-head.ensures ∙ ap (λ n. applied QUERY (variables n)) c.vars.ensures.vars)
    (c.in_ok-add_copies.ensures ∙ ap (λ b. b ++ map part_of c.as_slice.result.now) c.new-body.ensures ∙ c.as_slice.ensures ∙ c.body.ensures.body) c.vars-2.ensures.vars
