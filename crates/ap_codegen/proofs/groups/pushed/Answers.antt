use Rattle.std.proofs.Common.{◌++◌, ap, ◌∙◌}
use Rattle.ap_term.specs.Tree.{count_trees}
use Rattle.ap_term.specs.TermView.{tree_of}
use Rattle.ap_instr.specs.Step.{push}
use Rattle.ap_instr.specs.Runs.{arguments}
use Rattle.ap_codegen.specs.declared.steps.Step.TheVariants.{PushGoal}
use Rattle.ap_codegen.specs.Emitted.{steps_of}
use Rattle.ap_codegen.specs.Permanent.{name, goal_code}
use Rattle.ap_codegen.proofs.PartLeads.{goal_simple, pushed_leads, pushed_numbers}
use Rattle.ap_codegen.proofs.groups.pushed.Goals as goal

pub returns-clause-leads : goal.returns-clause-leads
returns-clause-leads c =
    pushed_leads c.goal.new.code.items c.push.new.self.items (PushGoal c.args.i c.in_ok-p.p c.in_ok-p.n) (goal_code (tree_of c.args.t.now) c.args.seen.now.items)
    (push (name (tree_of c.args.t.now)) (count_trees (arguments (tree_of c.args.t.now))))
    (c.in_ok-p.ensures.code ∙ ap (λ es. steps_of es ++ goal_code (tree_of c.args.t.now) c.args.seen.now.items) c.new-code.ensures.items) (goal_simple (tree_of c.args.t.now) c.args.seen.now.items) c.in_ok-push.ensures.items
    (ap (λ p. (push p c.in_ok-p.n, 0)) c.in_ok-p.ensures.called.0 ∙ ap (λ n. (push (name (tree_of c.args.t.now)) n, 0)) c.in_ok-p.ensures.called.1)

pub returns-clause-numbered : goal.returns-clause-numbered
returns-clause-numbered c = λ k e.
    pushed_numbers c.goal.new.code.items c.push.new.self.items (goal_code (tree_of c.args.t.now) c.args.seen.now.items) k c.args.i c.in_ok-p.p c.in_ok-p.n
    (c.in_ok-p.ensures.code ∙ ap (λ es. steps_of es ++ goal_code (tree_of c.args.t.now) c.args.seen.now.items) c.new-code.ensures.items) (goal_simple (tree_of c.args.t.now) c.args.seen.now.items) c.in_ok-push.ensures.items e
