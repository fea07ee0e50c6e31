use Rattle.std.proofs.Common.{map, ◌∙◌, ap}
use Rattle.ap_core.specs.Tasks.{exhausted}
use Rattle.ap_core.specs.TaskView.{alternative_view, stacked}
use Rattle.ap_core.proofs.Alternatives.{appended}
use Rattle.ap_core.proofs.own.expand.Goals as goal

pub returns : goal.returns
returns c =
    c.next_choice.ensures ∙ ap (λ xs. stacked (map alternative_view xs) exhausted) c.in_ok-append.ensures.items
    ∙ appended c.args.behind.now.items c.in_ok-stack.stack.items ∙ c.in_ok-stack.ensures (stacked (map alternative_view c.args.behind.now.items) exhausted)
