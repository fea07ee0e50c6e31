use Rattle.std.proofs.Common.{map, ap, ◌∙◌}
use Rattle.ap_core.specs.declared.tasks.Round.TheVariants.{Closed}
use Rattle.ap_core.specs.declared.tasks.Alternative.TheVariants.{Frame}
use Rattle.ap_core.specs.Tasks.{exhausted, alternative}
use Rattle.ap_core.specs.TaskView.{alternative_view, stacked}
use Rattle.ap_core.proofs.Alternatives.{stacked-push}
use Rattle.ap_core.proofs.Levels.{view_frame}
use Rattle.ap_core.proofs.own.push_closed.Goals as goal

pub returns : goal.returns
returns c =
    ap (λ xs. stacked (map alternative_view xs) exhausted) c.in-Ok.ensures.items ∙ stacked-push c.args.behind.now.items (Frame c.args.forked Closed c.args.slots) exhausted
    ∙ ap (λ a. alternative a (stacked (map alternative_view c.args.behind.now.items) exhausted)) (view_frame c.args.forked Closed c.args.slots)
