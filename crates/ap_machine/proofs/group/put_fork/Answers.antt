use Rattle.std.proofs.Common.{◌≡◌, ◌+◌, List, ◌++◌, map, drop, ap, ◌∙◌}
use Rattle.ap_environments.specs.Kept.{Kept}
use Rattle.ap_steps.specs.Standing.{Return}
use Rattle.ap_machine.specs.Forking.{frame_of, frames_on}
use Rattle.ap_machine.proofs.Parted.{frames-gone}
use Rattle.ap_machine.proofs.group.put_fork.Goals as goal

pub returns-in-Err-keep_fork-clause-err : goal.returns-in-Err-keep_fork-clause-err
returns-in-Err-keep_fork-clause-err c =
    let old : Kept = c.args.environments.now in
    let ps = c.args.goals.now in
    let w : Return = record { place = c.args.place; y = c.args.y.now } in
    let put : ◌≡◌ {A = Kept} c.push_frames.new.environments (record old { returns = frames_on ps w old.returns }) =
    c.in-Ok.ensures.ok ∙ ap (λ (k : Kept). record k { returns = map frame_of ps ++ k.returns }) c.in_ok-push.ensures.ok
    in
    c.leave_some.ensures
    ∙ ap (λ (k : Kept). record k { returns = drop (c.len.result + 1) k.returns }) (c.in-Err-keep_fork.ensures.err ∙ put)
    ∙ ap (λ (ws : List Return). record old { returns = ws }) (frames-gone ps w old.returns (c.len.result + 1) (ap (λ n. n + 1) c.len.ensures))
