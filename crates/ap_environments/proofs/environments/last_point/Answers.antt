use Rattle.std.proofs.Common.{◌∙◌}
use Rattle.ap_environments.proofs.Chains.{is-last}
use Rattle.ap_environments.proofs.environments.last_point.Goals as goal

pub returns : goal.returns
returns c =
    let l = is-last c.args.points.now c.copied.result (c.copied.ensures ∙ c.last.ensures.value) in
    record { none = l.0; some = l.1 }
