use Rattle.std.proofs.Common.{ap, ap₂, ◌∙◌}
use Rattle.ap_environments.specs.Frames.{kept_of, segments_in}
use Rattle.ap_environments.proofs.Chains.{chain-none}
use Rattle.ap_environments.proofs.environments.Environments.leave.Goals as goal

pub returns : goal.returns
returns c =
    let a = c.self.inside in
    c.trim.ensures ∙ ap₂ kept_of (chain-none a.slots.items a.frames.items) (ap segments_in c.self.view_is)
