use Rattle.std.proofs.Common.{◌+◌, List, ap, sym, ◌∙◌, subst, arith}
use Rattle.std.proofs.lemmas.List.{take_all}
use Rattle.ap_environments.specs.declared.environments.Frame.{Frame}
use Rattle.ap_environments.specs.Frames.{AreFrames, chains}
use Rattle.ap_environments.proofs.Chains.{length-chains, cut-chains, cut-frames}
use Rattle.ap_environments.proofs.frames.cut.Goals as goal

pub returns-then-n-len-clause-chains : goal.returns-then-n-len-clause-chains
returns-then-n-len-clause-chains c = λ ss. ap (chains ss) c.truncate.ensures.items ∙ cut-chains ss c.args.frames.now.items c.args.n

pub returns-then-n-len-clause-are_frames : goal.returns-then-n-len-clause-are_frames
returns-then-n-len-clause-are_frames c = λ ss h.
    subst (AreFrames ss) (sym c.truncate.ensures.items) (cut-frames ss c.args.frames.now.items c.args.n (record { place = 0; up = 0; first = 0; count = 0 }) h (omega arith))

pub returns-else-n-len-clause-chains : goal.returns-else-n-len-clause-chains
returns-else-n-len-clause-chains c = λ ss.
    let fs : List Frame = c.args.frames.now.items in
    let l = length-chains ss fs in
    sym (take_all (c.args.n + 1) (chains ss fs) (omega arith))
