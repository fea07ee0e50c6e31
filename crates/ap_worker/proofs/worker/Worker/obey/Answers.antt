use Rattle.std.proofs.Common.{◌≤◌, Some, subst}
use Rattle.ap_desk.specs.Held.{IsCauseAt}
use Rattle.ap_post.specs.Jobs.{cause_of}
use Rattle.ap_worker.proofs.Staffed.{off-fits, off-cause}
use Rattle.ap_worker.proofs.worker.Worker.obey.Goals as goal

pub finish-requires-clause-fits : goal.finish-requires-clause-fits
finish-requires-clause-fits c = off-fits c.args.self.now c.args.newest.stack c.left-outcome.result c.requires.off (c.left-outcome.ensures.outcome c.args.self.now.post)

pub finish-requires-clause-cause : goal.finish-requires-clause-cause
finish-requires-clause-cause c =
    let cause = cause_of c.left-outcome.result.ending in
    off-cause c.args.self.now c.args.newest.stack cause c.args.asked c.requires.asked c.requires.within
    (subst (λ n. c.args.asked ≤ n → IsCauseAt cause (Some c.args.asked) n) c.args.self.now.taken.ok.0 c.left-outcome.ensures.cause) c.requires.off
