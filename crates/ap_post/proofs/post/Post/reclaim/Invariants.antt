use Rattle.std.proofs.Common.{◌≡◌}
use Rattle.ap_post.specs.Posts.{SamePosted, SameJobs}
use Rattle.ap_post.proofs.post.Post.reclaim.Given as goal

abbrev pub invariant-loop-goal : goal.invariant-loop-goal
invariant-loop-goal l = SamePosted l.fn.self l.self × SameJobs l.fn.self l.self × (l.self.next ≡ l.fn.self.next)
