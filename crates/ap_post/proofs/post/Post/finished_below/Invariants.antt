use Rattle.std.proofs.Common.{◌≡◌, length}
use Rattle.ap_post.specs.Posts.{SamePosted, SameJobs}
use Rattle.ap_post.proofs.post.Post.finished_below.Given as goal

abbrev pub invariant-loop-k : goal.invariant-loop-k
invariant-loop-k l = SamePosted l.fn.self l.self × SameJobs l.fn.self l.self × (l.self.next ≡ l.fn.self.next) × (l.k-end ≡ length l.self.desk.4)
