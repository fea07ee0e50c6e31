use Rattle.std.proofs.Common.{◌≡◌, ◌≤◌, ◌+◌, length}
use Rattle.ap_post.specs.Posts.{SameBelow, SameJobs}
use Rattle.ap_post.proofs.Left.{AreOlder}
use Rattle.ap_post.proofs.post.Post.leave.Given as goal

abbrev pub invariant-loop-back : goal.invariant-loop-back
invariant-loop-back l = record {
  room : l.count ≤ l.back + length l.self.desk.4;
  posted : SameBelow l.from l.initial.self l.self;
  jobs : SameJobs l.initial.self l.self;
  next : l.self.next ≡ l.initial.self.next;
  older : AreOlder l.from l.count l.back l.self.desk.4;
}
