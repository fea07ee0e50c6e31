use Rattle.std.proofs.Common.{◌≡◌, length}
use Rattle.ap_post.specs.Posts.{jobs_in, asked_in, SamePosted}
use Rattle.ap_post.proofs.post.Post.take.Given as goal

abbrev pub invariant-loop-k : goal.invariant-loop-k
invariant-loop-k l = record {
  posted : SamePosted l.initial.self l.self;
  next : l.self.next ≡ l.initial.self.next;
  asked : asked_in l.self ≡ asked_in l.initial.self;
  jobs : jobs_in l.self ≡ jobs_in l.initial.self;
  thieves : length l.self.thieves.items ≡ length l.initial.self.thieves.items;
}
