use Rattle.std.proofs.Common.{◌≡◌, ◌+◌, All, length}
use Rattle.ap_post.specs.Posts.{IsNew}
use Rattle.ap_worker.specs.Workers.{IsIdle}
use Rattle.ap_worker.proofs.solving.workers_of.Given as goal

abbrev pub invariant-loop-post : goal.invariant-loop-post
invariant-loop-post l = record {
  workers : All IsIdle l.workers.items;
  count : length l.workers.items + length l.post-iterator.rest.items ≡ length l.fn.seats.items;
  left : All IsNew l.post-iterator.rest.items;
}
