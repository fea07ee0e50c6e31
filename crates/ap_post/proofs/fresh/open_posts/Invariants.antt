use Rattle.std.proofs.Common.{◌≡◌, ◌++◌, length, All}
use Rattle.ap_post.specs.Posts.{IsNew}
use Rattle.ap_post.proofs.Opened.{IsSat}
use Rattle.ap_post.proofs.fresh.open_posts.Given as goal

abbrev pub invariant-loop-seat : goal.invariant-loop-seat
invariant-loop-seat l = record {
  posts : All IsNew l.posts.items;
  count : length l.posts.items ≡ length l.yielded;
  all : l.yielded ++ l.seat-iterator.rest.items ≡ l.fn.seats.items;
  left : All (IsSat l.board.table.shared.table_id) l.seat-iterator.rest.items;
}
