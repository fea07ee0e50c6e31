use Rattle.std.proofs.Common.{arith}
use Rattle.ap_post.proofs.Left.{none_from}
use Rattle.ap_post.proofs.post.Post.leave.Goals as goal

pub returns-clause-none : goal.returns-clause-none
returns-clause-none c = let d = c.loop-back.self.desk in λ f least less.
    none_from d.1 c.args.from c.count_out-count.result f d.4 (λ i n behind at. c.loop-back.invariant.older i n (omega arith) at) least less
