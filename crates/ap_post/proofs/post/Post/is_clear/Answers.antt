use Rattle.std.proofs.Common.{arith}
use Rattle.ap_desk.proofs.Rows.{at_below}
use Rattle.ap_post.proofs.Noted.{posted_nothing}
use Rattle.ap_post.proofs.post.Post.is_clear.Goals as goal

pub returns : goal.returns
returns c = let d = c.args.self.now.desk in λ _. posted_nothing d.1 d.4 c.args.frame (λ i n e. let b = at_below d.4 i n e in c.loop-k.invariant i (omega arith) n e)
