use Rattle.std.proofs.Common.{arith}
use Rattle.std.proofs.lemmas.List.{nil_from_length}
use Rattle.ap_post.proofs.post.Post.number.Goals as goal

pub returns-in-Some-clause-none : goal.returns-in-Some-clause-none
returns-in-Some-clause-none c = nil_from_length _ (c.args.self.now.fresh c.args.self.now.next (omega arith) (omega arith))
