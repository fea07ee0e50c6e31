use Rattle.std.proofs.Common.{length, ap, ◌∙◌}
use Rattle.ap_post.proofs.Changes.{stays_notes}
use Rattle.ap_post.proofs.Dropped.{took}
use Rattle.ap_post.proofs.post.Post.take_from.Goals as goal

pub invariant_of-self-2-clause-fresh : goal.invariant_of-self-2-clause-fresh
invariant_of-self-2-clause-fresh c = let d = c.args.self.now.desk in let e = c.take.new.self in λ f l m. ap length (stays_notes d.1 e.1 d.2 d.4 e.4 c.take.ensures.jobs c.take.ensures.same.2 f) ∙ c.args.self.now.fresh f l m

pub returns-clause-posted : goal.returns-clause-posted
returns-clause-posted c = let d = c.args.self.now.desk in let e = c.take.new.self in λ f. stays_notes d.1 e.1 d.2 d.4 e.4 c.take.ensures.jobs c.take.ensures.same.2 f

pub returns-clause-told : goal.returns-clause-told
returns-clause-told c = let d = c.args.self.now.desk in let e = c.take.new.self in took d.1 e.1 d.2 e.2 d.4 c.in-Some.ticket d.0.slots _ c.take.ensures.jobs c.in_ok-take.ensures.told
