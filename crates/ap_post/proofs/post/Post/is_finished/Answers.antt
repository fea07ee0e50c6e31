use Rattle.std.proofs.Common.{length, ap, ◌∙◌}
use Rattle.ap_post.proofs.Changes.{stays_to, jobs_stay}
use Rattle.ap_post.proofs.post.Post.is_finished.Goals as goal

pub invariant_of-self-clause-fresh : goal.invariant_of-self-clause-fresh
invariant_of-self-clause-fresh c = let d = c.args.self.now.desk in let e = c.done.new.self in λ f l m. ap length (stays_to d.1 e.1 d.2 d.4 e.4 c.done.ensures.jobs c.done.ensures.same.3 f) ∙ c.args.self.now.fresh f l m

pub returns-clause-posted : goal.returns-clause-posted
returns-clause-posted c = let d = c.args.self.now.desk in let e = c.done.new.self in λ f. stays_to d.1 e.1 d.2 d.4 e.4 c.done.ensures.jobs c.done.ensures.same.3 f

pub returns-clause-jobs : goal.returns-clause-jobs
returns-clause-jobs c = let d = c.args.self.now.desk in let e = c.done.new.self in let same = c.done.ensures.same in record { jobs = jobs_stay d.1 e.1 d.2 e.2 e.4 c.done.ensures.jobs same.1; asked = same.2 }
