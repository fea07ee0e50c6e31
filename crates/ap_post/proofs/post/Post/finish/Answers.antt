use Rattle.std.proofs.Common.{map, length, ap, ◌∙◌}
use Rattle.ap_desk.specs.Offered.{goal_of}
use Rattle.ap_post.proofs.Changes.{stays_notes, jobs_less, last_job}
use Rattle.ap_post.proofs.post.Post.finish.Goals as goal

pub finish-requires-clause-fits : goal.finish-requires-clause-fits
finish-requires-clause-fits c = let d = c.args.self.now.desk in λ ts t e x b r. c.requires.fits (map (goal_of d.1) ts) x (last_job d.1 d.2 ts t x b e r)

pub invariant_of-self-clause-fresh : goal.invariant_of-self-clause-fresh
invariant_of-self-clause-fresh c = let d = c.args.self.now.desk in let e = c.finish.new.self in λ f l m. ap length (stays_notes d.1 e.1 e.2 d.4 e.4 c.finish.ensures.jobs c.finish.ensures.same.1 f) ∙ c.args.self.now.fresh f l m

pub returns-clause-posted : goal.returns-clause-posted
returns-clause-posted c = let d = c.args.self.now.desk in let e = c.finish.new.self in λ f. stays_notes d.1 e.1 e.2 d.4 e.4 c.finish.ensures.jobs c.finish.ensures.same.1 f

pub returns-clause-jobs : goal.returns-clause-jobs
returns-clause-jobs c = let d = c.args.self.now.desk in let e = c.finish.new.self in let t = c.finish.ensures.told in (goal_of d.1 t.1, jobs_less d.1 e.1 d.2 e.2 t.0 t.1 d.4 c.finish.ensures.jobs t.2 t.3)
