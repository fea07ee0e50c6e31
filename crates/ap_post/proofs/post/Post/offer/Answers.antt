use Rattle.std.proofs.Common.{length, ap, ◌∙◌, arith}
use Rattle.ap_post.proofs.Changes.{offered, offered_other, jobs_stay}
use Rattle.ap_post.proofs.post.Post.offer.Goals as goal

pub invariant_of-self-2-clause-fresh : goal.invariant_of-self-2-clause-fresh
invariant_of-self-2-clause-fresh c = let d = c.args.self.now.desk in let e = c.offer.new.self in let t = c.in-Ok.ensures.told in let f = c.args.frame in let i = c.args.job.place in let own = c.requires in
    λ g l m. ap length (offered_other d.1 e.1 d.2 d.4 e.4 t.0 f i g c.offer.ensures.jobs t.1 (λ is. omega (arith, is, l, own))) ∙ c.args.self.now.fresh g l m

pub returns-clause-told : goal.returns-clause-told
returns-clause-told c = let d = c.args.self.now.desk in let e = c.offer.new.self in let t = c.in-Ok.ensures.told in let f = c.args.frame in let i = c.args.job.place in let stay = c.offer.ensures.jobs in record {
  now = offered d.1 e.1 d.2 d.4 e.4 t.0 f i c.args.job stay t.1 t.4;
  others = λ g ne. offered_other d.1 e.1 d.2 d.4 e.4 t.0 f i g stay t.1 ne;
}

pub returns-clause-jobs : goal.returns-clause-jobs
returns-clause-jobs c = let d = c.args.self.now.desk in let e = c.offer.new.self in let s = c.offer.ensures.same in record { jobs = jobs_stay d.1 e.1 d.2 e.2 d.4 c.offer.ensures.jobs s.1; asked = s.2 }
