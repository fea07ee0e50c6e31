use Rattle.std.proofs.Common.{length, true, refl, ap, ◌∙◌, length-set}
use Rattle.ap_post.proofs.Left.{others_set, same_frame}
use Rattle.ap_post.proofs.Changes.{asks, jobs_stay}
use Rattle.ap_post.proofs.post.Post.ask.Goals as goal

pub invariant_of-self-clause-fresh : goal.invariant_of-self-clause-fresh
invariant_of-self-clause-fresh c = let d = c.args.self.now.desk in let e = c.stop-at_work.new.self in let at = c.note.ensures.note in let told = c.stop-at_work.ensures.told c.note.result at in
    λ f l m. ap length (asks d.1 e.1 d.2 d.4 e.4 c.args.k c.note.result c.stop-at_work.ensures.jobs at told.0 f) ∙ c.args.self.now.fresh f l m

pub returns-clause-posted : goal.returns-clause-posted
returns-clause-posted c = let d = c.args.self.now.desk in let e = c.stop-at_work.new.self in let at = c.note.ensures.note in let told = c.stop-at_work.ensures.told c.note.result at in
    λ f. asks d.1 e.1 d.2 d.4 e.4 c.args.k c.note.result c.stop-at_work.ensures.jobs at told.0 f

pub returns-clause-jobs : goal.returns-clause-jobs
returns-clause-jobs c = let d = c.args.self.now.desk in let e = c.stop-at_work.new.self in let same = c.stop-at_work.ensures.same in
    record { jobs = jobs_stay d.1 e.1 d.2 e.2 e.4 c.stop-at_work.ensures.jobs same.1; asked = same.2 }

pub returns-clause-count : goal.returns-clause-count
returns-clause-count c = let d = c.args.self.now.desk in let told = c.stop-at_work.ensures.told c.note.result c.note.ensures.note in ap length told.0 ∙ length-set d.4 c.args.k _

pub returns-clause-others : goal.returns-clause-others
returns-clause-others c = let d = c.args.self.now.desk in let e = c.stop-at_work.new.self in let told = c.stop-at_work.ensures.told c.note.result c.note.ensures.note in others_set d.4 e.4 c.args.k (record c.note.result { asked = true }) told.0

pub returns-clause-frame : goal.returns-clause-frame
returns-clause-frame c = let d = c.args.self.now.desk in let e = c.stop-at_work.new.self in
    λ n m at there. let told = c.stop-at_work.ensures.told n at in same_frame d.4 e.4 c.args.k (record n { asked = true }) n m told.0 refl at there
