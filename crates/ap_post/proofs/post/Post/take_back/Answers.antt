use Rattle.std.proofs.Common.{rules, length, refl, sym, ap, ◌∙◌}
use Rattle.ap_desk.specs.declared.note.Note.{Note}
use Rattle.ap_desk.proofs.Rows.{same_at}
use Rattle.ap_post.specs.declared.job.Job.{Job}
use Rattle.ap_post.proofs.Changes.{goes, comes_back, comes_back_other, jobs_stay, none_after, either_way, by_none}
use Rattle.ap_post.specs.Posted.{posted_at}
use Rattle.ap_post.proofs.post.Post.take_back.Goals as goal

pub invariant_of-self-clause-fresh : goal.invariant_of-self-clause-fresh
invariant_of-self-clause-fresh c = let d = c.args.self.now.desk in let e = c.reclaim.new.self in let n : Note = c.note-place.result in let at = c.note-place.ensures.note in let stay = c.reclaim.ensures.jobs in
    λ f l m. let none = c.args.self.now.fresh f l m in either_way c.reclaim.result (c.reclaim.ensures.told n at)
    (λ t. ap length (goes d.1 e.1 d.2 d.4 e.4 c.args.k n stay at t.0 f) ∙ none)
    (λ x t. none_after d.1 e.1 d.2 d.4 e.4 c.args.k n x stay at t.0 t.1 f none)

pub returns-in_err-_job-clause-told : goal.returns-in_err-_job-clause-told
returns-in_err-_job-clause-told c = let d = c.args.self.now.desk in let e = c.reclaim.new.self in λ n at. by_none c.from_residual.result _ _ (search rules) (λ f. goes d.1 e.1 d.2 d.4 e.4 c.args.k n c.reclaim.ensures.jobs at (c.in_err-_job.ensures.told n at).0 f)

pub returns-in_err-_job-clause-jobs : goal.returns-in_err-_job-clause-jobs
returns-in_err-_job-clause-jobs c = let d = c.args.self.now.desk in let e = c.reclaim.new.self in let s = c.reclaim.ensures.same in record { jobs = jobs_stay d.1 e.1 d.2 e.2 e.4 c.reclaim.ensures.jobs s.1; asked = s.2 }

pub returns-clause-told : goal.returns-clause-told
returns-clause-told c = let d = c.args.self.now.desk in let e = c.reclaim.new.self in let k = c.args.k in let x : Job = c.in_ok-_job._job in let stay = c.reclaim.ensures.jobs in
    λ n at. let t = c.in_ok-_job.ensures.told n at in let l = comes_back d.1 e.1 d.2 d.4 e.4 k n n.frame x stay at refl t.0 t.1 in (
      posted_at n.place x,
      ap (λ (m : Note). m.place) (same_at d.4 k n c.note-place.result at c.note-place.ensures.note),
      record { before = l.0; behind = l.1; was = l.2; left = l.3; others = λ g ne. comes_back_other d.1 e.1 d.2 d.4 e.4 k n g stay at t.1 (λ is. ne (sym is)) },
    )

pub returns-clause-jobs : goal.returns-clause-jobs
returns-clause-jobs c = let d = c.args.self.now.desk in let e = c.reclaim.new.self in let s = c.reclaim.ensures.same in record { jobs = jobs_stay d.1 e.1 d.2 e.2 e.4 c.reclaim.ensures.jobs s.1; asked = s.2 }
