use Rattle.std.proofs.Common.{true, ◌∙◌}
use Rattle.ap_desk.specs.declared.note.Note.{Note}
use Rattle.ap_post.proofs.Changes.{comes_back_other, goes, jobs_stay}
use Rattle.ap_post.proofs.Dropped.{either_none, gone_there}
use Rattle.ap_post.proofs.Left.{others_set, left_removed, left_then, gone_at}
use Rattle.ap_post.proofs.post.Post.drop_note.Goals as goal

pub invariant_of-self-clause-fresh : goal.invariant_of-self-clause-fresh
invariant_of-self-clause-fresh c = let d = c.args.self.now.desk in let e = c.reclaim.new.self in let at = c.note.ensures.note in
    λ f l m. either_none _ _ _ d.1 e.1 d.2 d.4 e.4 c.args.k f c.note.result c.reclaim.result c.reclaim.ensures.jobs at (c.reclaim.ensures.told c.note.result at) (c.args.self.now.fresh f l m)

pub leave_note-requires-in-None-clause-gone : goal.leave_note-requires-in-None-clause-gone
leave_note-requires-in-None-clause-gone c = let d = c.args.self.now.desk in let e = c.reclaim.new.self in λ n at. gone_there d.4 e.4 c.args.k c.note.result n (c.in-None.ensures.told c.note.result c.note.ensures.note).0 at

pub returns-in-Some-clause-posted : goal.returns-in-Some-clause-posted
returns-in-Some-clause-posted c = let d = c.args.self.now.desk in let e = c.reclaim.new.self in λ f n at ne less. comes_back_other d.1 e.1 d.2 d.4 e.4 c.args.k n f c.reclaim.ensures.jobs at (c.in-Some.ensures.told n at).1 ne

pub returns-in-Some-clause-jobs : goal.returns-in-Some-clause-jobs
returns-in-Some-clause-jobs c = let d = c.args.self.now.desk in let e = c.reclaim.new.self in let same = c.reclaim.ensures.same in record { jobs = jobs_stay d.1 e.1 d.2 e.2 e.4 c.reclaim.ensures.jobs same.1; asked = same.2 }

pub returns-in-Some-clause-left : goal.returns-in-Some-clause-left
returns-in-Some-clause-left c = let d = c.args.self.now.desk in let e = c.reclaim.new.self in left_removed d.4 e.4 c.args.k (c.in-Some.ensures.told c.note.result c.note.ensures.note).1

pub returns-in-None-clause-posted : goal.returns-in-None-clause-posted
returns-in-None-clause-posted c = let d = c.args.self.now.desk in let e = c.reclaim.new.self in
    λ f n at ne less. let told = (c.in-None.ensures.told n at).0 in let m : Note = record n { gone = true } in
    c.leave_note-in-None.ensures.posted f m (gone_at d.4 e.4 c.args.k n m told at) ne less ∙ goes d.1 e.1 d.2 d.4 e.4 c.args.k n c.reclaim.ensures.jobs at told f

pub returns-in-None-clause-jobs : goal.returns-in-None-clause-jobs
returns-in-None-clause-jobs c = let d = c.args.self.now.desk in let e = c.reclaim.new.self in let same = c.reclaim.ensures.same in let last = c.leave_note-in-None.ensures.jobs in
    record { jobs = last.jobs ∙ jobs_stay d.1 e.1 d.2 e.2 e.4 c.reclaim.ensures.jobs same.1; asked = last.asked ∙ same.2 }

pub returns-in-None-clause-left : goal.returns-in-None-clause-left
returns-in-None-clause-left c = let d = c.args.self.now.desk in let e = c.reclaim.new.self in let n : Note = c.note.result in
    left_then d.4 e.4 c.leave_note-in-None.new.self.desk.4 c.args.k (others_set d.4 e.4 c.args.k (record n { gone = true }) (c.in-None.ensures.told n c.note.ensures.note).0) c.leave_note-in-None.ensures.left
