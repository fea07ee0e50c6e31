use Rattle.std.proofs.Common.{◌-◌, ◌^◌, ◌<◌, length, sym, ap, ◌∙◌, subst, arith, length-set}
use Rattle.ap_post.proofs.Dropped.{assigned_none}
use Rattle.ap_post.proofs.Left.{left_at, assigned_other, note_there, posted_seen, jobs_seen}
use Rattle.ap_post.proofs.post.Post.leave_note.Goals as goal

pub invariant_of-self-clause-fresh : goal.invariant_of-self-clause-fresh
invariant_of-self-clause-fresh c = let d = c.ask.new.self.desk in let e = c.assign.new.self in let k = c.args.k in
    let at = note_there d.4 k (subst (λ n. k < n) (sym c.ask.ensures.count) c.requires.place) in
    λ f l m. ap length (posted_seen d.1 e.1 _ e.4 f c.assign.ensures.same.1 (c.assign.ensures.told at.0 at.1)) ∙ assigned_none d.1 d.4 k (record at.0 { frame = 2 ^ 64 - 1 }) f (λ is. omega (arith, is, m)) (c.ask.new.self.fresh f l m)

pub returns-clause-posted : goal.returns-clause-posted
returns-clause-posted c = let d = c.ask.new.self.desk in let e = c.assign.new.self in let k = c.args.k in
    let at = note_there d.4 k (subst (λ n. k < n) (sym c.ask.ensures.count) c.requires.place) in
    λ f n there ne less. assigned_other d.1 e.1 d.4 e.4 k at.0 f c.assign.ensures.same.1 at.1 (c.assign.ensures.told at.0 at.1) (λ is. ne (sym (c.ask.ensures.frame n at.0 there at.1) ∙ is)) less ∙ c.ask.ensures.posted f

pub returns-clause-jobs : goal.returns-clause-jobs
returns-clause-jobs c = let d = c.ask.new.self.desk in let e = c.assign.new.self in let same = c.assign.ensures.same in let before = c.ask.ensures.jobs in
    record { jobs = jobs_seen d.1 e.1 d.2 e.2 same.1 same.2 ∙ before.jobs; asked = same.3 ∙ before.asked }

pub returns-clause-count : goal.returns-clause-count
returns-clause-count c = let d = c.ask.new.self.desk in let k = c.args.k in
    let at = note_there d.4 k (subst (λ n. k < n) (sym c.ask.ensures.count) c.requires.place) in
    ap length (c.assign.ensures.told at.0 at.1) ∙ length-set d.4 k _ ∙ c.ask.ensures.count

pub returns-clause-left : goal.returns-clause-left
returns-clause-left c = let d = c.ask.new.self.desk in let e = c.assign.new.self in let k = c.args.k in
    let at = note_there d.4 k (subst (λ n. k < n) (sym c.ask.ensures.count) c.requires.place) in
    left_at c.args.self.now.desk.4 d.4 e.4 k at.0 c.ask.ensures.others at.1 (c.assign.ensures.told at.0 at.1)
