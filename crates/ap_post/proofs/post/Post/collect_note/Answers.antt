use Rattle.std.proofs.Common.{rules, length, refl, sym, ap, ◌∙◌}
use Rattle.ap_desk.specs.declared.note.Note.{Note}
use Rattle.ap_desk.proofs.Rows.{same_at}
use Rattle.ap_post.specs.declared.job.Job.{Job}
use Rattle.ap_post.proofs.Changes.{stays_to, comes_back, comes_back_other, jobs_stay, none_after, either_way, by_none}
use Rattle.ap_post.proofs.Left.{note_before}
use Rattle.ap_post.specs.Posted.{posted_at}
use Rattle.ap_post.proofs.post.Post.collect_note.Goals as goal

pub invariant_of-self-clause-fresh : goal.invariant_of-self-clause-fresh
invariant_of-self-clause-fresh c = let d = c.is_finished.new.self.desk in let e = c.collect.new.self in let n : Note = c.note-place.result in let at = c.note-place.ensures.note in let stay = c.collect.ensures.jobs in
    λ f l m. let none = c.is_finished.new.self.fresh f l m in either_way c.collect.result (c.collect.ensures.told n at)
    (λ t. ap length (stays_to d.1 e.1 d.2 d.4 e.4 stay t.0 f) ∙ none)
    (λ y t. none_after d.1 e.1 d.2 d.4 e.4 c.args.k n t.0 stay at t.1 t.3 f none)

pub returns-in_err-outcome-clause-told : goal.returns-in_err-outcome-clause-told
returns-in_err-outcome-clause-told c = let d = c.is_finished.new.self.desk in let e = c.collect.new.self in let before = c.is_finished.ensures in
    λ n at. let t = c.in_err-outcome.ensures.told n (note_before c.args.self.now.desk.4 d.4 c.args.k n before.notes at) in
    by_none c.from_residual.result _ _ (search rules) ((λ f. stays_to d.1 e.1 d.2 d.4 e.4 c.collect.ensures.jobs t.0 f ∙ before.posted f), ap length t.0 ∙ ap length before.notes)

pub returns-in_err-outcome-clause-jobs : goal.returns-in_err-outcome-clause-jobs
returns-in_err-outcome-clause-jobs c = let d = c.is_finished.new.self.desk in let e = c.collect.new.self in let s = c.collect.ensures.same in let before = c.is_finished.ensures.jobs in
    record { jobs = jobs_stay d.1 e.1 d.2 e.2 e.4 c.collect.ensures.jobs s.1 ∙ before.jobs; asked = s.2 ∙ before.asked }

pub returns-clause-told : goal.returns-clause-told
returns-clause-told c = let d = c.is_finished.new.self.desk in let e = c.collect.new.self in let k = c.args.k in let stay = c.collect.ensures.jobs in let before = c.is_finished.ensures in
    λ n there. let at = note_before c.args.self.now.desk.4 d.4 k n before.notes there in
    let t = c.in_ok-outcome.ensures.told n at in let x : Job = t.0 in let l = comes_back d.1 e.1 d.2 d.4 e.4 k n n.frame x stay at refl t.1 t.3 in (
      posted_at n.place x,
      ap (λ (m : Note). m.place) (same_at d.4 k n c.note-place.result at c.note-place.ensures.note),
      record {
        before = l.0;
        behind = l.1;
        was = sym (before.posted n.frame) ∙ l.2;
        left = l.3;
        others = λ g ne. comes_back_other d.1 e.1 d.2 d.4 e.4 k n g stay at t.3 (λ is. ne (sym is)) ∙ before.posted g;
      },
      t.2.0,
      t.2.1,
      t.2.2,
    )

pub returns-clause-jobs : goal.returns-clause-jobs
returns-clause-jobs c = let d = c.is_finished.new.self.desk in let e = c.collect.new.self in let s = c.collect.ensures.same in let before = c.is_finished.ensures.jobs in
    record { jobs = jobs_stay d.1 e.1 d.2 e.2 e.4 c.collect.ensures.jobs s.1 ∙ before.jobs; asked = s.2 ∙ before.asked }
