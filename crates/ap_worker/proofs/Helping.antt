-- What looking for another worker's goal is to a worker.
use Rattle.std.proofs.Common.{◌≡◌, ℕ, ◌≤◌, ◌<◌, [], ◌∷◌, length, length-append, true, false, Some, Ok, Err, ap, sym, ◌∙◌, subst, arith}
use Rattle.std.specs.Prelude.{Option, Result, OnOk, OnErr, is_err}
use Rattle.ap_desk.specs.Held.{IsCauseAt}
use Rattle.ap_open.specs.Away.{IsOutcomeOf}
use Rattle.ap_post.specs.declared.job.Job.{Job}
use Rattle.ap_post.specs.declared.outcome.Ending.{Ending}
use Rattle.ap_post.specs.declared.outcome.Ending.TheVariants.{NoMemory}
use Rattle.ap_post.specs.declared.outcome.Outcome.{Outcome}
use Rattle.ap_post.specs.declared.post.Post.{Post}
use Rattle.ap_ledger.specs.Counts.{capped}
use Rattle.ap_post.specs.Jobs.{IsOf, IsReadyEnding, cause_of, cost_by, key_of, outcome_of}
use Rattle.ap_stack.proofs.Endings.{none-paid}
use Rattle.ap_post.specs.Posts.{posted_in, jobs_in, SamePosted}
use Rattle.ap_worker.specs.declared.worker.Worker.{Worker}
use Rattle.ap_worker.specs.Workers.{IsStaffed, IsAwaiting, WorkerHelps}

-- u has room for one more search than v; no search was begun
pub helps-same : (v u x : Worker) → u.post ≡ v.post → u.taken.items ≡ v.taken.items → x.taken.items ≡ u.taken.items → x.floor ≡ u.floor → v.floor ≤ u.floor → SamePosted u.post x.post → u.post.next ≤ x.post.next
    → IsStaffed x → WorkerHelps v x
helps-same v u x post items taken same floor posted next staffed =
    let from = ap (λ (p : Post). p.next) post in record {
      staffed = staffed;
      posted = λ f. posted f ∙ ap (λ (p : Post). posted_in p f) post;
      floor = omega arith;
      next = omega arith;
      risen = λ free some. absurd (some (taken ∙ items ∙ free));
    }

-- one was
pub helps-more : (v u x : Worker) → u.post ≡ v.post → (v.taken.items ≡ [] → u.floor ≡ v.post.next) → x.floor ≡ u.floor → v.floor ≤ u.floor → SamePosted u.post x.post → u.post.next ≤ x.post.next
    → IsStaffed x → WorkerHelps v x
helps-more v u x post risen same floor posted next staffed =
    let from = ap (λ (p : Post). p.next) post in record {
      staffed = staffed;
      posted = λ f. posted f ∙ ap (λ (p : Post). posted_in p f) post;
      floor = omega arith;
      next = omega arith;
      risen = λ free some. same ∙ risen free;
    }

-- ---- what a call came to

pub on-ok : {T E : Type 0} (r : Result T E) (P : Type 0) → is_err r ≡ false → OnOk r P → P
on-ok (Ok x) P e h = h
on-ok (Err y) P e h = let no : ⊥ = cc in absurd no

pub on-err : {T E : Type 0} (r : Result T E) (P : Type 0) → is_err r ≡ true → OnErr r P → P
on-err (Ok x) P e h = let no : ⊥ = cc in absurd no
on-err (Err y) P e h = h

-- ---- a goal that goes back for want of memory

pub awaiting-some : (v : Worker) (j : Job) → IsAwaiting v j → 0 < length (jobs_in v.post)
awaiting-some v j h =
    let count = ap length h.held ∙ length-append h.jobs (Some j ∷ []) in
    omega arith

pub no-memory-fits : (o : Outcome) (j : Job) → o.ending ≡ NoMemory → IsOf j o
no-memory-fits o j e =
    let fits = subst (λ (x : Ending). IsOutcomeOf j.sound.now (key_of j) (outcome_of x) × IsReadyEnding j.sound.now x) (sym e) ((λ r g n is searched. tt), tt) in
    (fits.0, fits.1, (λ r g n is searched. subst (λ (x : Ending). capped (cost_by j.rest x) ≤ o.share) (sym e) (none-paid o.share)))

pub no-memory-cause : (o : Outcome) (asked : Option ℕ) (n : ℕ) → o.ending ≡ NoMemory → IsCauseAt (cause_of o.ending) asked n
no-memory-cause o asked n e = subst (λ x. IsCauseAt (cause_of x) asked n) (sym e) tt
