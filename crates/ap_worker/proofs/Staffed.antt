-- What taking a goal, going on with a search and finishing it are to a worker.
use Rattle.std.proofs.Common.{◌≡◌, ◌≢◌, ℕ, suc, ◌+◌, ◌-◌, ◌≤◌, ◌<◌, List, [], ◌∷◌, ◌++◌, length, length-append, Some, None, Ok, Err, refl, ap, sym, ◌∙◌, subst, arith}
use Rattle.std.specs.Prelude.{Option, Result, IfOk}
use Rattle.ap_board.specs.declared.view.Cause.{Cause}
use Rattle.ap_desk.specs.Held.{IsCauseAt}
use Rattle.ap_open.specs.Sharing.{OutcomeLaw}
use Rattle.ap_post.specs.declared.job.Job.{Job}
use Rattle.ap_post.specs.declared.outcome.Outcome.{Outcome}
use Rattle.ap_post.specs.declared.post.Post.{Post}
use Rattle.ap_post.specs.Jobs.{IsOf}
use Rattle.ap_post.specs.Posts.{posted_in, jobs_in, asked_in, SamePosted, SameBelow}
use Rattle.ap_stack.specs.declared.stack.Stack.{Stack}
use Rattle.ap_stack.specs.Outcomes.{IsOutcome}
use Rattle.ap_stack.specs.Stacks.{Goes}
use Rattle.ap_worker.specs.declared.taken.Taken.{Taken}
use Rattle.ap_worker.specs.declared.worker.Worker.{Worker}
use Rattle.ap_worker.specs.Workers.{IsTaken, IsTakenAs, AreTaken, IsStaffed, IsShort, IsOff, IsAwaiting, WorkerGoes}
use Rattle.ap_worker.proofs.Taking.{as-first, as-below, as-elsewhere, as-gone, as-fits, same-last, taken-le, taken-length, taken-below, taken-elsewhere, taken-split, taken-joined}

-- the same searches, as another worker's
moved : (v x : Worker) (js : List (Option Job)) (hi : ℕ) → x.taken.items ≡ v.taken.items → x.floor ≡ v.floor → AreTaken x.post v.floor v.taken.items js hi → AreTaken x.post x.floor x.taken.items js hi
moved v x js hi items floor h =
    subst (λ ts. AreTaken x.post x.floor ts js hi) (sym items) (subst (λ n. AreTaken x.post n v.taken.items js hi) (sym floor) h)

-- ---- a worker with other goals of its own out alone

-- the same searches for those jobs
pub carried : (v x : Worker) (js : List (Option Job)) → x.taken.items ≡ v.taken.items → x.floor ≡ v.floor → SamePosted v.post x.post → v.post.next ≤ x.post.next
    → AreTaken v.post v.floor v.taken.items js v.post.next → AreTaken x.post x.floor x.taken.items js x.post.next
carried v x js items floor same next h =
    moved v x js x.post.next items floor (taken-below x.post v.floor v.taken.items js v.post.next x.post.next next (taken-elsewhere v.post x.post v.floor v.taken.items js v.post.next (λ g less. same g) next h))

pub still-staffed : (v x : Worker) → x.taken.items ≡ v.taken.items → x.floor ≡ v.floor → SamePosted v.post x.post → v.post.next ≤ x.post.next → jobs_in x.post ≡ jobs_in v.post → IsStaffed v → IsStaffed x
still-staffed v x items floor same next jobs h =
    subst (λ js. AreTaken x.post x.floor x.taken.items js x.post.next) (sym jobs) (carried v x (jobs_in v.post) items floor same next h)

-- none is open
free-taken : (p q : Post) (lo n : ℕ) (ts : List Taken) (js : List (Option Job)) (hi m : ℕ) → ts ≡ [] → n ≤ m → AreTaken p lo ts js hi → AreTaken q n ts js m
free-taken p q lo n [] [] hi m e le h = le
free-taken p q lo n [] (j ∷ js) hi m e le h = absurd h
free-taken p q lo n (t ∷ ts) js hi m e le h = let no : ⊥ = cc in absurd no

pub free-staffed : (v x : Worker) → x.taken.items ≡ v.taken.items → v.taken.items ≡ [] → jobs_in x.post ≡ jobs_in v.post → x.floor ≤ x.post.next → IsStaffed v → IsStaffed x
free-staffed v x items free jobs le h =
    subst (λ ts. AreTaken x.post x.floor ts (jobs_in x.post) x.post.next) (sym items)
    (subst (λ js. AreTaken x.post x.floor v.taken.items js x.post.next) (sym jobs) (free-taken v.post x.post v.floor x.floor v.taken.items (jobs_in v.post) v.post.next x.post.next free le h))

pub staffed-floor : (v : Worker) → IsStaffed v → v.floor ≤ v.post.next
staffed-floor v h = taken-le v.post v.floor v.taken.items (jobs_in v.post) v.post.next h

-- ---- a goal that was taken

pub now-awaiting : (v x : Worker) (j : Job) → x.taken.items ≡ v.taken.items → x.floor ≡ v.floor → SamePosted v.post x.post → v.post.next ≤ x.post.next → jobs_in x.post ≡ jobs_in v.post ++ Some j ∷ []
    → IsStaffed v → IsAwaiting x j
now-awaiting v x j items floor same next jobs h = record { jobs = jobs_in v.post; held = jobs; before = carried v x (jobs_in v.post) items floor same next h }

pub still-awaiting : (v x : Worker) (j : Job) → x.taken.items ≡ v.taken.items → x.floor ≡ v.floor → SamePosted v.post x.post → v.post.next ≤ x.post.next → jobs_in x.post ≡ jobs_in v.post
    → IsAwaiting v j → IsAwaiting x j
still-awaiting v x j items floor same next jobs h = record { jobs = h.jobs; held = jobs ∙ h.held; before = carried v x h.jobs items floor same next h.before }

-- it goes back
pub given-back : (v x : Worker) (j : Job) (last : Option Job) → x.taken.items ≡ v.taken.items → x.floor ≡ v.floor → SamePosted v.post x.post → v.post.next ≤ x.post.next
    → jobs_in v.post ≡ jobs_in x.post ++ last ∷ [] → IsAwaiting v j → IsStaffed x
given-back v x j last items floor same next jobs h =
    let k = same-last h.jobs (jobs_in x.post) (Some j) last (sym h.held ∙ jobs) in
    subst (λ js. AreTaken x.post x.floor x.taken.items js x.post.next) k.0 (carried v x h.jobs items floor same next h.before)

-- its search is begun, under the next number
pub now-begun : (v x : Worker) (j : Job) (t : Taken) → x.taken.items ≡ v.taken.items ++ t ∷ [] → x.floor ≡ v.floor → SamePosted v.post x.post → jobs_in x.post ≡ jobs_in v.post → x.post.next ≡ v.post.next + 1
    → t.stack.first ≡ v.post.next → IsTaken x.post t.stack j → IsAwaiting v j → IsStaffed x
now-begun v x j t items floor same jobs next first one h =
    let above = one.good.below in
    let before = taken-elsewhere v.post x.post v.floor v.taken.items h.jobs v.post.next (λ g less. same g) (omega arith) h.before in
    let all = taken-joined x.post v.floor v.taken.items t h.jobs (Some j) x.post.next (taken-below x.post v.floor v.taken.items h.jobs v.post.next t.stack.first (omega arith) before) one (omega arith) in
    subst (λ js. AreTaken x.post x.floor x.taken.items js x.post.next) (sym (jobs ∙ h.held))
    (subst (λ ts. AreTaken x.post x.floor ts (h.jobs ++ Some j ∷ []) x.post.next) (sym items) (subst (λ n. AreTaken x.post n (v.taken.items ++ t ∷ []) (h.jobs ++ Some j ∷ []) x.post.next) (sym floor) all))

-- ---- the newest search is taken off

pub now-off : (v x : Worker) (t : Taken) → v.taken.items ≡ x.taken.items ++ t ∷ [] → x.floor ≡ v.floor → SamePosted v.post x.post → x.post.next ≡ v.post.next → jobs_in x.post ≡ jobs_in v.post → IsStaffed v → IsOff x t.stack
now-off v x t items floor same next jobs h =
    let k = taken-split v.post v.floor x.taken.items t (jobs_in v.post) v.post.next (subst (λ ts. AreTaken v.post v.floor ts (jobs_in v.post) v.post.next) items h) in
    let first = as-first v.post t.stack k.last k.search in
    let above = k.above in
    let up : v.post.next ≤ x.post.next = omega arith in record {
      short = record {
        jobs = k.jobs;
        last = k.last;
        held = jobs ∙ k.held;
        before = subst (λ n. AreTaken x.post n x.taken.items k.jobs t.stack.first) (sym floor)
            (taken-elsewhere v.post x.post v.floor x.taken.items k.jobs t.stack.first (λ g less. same g) up k.before);
        next = omega arith;
      };
      last = as-elsewhere v.post x.post t.stack k.last (λ g less. same g) up k.search;
    }

pub off-floor : (v : Worker) (s : Stack) → IsOff v s → v.floor ≤ s.first
off-floor v s h = taken-le v.post v.floor v.taken.items h.short.jobs s.first h.short.before

-- it goes on
pub off-gone : OutcomeLaw → (v x : Worker) (s t : Stack) → x.taken.items ≡ v.taken.items → x.floor ≡ v.floor → Goes v.post s x.post t → IsOff v s → IsOff x t
off-gone law v x s t items floor goes h =
    let first = goes.first in
    let next = goes.next in
    let above = h.short.next in record {
      short = record {
        jobs = h.short.jobs;
        last = h.short.last;
        held = goes.jobs.jobs ∙ h.short.held;
        before = subst (AreTaken x.post x.floor x.taken.items h.short.jobs) (sym first)
            (moved v x h.short.jobs s.first items floor (taken-elsewhere v.post x.post v.floor v.taken.items h.short.jobs s.first goes.below goes.next h.short.before));
        next = omega arith;
      };
      last = as-gone law v.post x.post s t h.short.last goes h.last;
    }

-- it is put back
pub put-back : (v x : Worker) (t : Taken) → x.taken.items ≡ v.taken.items ++ t ∷ [] → x.floor ≡ v.floor → x.post ≡ v.post → IsOff v t.stack → IsStaffed x
put-back v x t items floor post h =
    let all = taken-joined v.post v.floor v.taken.items t h.short.jobs h.short.last v.post.next h.short.before h.last (as-below v.post t.stack h.short.last h.last) in
    subst (λ p. AreTaken p x.floor x.taken.items (jobs_in p) p.next) (sym post)
    (subst (λ js. AreTaken v.post x.floor x.taken.items js v.post.next) (sym h.short.held)
    (subst (λ ts. AreTaken v.post x.floor ts (h.short.jobs ++ h.short.last ∷ []) v.post.next) (sym items)
    (subst (λ n. AreTaken v.post n (v.taken.items ++ t ∷ []) (h.short.jobs ++ h.short.last ∷ []) v.post.next) (sym floor) all)))

-- its goal is finished
pub now-finished : (v x : Worker) (first : ℕ) (last : Option Job) → x.taken.items ≡ v.taken.items → x.floor ≡ v.floor → SameBelow first v.post x.post → x.post.next ≡ v.post.next
    → jobs_in v.post ≡ jobs_in x.post ++ last ∷ [] → IsShort v first → WorkerGoes v x
now-finished v x first last items floor same next jobs h =
    let k = same-last h.jobs (jobs_in x.post) h.last last (sym h.held ∙ jobs) in
    let lowest = taken-le v.post v.floor v.taken.items h.jobs first h.before in
    let above = h.next in
    let before = taken-elsewhere v.post x.post v.floor v.taken.items h.jobs first same (omega arith) h.before in record {
      staffed = subst (λ js. AreTaken x.post x.floor x.taken.items js x.post.next) k.0 (moved v x h.jobs x.post.next items floor (taken-below x.post v.floor v.taken.items h.jobs first x.post.next (omega arith) before));
      below = λ g less. same g (omega arith);
      floor = omega arith;
      next = omega arith;
    }

-- ---- one after the other

pub goes-after : (v u x : Worker) → u.floor ≡ v.floor → SameBelow v.floor v.post u.post → v.post.next ≤ u.post.next → WorkerGoes u x → WorkerGoes v x
goes-after v u x floor same next goes =
    let least = goes.floor in
    let most = goes.next in record {
      staffed = goes.staffed;
      below = λ g less. goes.below g (omega arith) ∙ same g less;
      floor = omega arith;
      next = omega arith;
    }

pub gone-then : (v u x : Worker) (s t : Stack) → u.floor ≡ v.floor → IsOff v s → Goes v.post s u.post t → WorkerGoes u x → WorkerGoes v x
gone-then v u x s t floor off goes =
    let lowest = off-floor v s off in
    goes-after v u x floor (λ g less. goes.below g (omega arith)) goes.next

-- ---- what a step of its newest search is to a worker

pub now-gone : OutcomeLaw → (v u x : Worker) (s : Stack) (t : Taken) → u.taken.items ≡ v.taken.items → u.floor ≡ v.floor → Goes v.post s u.post t.stack → x.taken.items ≡ u.taken.items ++ t ∷ [] → x.floor ≡ u.floor → x.post ≡ u.post
    → IsOff v s → WorkerGoes v x
now-gone law v u x s t items floor goes more same post h =
    let off = off-gone law v u s t.stack items floor goes h in
    let next = ap (λ p. p.next) post in
    gone-then v u x s t.stack floor h goes (record {
      staffed = put-back u x t more same post off;
      below = λ g less. ap (λ p. posted_in p g) post;
      floor = omega arith;
      next = omega arith;
    })

-- ---- outcomes

pub off-fits : (v : Worker) (s : Stack) (o : Outcome) → IsOff v s → IsOutcome v.post s o → (js : List (Option Job)) (j : Job) → jobs_in v.post ≡ js ++ Some j ∷ [] → IsOf j o
off-fits v s o h out js j e =
    let k = same-last h.short.jobs js h.short.last (Some j) (sym h.short.held ∙ e) in
    as-fits v.post s j o out (subst (IsTakenAs v.post s) k.1 h.last)

off-count : (v : Worker) (s : Stack) → IsOff v s → length (jobs_in v.post) ≡ length v.taken.items + 1
off-count v s h =
    let same = taken-length v.post v.floor v.taken.items h.short.jobs s.first h.short.before in
    ap length h.short.held ∙ length-append h.short.jobs (h.short.last ∷ []) ∙ ap (λ n. n + 1) (sym same)

pub off-cause : (v : Worker) (s : Stack) (c : Cause) (asked : ℕ) → asked_in v.post ≡ Some asked → asked < length (jobs_in v.post) → (asked ≤ length v.taken.items → IsCauseAt c (Some asked) (length v.taken.items)) → IsOff v s
    → IsCauseAt c (asked_in v.post) (length (jobs_in v.post) - 1)
off-cause v s c asked is within h off =
    let count = off-count v s off in
    let last : length v.taken.items ≡ length (jobs_in v.post) - 1 = omega arith in
    subst (λ a. IsCauseAt c a (length (jobs_in v.post) - 1)) (sym is) (subst (IsCauseAt c (Some asked)) last (h (omega arith)))
