-- What the notes are after a drop, and the goals that were taken after a take.
use Rattle.std.proofs.Common.{◌≡◌, ℕ, zero, suc, true, map, List, [], ◌∷◌, ◌++◌, length, slice_get, Some, None, refl, sym, ap, ◌∙◌, subst, arith, length-append}
use Rattle.std.specs.Prelude.{Option, MatchOption, slice_set}
use Rattle.std.specs.List.{remove}
use Rattle.std.proofs.lemmas.List.{map-append}
use Rattle.std.proofs.lemmas.Option.{none-some, cond_some}
use Rattle.ap_board.specs.declared.ticket.Ticket.{Ticket}
use Rattle.ap_board.specs.declared.view.Kind.TheVariants.{Take}
use Rattle.ap_board.specs.History.{Role, nothing, after}
use Rattle.ap_board.specs.Rule.{logged, role}
use Rattle.ap_board.proofs.Keeps.{role_logged}
use Rattle.ap_desk.specs.declared.note.Note.{Note}
use Rattle.ap_desk.specs.Looks.{Missed}
use Rattle.ap_desk.specs.Offered.{JobsStay, goal_of, taken_of}
use Rattle.ap_post.specs.declared.job.Job.{Job}
use Rattle.ap_post.specs.declared.outcome.Outcome.{Outcome}
use Rattle.ap_post.specs.Posted.{Posted, posted}
use Rattle.ap_post.proofs.Noted.{V, gives, given, given_elsewhere, posted_same}
use Rattle.ap_post.proofs.Changes.{jobs_stay, goes}

-- no goal of a frame is out, with one note less
none_left : (v : V) (ns : List Note) (k f : ℕ) → length (posted v ns f) ≡ 0 → length (posted v (remove ns k) f) ≡ 0
none_left v [] zero f e = e
none_left v [] (suc k) f e = e
none_left v (n ∷ ns) zero f e = let l = ap length (gives v n ns f) in let a = length-append (given v n f) (posted v ns f) in omega (arith, l, a, e)
none_left v (n ∷ ns) (suc k) f e = let l = ap length (gives v n ns f) in let a = length-append (given v n f) (posted v ns f) in
    let m = ap length (gives v n (remove ns k) f) in let b = length-append (given v n f) (posted v (remove ns k) f) in let c = none_left v ns k f (omega (arith, l, a, e)) in omega (arith, l, a, e, m, b, c)

-- nor with one note that passes to another frame
pub assigned_none : (v : V) (ns : List Note) (k : ℕ) (m : Note) (f : ℕ) → (m.frame ≡ f → ⊥) → length (posted v ns f) ≡ 0 → length (posted v (slice_set ns k m) f) ≡ 0
assigned_none v [] zero m f ne e = e
assigned_none v [] (suc k) m f ne e = e
assigned_none v (n ∷ ns) zero m f ne e = let l = ap length (gives v n ns f) in let a = length-append (given v n f) (posted v ns f) in
    let o = ap length (gives v m ns f ∙ ap (λ (r : List Posted). r ++ posted v ns f) (given_elsewhere v m f ne)) in omega (arith, l, a, e, o)
assigned_none v (n ∷ ns) (suc k) m f ne e = let l = ap length (gives v n ns f) in let a = length-append (given v n f) (posted v ns f) in
    let o = ap length (gives v n (slice_set ns k m) f) in let b = length-append (given v n f) (posted v (slice_set ns k m) f) in let c = assigned_none v ns k m f ne (omega (arith, l, a, e)) in omega (arith, l, a, e, o, b, c)

pub still_none : (v w : V) (ts : List Ticket) (ns ms : List Note) (k f : ℕ) → JobsStay v w ts ms → ms ≡ remove ns k → length (posted v ns f) ≡ 0 → length (posted w ms f) ≡ 0
still_none v w ts ns ms k f stay e none = ap length (posted_same v w ms f stay.jobs ∙ ap (λ (x : List Note). posted v x f) e) ∙ none_left v ns k f none

pub set_there : (ns : List Note) (k : ℕ) (m n : Note) → slice_get (slice_set ns k m) k ≡ Some n → m ≡ n
set_there [] zero m n e = absurd (none-some n e)
set_there [] (suc k) m n e = absurd (none-some n e)
set_there (p ∷ ns) zero m n e = (cond_some true m n e).1
set_there (p ∷ ns) (suc k) m n e = set_there ns k m n e

pub gone_there : (ns ms : List Note) (k : ℕ) (n m : Note) → ms ≡ slice_set ns k (record n { gone = true }) → slice_get ms k ≡ Some m → m.gone ≡ true
gone_there ns ms k n m e at = sym (ap (λ (z : Note). z.gone) (set_there ns k (record n { gone = true }) m (subst (λ (x : List Note). slice_get x k ≡ Some m) e at)))

-- the goal came back, or is gone
pub either_none : (A C : Type 0) (B : Job → Type 0) (v w : V) (ts : List Ticket) (ns ms : List Note) (k f : ℕ) (n : Note) (r : Option Job) → JobsStay v w ts ms → slice_get ns k ≡ Some n
    → MatchOption r ((ms ≡ slice_set ns k (record n { gone = true })) × A) (λ x. B x × (ms ≡ remove ns k) × C) → length (posted v ns f) ≡ 0 → length (posted w ms f) ≡ 0
either_none A C B v w ts ns ms k f n None stay at h none = ap length (goes v w ts ns ms k n stay at h.0 f) ∙ none
either_none A C B v w ts ns ms k f n (Some x) stay at h none = still_none v w ts ns ms k f stay h.1 none

-- a ticket was stolen, and its goal taken or not
new_job : (v w : V) (t : Ticket) (x : Job) → role v t.pad ≡ nothing → w ≡ logged v t.pad t.round (Take x) → goal_of w t ≡ Some x
new_job v w t x none is = ap (λ (u : V). taken_of (role u t.pad)) is ∙ ap taken_of (role_logged v t.pad t.round (Take x)) ∙ ap (λ (s : Role Job). taken_of (after {O = Outcome} s t.round (Take x))) none

pub took : (v w : V) (ts us : List Ticket) (ns : List Note) (t : Ticket) (slots : ℕ) (r : Option Job) → JobsStay v w ts ns
    → MatchOption r ((us ≡ ts) × Missed slots v t w) (λ x. (us ≡ ts ++ t ∷ []) × (role v t.pad ≡ nothing) × (w ≡ logged v t.pad t.round (Take x)))
    → MatchOption r (map (goal_of w) us ≡ map (goal_of v) ts) (λ x. map (goal_of w) us ≡ map (goal_of v) ts ++ Some x ∷ [])
took v w ts us ns t slots None stay h = jobs_stay v w ts us ns stay h.0
took v w ts us ns t slots (Some x) stay h = ap (map (goal_of w)) h.0 ∙ map-append (goal_of w) ts (t ∷ []) ∙ ap (λ (r : List (Option Job)). r ++ goal_of w t ∷ []) (jobs_stay v w ts ts ns stay refl)
    ∙ ap (λ (o : Option Job). map (goal_of v) ts ++ o ∷ []) (new_job v w t x h.1 h.2)
