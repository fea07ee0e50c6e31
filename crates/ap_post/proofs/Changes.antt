-- What each change of the notes is to the goals that are out.
use Rattle.std.proofs.Common.{◌≡◌, ◌≢◌, ℕ, Bool, true, map, List, [], ◌∷◌, ◌++◌, length, slice_get, Some, refl, sym, ap, ◌∙◌, subst, arith}
use Rattle.std.specs.Prelude.{Option, None, MatchOption, slice_set}
use Rattle.std.proofs.lemmas.List.{map-append}
use Rattle.std.specs.List.{remove}
use mathlib.Core.Logic.{dite}
use native.Mathlib.Decide.{ℕ_discrete}
use Rattle.ap_board.specs.declared.ticket.Ticket.{Ticket}
use Rattle.ap_board.specs.History.{has}
use Rattle.ap_board.specs.Rule.{role}
use Rattle.ap_desk.specs.declared.note.Note.{Note}
use Rattle.ap_desk.specs.Offered.{JobsStay, job_of, goal_of, taken_of, fresh_note}
use Rattle.ap_post.specs.declared.job.Job.{Job}
use Rattle.ap_post.specs.Posted.{Posted, posted_at, posted}
use Rattle.ap_post.proofs.Noted.{V, posted_same, goals_same, posted_more, posted_one, posted_none, posted_set, posted_less, posted_other}

pub stays : (v w : V) (ts : List Ticket) (ns : List Note) → JobsStay v w ts ns → (f : ℕ) → posted w ns f ≡ posted v ns f
stays v w ts ns k f = posted_same v w ns f k.jobs

pub stays_to : (v w : V) (ts : List Ticket) (ns ms : List Note) → JobsStay v w ts ms → ms ≡ ns → (f : ℕ) → posted w ms f ≡ posted v ns f
stays_to v w ts ns ms k e f = posted_same v w ms f k.jobs ∙ ap (λ (x : List Note). posted v x f) e

pub stays_notes : (v w : V) (ts : List Ticket) (ns ms : List Note) → JobsStay v w ts ns → ms ≡ ns → (f : ℕ) → posted w ms f ≡ posted v ns f
stays_notes v w ts ns ms k e f = ap (λ (x : List Note). posted w x f) e ∙ posted_same v w ns f k.jobs

-- the tickets stay, or the last one goes
pub jobs_stay : (v w : V) (ts us : List Ticket) (ns : List Note) → JobsStay v w ts ns → us ≡ ts → map (goal_of w) us ≡ map (goal_of v) ts
jobs_stay v w ts us ns k e = ap (map (goal_of w)) e ∙ goals_same v w ts k.goals

pub jobs_less : (v w : V) (ts us rest : List Ticket) (t : Ticket) (ns : List Note) → JobsStay v w us ns → ts ≡ rest ++ t ∷ [] → us ≡ rest → map (goal_of v) ts ≡ map (goal_of w) us ++ goal_of v t ∷ []
jobs_less v w ts us rest t ns k e is = ap (map (goal_of v)) e ∙ map-append (goal_of v) rest (t ∷ []) ∙ ap (λ (r : List (Option Job)). r ++ goal_of v t ∷ []) (ap (map (goal_of v)) (sym is) ∙ sym (goals_same v w us k.goals))

pub last_job : (v : V) (ts rest : List Ticket) (t : Ticket) (x : Job) (b : Bool) → ts ≡ rest ++ t ∷ [] → role v t.pad ≡ has t.round x b → map (goal_of v) ts ≡ map (goal_of v) rest ++ Some x ∷ []
last_job v ts rest t x b e is = ap (map (goal_of v)) e ∙ map-append (goal_of v) rest (t ∷ []) ∙ ap (λ (o : Option Job). map (goal_of v) rest ++ o ∷ []) (ap taken_of is)

-- a note says from now on that its goal is gone, or that its taker was asked
pub goes : (v w : V) (ts : List Ticket) (ns ms : List Note) (k : ℕ) (n : Note) → JobsStay v w ts ms → slice_get ns k ≡ Some n → ms ≡ slice_set ns k (record n { gone = true }) → (f : ℕ) → posted w ms f ≡ posted v ns f
goes v w ts ns ms k n stay at e f = posted_same v w ms f stay.jobs ∙ ap (λ (x : List Note). posted v x f) e ∙ posted_set v ns k n (record n { gone = true }) f at refl

pub asks : (v w : V) (ts : List Ticket) (ns ms : List Note) (k : ℕ) (n : Note) → JobsStay v w ts ms → slice_get ns k ≡ Some n → ms ≡ slice_set ns k (record n { asked = true }) → (f : ℕ) → posted w ms f ≡ posted v ns f
asks v w ts ns ms k n stay at e f = posted_same v w ms f stay.jobs ∙ ap (λ (x : List Note). posted v x f) e ∙ posted_set v ns k n (record n { asked = true }) f at refl

-- a goal was offered
pub offered : (v w : V) (ts : List Ticket) (ns ms : List Note) (t : Ticket) (f i : ℕ) (j : Job) → JobsStay v w ts ns → ms ≡ ns ++ fresh_note t f i ∷ [] → job_of w (fresh_note t f i) ≡ Some j → posted w ms f ≡ posted v ns f ++ posted_at i j ∷ []
offered v w ts ns ms t f i j stay e o = ap (λ (x : List Note). posted w x f) e ∙ posted_more w ns (fresh_note t f i) f ∙ ap (λ (x : List Posted). x ++ posted w (fresh_note t f i ∷ []) f) (posted_same v w ns f stay.jobs)
    ∙ ap (λ (x : List Posted). posted v ns f ++ x) (posted_one w (fresh_note t f i) f j refl o)

pub offered_other : (v w : V) (ts : List Ticket) (ns ms : List Note) (t : Ticket) (f i g : ℕ) → JobsStay v w ts ns → ms ≡ ns ++ fresh_note t f i ∷ [] → (g ≡ f → ⊥) → posted w ms g ≡ posted v ns g
offered_other v w ts ns ms t f i g stay e ne = ap (λ (x : List Note). posted w x g) e ∙ posted_more w ns (fresh_note t f i) g ∙ ap (λ (x : List Posted). x ++ posted w (fresh_note t f i ∷ []) g) (posted_same v w ns g stay.jobs)
    ∙ ap (λ (x : List Posted). posted v ns g ++ x) (posted_none w (fresh_note t f i) g (λ (a : f ≡ g). ne (sym a))) ∙ unit (posted v ns g)
  where
    unit : (xs : List Posted) → xs ++ [] ≡ xs
    unit [] = refl
    unit (x ∷ xs) = ap (λ (r : List Posted). x ∷ r) (unit xs)

-- a note's goal came back
pub comes_back : (v w : V) (ts : List Ticket) (ns ms : List Note) (k : ℕ) (n : Note) (f : ℕ) (j : Job) → JobsStay v w ts ms → slice_get ns k ≡ Some n → n.frame ≡ f → job_of v n ≡ Some j → ms ≡ remove ns k
    → (before : List Posted) × (behind : List Posted) × (posted v ns f ≡ before ++ posted_at n.place j ∷ behind) × (posted w ms f ≡ before ++ behind)
comes_back v w ts ns ms k n f j stay at is o e = let l = posted_less v ns k n f j at is o in (l.0, l.1, l.2, posted_same v w ms f stay.jobs ∙ ap (λ (x : List Note). posted v x f) e ∙ l.3)

pub comes_back_other : (v w : V) (ts : List Ticket) (ns ms : List Note) (k : ℕ) (n : Note) (g : ℕ) → JobsStay v w ts ms → slice_get ns k ≡ Some n → ms ≡ remove ns k → (n.frame ≡ g → ⊥) → posted w ms g ≡ posted v ns g
comes_back_other v w ts ns ms k n g stay at e ne = posted_same v w ms g stay.jobs ∙ ap (λ (x : List Note). posted v x g) e ∙ posted_other v ns k n g at ne

pub some_out : (before behind : List Posted) (a : Posted) → length (before ++ a ∷ behind) ≡ 0 → ⊥
some_out [] behind a e = omega (arith, e)
some_out (x ∷ before) behind a e = omega (arith, e)

-- a frame that has no goal out has none after that
pub none_after : (v w : V) (ts : List Ticket) (ns ms : List Note) (k : ℕ) (n : Note) (j : Job) → JobsStay v w ts ms → slice_get ns k ≡ Some n → job_of v n ≡ Some j → ms ≡ remove ns k → (f : ℕ) → length (posted v ns f) ≡ 0 → length (posted w ms f) ≡ 0
none_after v w ts ns ms k n j stay at o e f none = dite (ℕ_discrete n.frame f)
    (λ (is : n.frame ≡ f). let l = comes_back v w ts ns ms k n f j stay at is o e in absurd (some_out l.0 l.1 (posted_at n.place j) (sym (ap length l.2) ∙ none)))
    (λ (ne : n.frame ≢ f). ap length (comes_back_other v w ts ns ms k n f stay at e ne) ∙ none)

-- what follows either way
pub either_way : {R C A : Type 0} {B : R → Type 0} → (r : Option R) → MatchOption r A B → (A → C) → ((x : R) → B x → C) → C
either_way None m a b = a m
either_way (Some x) m a b = b x m

pub by_none : {R : Type 0} (r : Option R) (A : Type 0) (B : R → Type 0) → r ≡ None → A → MatchOption r A B
by_none {R} r A B e a = subst (λ (x : Option R). MatchOption x A B) (sym e) a
