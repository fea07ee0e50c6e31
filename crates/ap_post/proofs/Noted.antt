-- The goals that are out, as notes come, change and go.
use Rattle.std.proofs.Common.{◌≡◌, ℕ, zero, suc, Bool, true, false, cond, ◌==◌, List, [], ◌∷◌, ◌++◌, map, slice_get, Some, None, append_assoc, refl, sym, ap, ◌∙◌}
use Rattle.std.specs.Prelude.{Option, slice_set}
use Rattle.std.specs.List.{remove}
use Rattle.std.proofs.lemmas.Option.{none-some, cond_some}
use Rattle.std.proofs.lemmas.Bool.{eq-eqb, ne_eqb}
use Rattle.ap_board.specs.declared.ticket.Ticket.{Ticket}
use Rattle.ap_board.specs.declared.view.View.{View}
use Rattle.ap_desk.specs.declared.note.Note.{Note}
use Rattle.ap_desk.specs.Offered.{job_of, goal_of}
use Rattle.ap_post.specs.declared.job.Job.{Job}
use Rattle.ap_post.specs.declared.outcome.Outcome.{Outcome}
use Rattle.ap_post.specs.Posted.{Posted, posted_at, also, posted}

abbrev pub V : Type 0
V = View Job Outcome

-- what one note gives
abbrev lead : Bool → ℕ → Option Job → List Posted
lead false i o = []
lead true i None = []
lead true i (Some j) = posted_at i j ∷ []

leads : (b : Bool) (i : ℕ) (o : Option Job) (rest : List Posted) → cond b (also i o rest) rest ≡ lead b i o ++ rest
leads false i o rest = refl
leads true i None rest = refl
leads true i (Some j) rest = refl

abbrev pub given : V → Note → ℕ → List Posted
given v n f = lead (n.frame == f) n.place (job_of v n)

pub gives : (v : V) (n : Note) (ns : List Note) (f : ℕ) → posted v (n ∷ ns) f ≡ given v n f ++ posted v ns f
gives v n ns f = leads (n.frame == f) n.place (job_of v n) (posted v ns f)

given_here : (v : V) (n : Note) (f : ℕ) (j : Job) → n.frame ≡ f → job_of v n ≡ Some j → given v n f ≡ posted_at n.place j ∷ []
given_here v n f j e o = ap (λ (b : Bool). lead b n.place (job_of v n)) (eq-eqb n.frame f e) ∙ ap (λ (x : Option Job). lead true n.place x) o

pub given_elsewhere : (v : V) (n : Note) (f : ℕ) → (n.frame ≡ f → ⊥) → given v n f ≡ []
given_elsewhere v n f ne = ap (λ (b : Bool). lead b n.place (job_of v n)) (ne_eqb n.frame f ne)

first_is : (m n : Note) → Some m ≡ Some n → m ≡ n
first_is m n e = (cond_some true m n e).1

-- the same goals of the notes
pub posted_same : (v w : V) (ns : List Note) (f : ℕ) → ((i : ℕ) (n : Note) → slice_get ns i ≡ Some n → job_of w n ≡ job_of v n) → posted w ns f ≡ posted v ns f
posted_same v w [] f h = refl
posted_same v w (n ∷ ns) f h = gives w n ns f ∙ ap (λ (o : Option Job). lead (n.frame == f) n.place o ++ posted w ns f) (h zero n refl)
    ∙ ap (λ (r : List Posted). given v n f ++ r) (posted_same v w ns f (λ i m e. h (suc i) m e)) ∙ sym (gives v n ns f)

pub goals_same : (v w : V) (ts : List Ticket) → ((i : ℕ) (t : Ticket) → slice_get ts i ≡ Some t → goal_of w t ≡ goal_of v t) → map (goal_of w) ts ≡ map (goal_of v) ts
goals_same v w [] h = refl
goals_same v w (t ∷ ts) h = ap (λ (o : Option Job). o ∷ map (goal_of w) ts) (h zero t refl) ∙ ap (λ (r : List (Option Job)). goal_of v t ∷ r) (goals_same v w ts (λ i u e. h (suc i) u e))

-- one note more
pub posted_more : (v : V) (ns : List Note) (n : Note) (f : ℕ) → posted v (ns ++ n ∷ []) f ≡ posted v ns f ++ posted v (n ∷ []) f
posted_more v [] n f = refl
posted_more v (m ∷ ns) n f = gives v m (ns ++ n ∷ []) f ∙ ap (λ (r : List Posted). given v m f ++ r) (posted_more v ns n f) ∙ sym (append_assoc (given v m f) (posted v ns f) (posted v (n ∷ []) f))
    ∙ ap (λ (r : List Posted). r ++ posted v (n ∷ []) f) (sym (gives v m ns f))

pub posted_one : (v : V) (n : Note) (f : ℕ) (j : Job) → n.frame ≡ f → job_of v n ≡ Some j → posted v (n ∷ []) f ≡ posted_at n.place j ∷ []
posted_one v n f j e o = gives v n [] f ∙ ap (λ (r : List Posted). r ++ []) (given_here v n f j e o)

pub posted_none : (v : V) (n : Note) (f : ℕ) → (n.frame ≡ f → ⊥) → posted v (n ∷ []) f ≡ []
posted_none v n f ne = gives v n [] f ∙ ap (λ (r : List Posted). r ++ []) (given_elsewhere v n f ne)

-- a note exchanged for one that gives the same
pub posted_set : (v : V) (ns : List Note) (k : ℕ) (n m : Note) (f : ℕ) → slice_get ns k ≡ Some n → posted v (m ∷ []) f ≡ posted v (n ∷ []) f → posted v (slice_set ns k m) f ≡ posted v ns f
posted_set v [] k n m f e same = absurd (none-some n e)
posted_set v (p ∷ ns) zero n m f e same = posted_more_front m ∙ ap (λ (r : List Posted). r ++ posted v ns f) same ∙ sym (posted_more_front n) ∙ ap (λ (x : Note). posted v (x ∷ ns) f) (sym (first_is p n e))
  where
    unit : (xs : List Posted) → xs ++ [] ≡ xs
    unit [] = refl
    unit (x ∷ xs) = ap (λ (r : List Posted). x ∷ r) (unit xs)

    posted_more_front : (q : Note) → posted v (q ∷ ns) f ≡ posted v (q ∷ []) f ++ posted v ns f
    posted_more_front q = gives v q ns f ∙ ap (λ (r : List Posted). r ++ posted v ns f) (sym (gives v q [] f ∙ unit (given v q f)))
posted_set v (p ∷ ns) (suc k) n m f e same = gives v p (slice_set ns k m) f ∙ ap (λ (r : List Posted). given v p f ++ r) (posted_set v ns k n m f e same) ∙ sym (gives v p ns f)

-- a note of the frame that goes
pub posted_less : (v : V) (ns : List Note) (k : ℕ) (n : Note) (f : ℕ) (j : Job) → slice_get ns k ≡ Some n → n.frame ≡ f → job_of v n ≡ Some j
    → (before : List Posted) × (behind : List Posted) × (posted v ns f ≡ before ++ posted_at n.place j ∷ behind) × (posted v (remove ns k) f ≡ before ++ behind)
posted_less v [] k n f j e at o = absurd (none-some n e)
posted_less v (m ∷ ns) zero n f j e at o = ([], posted v ns f, ap (λ (x : Note). posted v (x ∷ ns) f) (first_is m n e) ∙ gives v n ns f ∙ ap (λ (r : List Posted). r ++ posted v ns f) (given_here v n f j at o), refl)
posted_less v (m ∷ ns) (suc k) n f j e at o = let l = posted_less v ns k n f j e at o in (
  given v m f ++ l.0,
  l.1,
  gives v m ns f ∙ ap (λ (r : List Posted). given v m f ++ r) l.2 ∙ sym (append_assoc (given v m f) l.0 (posted_at n.place j ∷ l.1)),
  gives v m (remove ns k) f ∙ ap (λ (r : List Posted). given v m f ++ r) l.3 ∙ sym (append_assoc (given v m f) l.0 l.1),
)

-- one of another frame that goes
pub posted_other : (v : V) (ns : List Note) (k : ℕ) (n : Note) (f : ℕ) → slice_get ns k ≡ Some n → (n.frame ≡ f → ⊥) → posted v (remove ns k) f ≡ posted v ns f
posted_other v [] k n f e ne = absurd (none-some n e)
posted_other v (m ∷ ns) zero n f e ne = sym (ap (λ (x : Note). posted v (x ∷ ns) f) (first_is m n e) ∙ gives v n ns f ∙ ap (λ (r : List Posted). r ++ posted v ns f) (given_elsewhere v n f ne))
posted_other v (m ∷ ns) (suc k) n f e ne = gives v m (remove ns k) f ∙ ap (λ (r : List Posted). given v m f ++ r) (posted_other v ns k n f e ne) ∙ sym (gives v m ns f)

-- no note is of the frame
pub posted_nothing : (v : V) (ns : List Note) (f : ℕ) → ((i : ℕ) (n : Note) → slice_get ns i ≡ Some n → n.frame ≡ f → ⊥) → posted v ns f ≡ []
posted_nothing v [] f h = refl
posted_nothing v (n ∷ ns) f h = gives v n ns f ∙ ap (λ (r : List Posted). r ++ posted v ns f) (given_elsewhere v n f (h zero n refl)) ∙ posted_nothing v ns f (λ i m e. h (suc i) m e)
