-- The notes of goals whose frames are left.
use Rattle.std.proofs.Common.{◌≡◌, ◌≢◌, ◌⊎◌, ⊎_elim, inl, inr, ℕ, zero, suc, ◌+◌, ◌-◌, ◌^◌, ◌<◌, ◌≤◌, map, List, [], ◌∷◌, length, slice_get, Some, refl, sym, ap, ◌∙◌, subst, arith}
use Rattle.std.specs.Prelude.{slice_set}
use Rattle.std.specs.List.{remove}
use Rattle.std.proofs.lemmas.Option.{none-some}
use mathlib.Core.Logic.{dite}
use native.Mathlib.Decide.{ℕ_discrete}
use Rattle.ap_board.specs.declared.ticket.Ticket.{Ticket}
use Rattle.ap_desk.specs.declared.note.Note.{Note}
use Rattle.ap_desk.specs.Offered.{AreOut, goal_of, out_of}
use Rattle.ap_desk.proofs.Rows.{at_below, same_at, before_or_after, changed_or_other}
use Rattle.ap_post.specs.Posted.{Posted, posted, posted_at}
use Rattle.ap_post.specs.declared.post.Post.{Post}
use Rattle.ap_post.specs.Posts.{SameBelow, IsLess, OthersNoted, IsLeftAt}
use Rattle.ap_post.proofs.Changes.{some_out}
use Rattle.ap_post.proofs.Dropped.{set_there}
use Rattle.ap_post.proofs.Noted.{V, posted_none, posted_set, posted_less, posted_nothing}

-- the number of all these frames
abbrev pub left : ℕ
left = 2 ^ 64 - 1

-- ---- one note changes

pub note_before : (ns ms : List Note) (k : ℕ) (n : Note) → ms ≡ ns → slice_get ns k ≡ Some n → slice_get ms k ≡ Some n
note_before ns ms k n e at = ap (λ (x : List Note). slice_get x k) e ∙ at

pub gone_at : (ns ms : List Note) (k : ℕ) (n m : Note) → ms ≡ slice_set ns k m → slice_get ns k ≡ Some n → slice_get ms k ≡ Some m
gone_at ns ms k n m e at = ap (λ (x : List Note). slice_get x k) e ∙ set_at ns k n m at
  where
    set_at : (ns : List Note) (k : ℕ) (n m : Note) → slice_get ns k ≡ Some n → slice_get (slice_set ns k m) k ≡ Some m
    set_at [] k n m at = absurd (none-some n at)
    set_at (x ∷ ns) zero n m at = refl
    set_at (x ∷ ns) (suc k) n m at = set_at ns k n m at

pub others_set : (ns ms : List Note) (k : ℕ) (m : Note) → ms ≡ slice_set ns k m → OthersNoted k ns ms
others_set ns ms k m e i n at ne = ⊎_elim (λ l. absurd (ne l.0)) (λ l. l) (changed_or_other ns k i m n (subst (λ (x : List Note). slice_get x i ≡ Some n) e at))

pub others_same : (ns ms : List Note) (k : ℕ) → ms ≡ ns → OthersNoted k ns ms
others_same ns ms k e i n at ne = subst (λ (x : List Note). slice_get x i ≡ Some n) e at

pub same_frame : (ns ms : List Note) (k : ℕ) (m n u : Note) → ms ≡ slice_set ns k m → m.frame ≡ n.frame → slice_get ns k ≡ Some n → slice_get ms k ≡ Some u → u.frame ≡ n.frame
same_frame ns ms k m n u e same at there =
    ⊎_elim (λ l. sym (ap (λ (x : Note). x.frame) l.1) ∙ same) (λ l. ap (λ (x : Note). x.frame) (same_at ns k u n l at)) (changed_or_other ns k k m u (subst (λ (x : List Note). slice_get x k ≡ Some u) e there))

pub note_there : (ns : List Note) (k : ℕ) → k < length ns → (n : Note) × (slice_get ns k ≡ Some n)
note_there [] k l = absurd (omega (arith, l))
note_there (n ∷ ns) zero l = (n, refl)
note_there (n ∷ ns) (suc k) l = note_there ns k (omega (arith, l))

-- the view and the goals that were taken stay
pub jobs_seen : (v w : V) (ts us : List Ticket) → w ≡ v → us ≡ ts → map (goal_of w) us ≡ map (goal_of v) ts
jobs_seen v w ts us view e = ap (λ (x : V). map (goal_of x) us) view ∙ ap (map (goal_of v)) e

pub posted_seen : (v w : V) (ns ms : List Note) (f : ℕ) → w ≡ v → ms ≡ ns → posted w ms f ≡ posted v ns f
posted_seen v w ns ms f view e = ap (λ (x : V). posted x ms f) view ∙ ap (λ (x : List Note). posted v x f) e

-- where it passes to the frames that were left
pub left_at : (ns ms us : List Note) (k : ℕ) (m : Note) → OthersNoted k ns ms → slice_get ms k ≡ Some m → us ≡ slice_set ms k (record m { frame = left }) → IsLeftAt k ns us
left_at ns ms us k m others there e i n least at = go (above k i least)
  where
    above : (k i : ℕ) → k ≤ i → (i ≡ k) ⊎ (k < i)
    above k i h = dite (ℕ_discrete i k) (λ (is : i ≡ k). inl is) (λ (ne : i ≢ k). inr (omega (arith, h, ne)))

    in_us : (j : ℕ) → slice_get us j ≡ Some n → slice_get (slice_set ms k (record m { frame = left })) j ≡ Some n
    in_us j h = subst (λ (x : List Note). slice_get x j ≡ Some n) e h

    go : (i ≡ k) ⊎ (k < i) → (n.frame ≡ left) ⊎ ((j : ℕ) × (k < j) × (slice_get ns j ≡ Some n))
    go (inl is) = inl (ap (λ (x : Note). x.frame) (sym (set_there ms k (record m { frame = left }) n (in_us k (subst (λ (j : ℕ). slice_get us j ≡ Some n) is at)))))
    go (inr more) = ⊎_elim (λ l. let is = l.0 in absurd (omega (arith, is, more))) (λ l. inr (i, more, others i n l (λ is. omega (arith, is, more)))) (changed_or_other ms k i (record m { frame = left }) n (in_us i at))

pub assigned_other : (v w : V) (ns ms : List Note) (k : ℕ) (n : Note) (f : ℕ) → w ≡ v → slice_get ns k ≡ Some n → ms ≡ slice_set ns k (record n { frame = left }) → (n.frame ≡ f → ⊥) → f < left → posted w ms f ≡ posted v ns f
assigned_other v w ns ms k n f view at e ne less =
    ap (λ (x : V). posted x ms f) view ∙ ap (λ (x : List Note). posted v x f) e
    ∙ posted_set v ns k n (record n { frame = left }) f at (posted_none v (record n { frame = left }) f (λ is. below f less (sym is)) ∙ sym (posted_none v n f ne))
  where
    below : (f : ℕ) → f < left → f ≡ left → ⊥
    below f l is = omega (arith, l, is)

-- where its goal came back
pub left_removed : (ns ms : List Note) (k : ℕ) → ms ≡ remove ns k → IsLeftAt k ns ms
left_removed ns ms k e i n least at = ⊎_elim
    (λ l. let less = l.0 in absurd (omega (arith, less, least)))
    (λ l. let more = l.0 in inr (suc i, omega (arith, more), l.1))
    (before_or_after ns k i n (subst (λ (x : List Note). slice_get x i ≡ Some n) e at))

-- where it was found gone before
pub left_then : (ns ms us : List Note) (k : ℕ) → OthersNoted k ns ms → IsLeftAt k ms us → IsLeftAt k ns us
left_then ns ms us k others h i n least at = ⊎_elim (λ l. inl l) (λ l. let more = l.1 in inr (l.0, more, others l.0 n l.2 (λ is. omega (arith, is, more)))) (h i n least at)

-- ---- all notes of frames from a number on

abbrev pub IsOlder : ℕ → Note → Type 0
IsOlder from n = (n.frame < from) ⊎ (n.frame ≡ left)

-- of so many notes those that were looked at, from the last one on, are of older frames, or were left
abbrev pub AreOlder : ℕ → ℕ → ℕ → List Note → Type 0
AreOlder from count back ns = (i : ℕ) (n : Note) → count ≤ i + back → slice_get ns i ≡ Some n → IsOlder from n

pub older_begin : (from count : ℕ) (ns : List Note) → count ≡ length ns → AreOlder from count 0 ns
older_begin from count ns is i n least at = let l = at_below ns i n at in absurd (omega (arith, l, least, is))

pub older_dropped : (from count back k : ℕ) (ns ms : List Note) → k ≡ count - 1 - back → back < count → AreOlder from count back ns → IsLeftAt k ns ms → AreOlder from count (back + 1) ms
older_dropped from count back k ns ms is less all h i n least at =
    ⊎_elim (λ l. inr l) (λ l. let more = l.1 in all l.0 n (omega (arith, more, is, less)) l.2) (h i n (omega (arith, is, less, least)) at)

pub older_kept : (from count back k : ℕ) (ns : List Note) (m : Note) → k ≡ count - 1 - back → back < count → AreOlder from count back ns → slice_get ns k ≡ Some m → IsOlder from m → AreOlder from count (back + 1) ns
older_kept from count back k ns m is less all at kept i n least there = go (here_or_behind k i (omega (arith, is, less, least)))
  where
    here_or_behind : (k i : ℕ) → k ≤ i → (i ≡ k) ⊎ (suc k ≤ i)
    here_or_behind k i h = dite (ℕ_discrete i k) (λ (is : i ≡ k). inl is) (λ (ne : i ≢ k). inr (omega (arith, h, ne)))

    go : (i ≡ k) ⊎ (suc k ≤ i) → IsOlder from n
    go (inl same) = subst (IsOlder from) (same_at ns k m n at (subst (λ (j : ℕ). slice_get ns j ≡ Some n) same there)) kept
    go (inr more) = all i n (omega (arith, is, less, more)) there

pub none_from : (v : V) (from count f : ℕ) (ns : List Note) → AreOlder from count count ns → from ≤ f → f < left → posted v ns f ≡ []
none_from v from count f ns all least less = posted_nothing v ns f (λ i n at is. ⊎_elim (λ l. older n.frame l is) (λ l. other n.frame l is) (all i n (omega arith) at))
  where
    older : (g : ℕ) → g < from → g ≡ f → ⊥
    older g l is = omega (arith, l, is, least)

    other : (g : ℕ) → g ≡ left → g ≡ f → ⊥
    other g l is = omega (arith, l, is, less)

-- ---- what comes back of them

-- a frame of a note has a goal out
pub some_posted : (v : V) (ns : List Note) (slots : ℕ) → AreOut v slots ns → 0 < length ns → (f : ℕ) × (posted v ns f ≢ [])
some_posted v [] slots out l = absurd (omega (arith, l))
some_posted v (n ∷ ns) slots out l =
    let o = out.out zero n refl in
    let p = posted_less v (n ∷ ns) zero n n.frame o.0 refl refl (ap out_of o.1) in
    (n.frame, λ none. some_out p.0 p.1 (posted_at n.place o.0) (ap length (sym p.2 ∙ none)))

pub swept : (p q : Post) (a : Posted) → p.next ≤ left → IsLess left a p q → SameBelow p.next p q
swept p q a most less g l = less.others g (below g p.next l most)
  where
    below : (g n : ℕ) → g < n → n ≤ left → g ≡ left → ⊥
    below g n l most is = omega (arith, l, most, is)
