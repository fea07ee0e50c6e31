-- A slot left of a failed one is drained.
use Rattle.std.proofs.Common.{◌≡◌, ℕ, zero, suc, ◌+◌, ◌-◌, ◌<◌, ◌≤◌, ◌⊎◌, inl, inr, Bool, true, false, not, ◌&&◌, if◌then◌else◌, List, [], ◌∷◌, ◌++◌, map, Option, Some, None, refl, ap, sym, ◌∙◌, subst, arith}
use Rattle.std.proofs.lemmas.Bool.{false≢true, not-true, not-false, and_parts}
use Rattle.std.proofs.lemmas.List.{map-append}
use Rattle.std.proofs.lemmas.Option.{none-some}
use Rattle.ap_term.specs.Tree.{Tree}
use Rattle.ap_term.specs.Goals.{Program}
use Rattle.ap_laws.specs.Plain.{Plain, plain_ways}
use Rattle.ap_laws.specs.Tasks as laws
use Rattle.ap_laws.specs.Tasks.{left, edge_slots}
use Rattle.ap_laws.specs.Events.{Drains, drain_here, drain_past, HasFailedSafely}
use Rattle.ap_core.specs.declared.tasks.Busy.TheVariants.{Running}
use Rattle.ap_core.specs.Tasks.{Answer, Task, task, Slots, no_slot, slot, Progress, idle, stored, busy, held, redone, again, drained}
use Rattle.ap_core.specs.Conditions.{is_exhausted, spent_by, is_failed, has_failed, has_answer, has_more, before_failed, is_settled, answered_left, place_behind, place_to_drain}
use Rattle.ap_core.specs.Relation.{plain_answer, given, drained_with, cost_of, drained_at}
use Rattle.ap_core.specs.Erased.{erased, erased_slots}
use Rattle.ap_core.specs.Heeding.{Heeds}
use Rattle.ap_core.proofs.Fine.{IsGiven, Where, past, beyond, undrained, next_to, Fine, FineHeldTask, FineOpen, FineBegun}
use Rattle.ap_core.proofs.Erasing.{erased-given, IsGiven-given, Fine-given, left-FineHeldTask, stands_somehow, HasFailedSafely-settled}

pub place_behind-positive : (o : Option ℕ) (b : Bool) (i : ℕ) → place_behind o b ≡ Some i → 0 < i
place_behind-positive (Some j) b i h = let e : j + 1 ≡ i = cc in omega arith
place_behind-positive None true i h = let e : 1 ≡ i = cc in omega arith
place_behind-positive None false i h = absurd (none-some _ h)

place-positive : (loud : Tree → Bool) (w : Slots) (i : ℕ) → place_to_drain loud w ≡ Some i → 0 < i
place-positive loud no_slot i h = absurd (none-some _ h)
place-positive loud (slot g k x w) i h = go (has_failed x) h
  where
    go : (b : Bool) → (if b then None else place_behind (place_to_drain loud w) (loud g && has_more x)) ≡ Some i → 0 < i
    go true h = absurd (none-some _ h)
    go false h = place_behind-positive (place_to_drain loud w) (loud g && has_more x) i h

-- answered slots none of which is to be drained are settled
settled_below : (loud : Tree → Bool) (w : Slots) → before_failed answered_left w ≡ true → place_to_drain loud w ≡ None → before_failed (is_settled loud) w ≡ true
settled_below loud no_slot h e = h
settled_below loud (slot g k x w) h e = go (has_failed x) h e (λ i j. settled_below loud w i j)
  where
    behind : (o : Option ℕ) (b : Bool) → place_behind o b ≡ None → (o ≡ None) × (b ≡ false)
    behind None true q = absurd (cc)
    behind None false q = (refl, refl)
    behind (Some j) b q = absurd (cc)

    both : (a b c : Bool) → a ≡ true → b ≡ false → c ≡ true → ((a && not b) && c) ≡ true
    both true false true h i j = refl
    both true false false h i j = j
    both true true c h i j = absurd (false≢true (sym i))
    both false b c h i j = absurd (false≢true h)

    go : (f : Bool) → (if f then true else (has_answer x && before_failed answered_left w)) ≡ true → (if f then None else place_behind (place_to_drain loud w) (loud g && has_more x)) ≡ None
        → (before_failed answered_left w ≡ true → place_to_drain loud w ≡ None → before_failed (is_settled loud) w ≡ true)
        → (if f then true else (is_settled loud g x && before_failed (is_settled loud) w)) ≡ true
    go true h e rec = refl
    go false h e rec =
        let q = and_parts (has_answer x) (before_failed answered_left w) h in
        let d = behind (place_to_drain loud w) (loud g && has_more x) e in
        both (has_answer x) (loud g && has_more x) (before_failed (is_settled loud) w) q.0 d.1 (rec q.1 d.0)

module _ (loud : Tree → Bool) where
  FineBegun-anywhere : (z : Where) (r : ℕ) (g : Tree) (x : Progress) → FineBegun loud undrained r g x → FineBegun loud z r g x
  FineBegun-anywhere z r g (idle i) h = tt
  FineBegun-anywhere z r g (stored m) h = tt
  FineBegun-anywhere z r g (busy b t) h = h
  FineBegun-anywhere z r g (held m a t c) h = h
  FineBegun-anywhere z r g (redone m b t i) h = absurd h
  FineBegun-anywhere z r g (again m a t c) h = absurd h
  FineBegun-anywhere z r g (drained m b t i e) h = absurd h.0

  -- where no slot is drained the left edge is no matter
  pub FineOpen-anywhere : (z : Where) (r : ℕ) (w : Slots) → FineOpen loud undrained r w → FineOpen loud z r w
  FineOpen-anywhere z r no_slot h = tt
  FineOpen-anywhere z r (slot g k x w) h = (FineBegun-anywhere z r g x h.0, FineOpen-anywhere (next_to z x) r w h.1)

  -- nor is it behind a drained one
  FineOpen-beyond : (n r : ℕ) (w : Slots) → FineOpen loud (past n) r w → FineOpen loud beyond r w
  FineOpen-beyond n r no_slot h = tt
  FineOpen-beyond n r (slot g k (idle i) w) h = (tt, FineOpen-anywhere beyond r w h.1)
  FineOpen-beyond n r (slot g k (stored m) w) h = (tt, FineOpen-anywhere beyond r w h.1)
  FineOpen-beyond n r (slot g k (busy b t) w) h = (h.0, FineOpen-anywhere beyond r w h.1)
  FineOpen-beyond n r (slot g k (held m a t c) w) h = (h.0, FineOpen-beyond (n + c) r w h.1)
  FineOpen-beyond n r (slot g k (redone m b t i) w) h = absurd h.0
  FineOpen-beyond n r (slot g k (again m a t c) w) h = absurd h.0
  FineOpen-beyond n r (slot g k (drained m b t i e) w) h = ((stands_somehow (past n) r b t i e h.0.0, h.0.1, h.0.2), h.1)

  module _ (p : Program) (heeds : Heeds loud p) (b r c x : ℕ) (below : c ≤ r) (given_so : x ≡ r - c) where
    -- of the slots from some place on, those left of which have cost n
    pub record Drained (n : ℕ) (w v : Slots) : Type 0 where
      pub steps : Drains (plain_ways p) b (erased_slots w) (erased_slots v)
      pub fine : FineOpen loud (past n) r v

    -- the slot that is drained
    here : (n : ℕ) (g : Tree) (k : Bool) (m : List Answer) (a : Answer) (t : Task) (o : ℕ) (w : Slots) → c ≡ n + (o + edge_slots (erased_slots w)) → loud g ≡ true
        → FineHeldTask loud t → FineOpen loud (past (n + o)) r w → before_failed (is_settled loud) w ≡ true
        → Drained n (slot g k (held m a t o) w) (slot g k (drained (m ++ a ∷ []) Running (given x t) (spent_by t) (c - n)) w)
    here n g k m a t o w e l f h s = record {
      steps = subst (λ u. Drains (plain_ways p) b (erased_slots (slot g k (held m a t o) w)) u) target (drain_here (HasFailedSafely-settled loud p heeds b (past (n + o)) r w h s));
      fine = (((omega arith, standing), Fine-given loud x t f, l), FineOpen-beyond (n + o) r w h);
    }
      where
        standing : IsGiven (spent_by t + (r - (n + (c - n)))) (given x t)
        standing = let q : spent_by t + x ≡ spent_by t + (r - (n + (c - n))) = omega arith in subst (λ y. IsGiven y (given x t)) q (IsGiven-given x t)

        target : laws.drained g (map plain_answer m ++ plain_answer a ∷ []) (erased t) (left (erased t)) (o + edge_slots (erased_slots w)) (erased_slots w)
            ≡ erased_slots (slot g k (drained (m ++ a ∷ []) Running (given x t) (spent_by t) (c - n)) w)
        target =
            let d : left (erased t) ≡ spent_by t = left-FineHeldTask loud t f in
            let q : map plain_answer (m ++ a ∷ []) ≡ map plain_answer m ++ plain_answer a ∷ [] = map-append plain_answer m (a ∷ []) in
            let u : erased (given x t) ≡ erased t = erased-given x t in
            let v : o + edge_slots (erased_slots w) ≡ c - n = omega arith in
            cc

    pub Drained-at : (n i : ℕ) (w : Slots) → c ≡ n + edge_slots (erased_slots w) → before_failed answered_left w ≡ true → place_to_drain loud w ≡ Some i → FineOpen loud (past n) r w
        → Drained n w (drained_at x (c - n) i w)
    Drained-at n i no_slot e h q f = absurd (none-some _ q)
    Drained-at n i (slot g k (idle j) w) e h q f = absurd (false≢true h)
    Drained-at n i (slot g k (stored m) w) e h q f = absurd (false≢true h)
    Drained-at n i (slot g k (busy y t) w) e h q f = go (is_failed y) h q
      where
        go : (d : Bool) → (if d then true else false) ≡ true → (if d then None else place_behind (place_to_drain loud w) (loud g && false)) ≡ Some i → Drained n (slot g k (busy y t) w) (drained_at x (c - n) i (slot g k (busy y t) w))
        go true h q = absurd (none-some _ q)
        go false h q = absurd (false≢true h)
    Drained-at n i (slot g k (redone m y t j) w) e h q f = absurd f.0
    Drained-at n i (slot g k (again m a t o) w) e h q f = absurd f.0
    Drained-at n i (slot g k (drained m y t j o) w) e h q f = go (is_failed y) h q
      where
        go : (d : Bool) → (if d then true else false) ≡ true → (if d then None else place_behind (place_to_drain loud w) (loud g && false)) ≡ Some i → Drained n (slot g k (drained m y t j o) w) (drained_at x (c - n) i (slot g k (drained m y t j o) w))
        go true h q = absurd (none-some _ q)
        go false h q = absurd (false≢true h)
    Drained-at n i (slot g k (held m a t o) w) e h q f = go (place_to_drain loud w) (loud g) (is_exhausted t) refl refl q (λ j d. Drained-at (n + o) j w (omega arith) h d f.1)
      where
        go : (d : Option ℕ) (l y : Bool) → place_to_drain loud w ≡ d → loud g ≡ l → place_behind d (l && not y) ≡ Some i → ((j : ℕ) → place_to_drain loud w ≡ Some j → Drained (n + o) w (drained_at x (c - (n + o)) j w))
            → Drained n (slot g k (held m a t o) w) (drained_at x (c - n) i (slot g k (held m a t o) w))
        go None true false d l q rec =
            let s : 1 ≡ i = cc in subst (λ z. Drained n (slot g k (held m a t o) w) (drained_at x (c - n) z (slot g k (held m a t o) w))) s (here n g k m a t o w e l f.0 f.1 (settled_below loud w h d))
        go None true true d l q rec = absurd (none-some _ q)
        go None false y d l q rec = absurd (none-some _ q)
        go (Some zero) l y d u q rec = let z : 0 < 0 = place-positive loud w 0 d in absurd (omega arith)
        go (Some (suc j)) l y d u q rec =
            let s : suc j + 1 ≡ i = cc in
            let z : suc (suc j) ≡ i = omega arith in
            let v = rec (suc j) d in
            let y' : c - (n + o) ≡ (c - n) - o = omega arith in
            subst (λ z. Drained n (slot g k (held m a t o) w) (drained_at x (c - n) z (slot g k (held m a t o) w))) z
            (subst (λ e. Drained n (slot g k (held m a t o) w) (slot g k (held m a t o) (drained_at x e (suc j) w))) y' (record { steps = drain_past v.steps; fine = (f.0, v.fine) }))
