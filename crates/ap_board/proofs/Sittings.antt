-- What each call leaves of a seat.
use Rattle.std.proofs.Common.{◌≡◌, ◌≢◌, ◌⊎◌, ⊎_elim, inl, inr, ℕ, zero, suc, ◌+◌, ◌-◌, ◌*◌, ◌^◌, ◌/◌, ◌<◌, ◌≤◌, ◌↔◌, Bool, true, false, List, [], ◌∷◌, ◌++◌, length, get_or, set, refl, sym, ap, ◌∙◌, subst, arith, lt_of_not-le, suc-mul, length-set, get_or-set_same, get_or-set_other}
use Rattle.std.proofs.Math.Nat.{div-mul-le_self, lt-div-mul-add, div-lt_iff_lt-mul}
use mathlib.Core.Logic.{dite}
use native.Mathlib.Decide.{ℕ_discrete, dec_le}
use Rattle.std.specs.Prelude.{Option, Some, None, MatchOption, MatchBool}
use Rattle.ap_board.specs.declared.view.Cause.{Cause}
use Rattle.ap_board.specs.declared.view.Cause.TheVariants.{Free, Asked, Elsewhere}
use Rattle.ap_board.specs.declared.view.Kind.{Kind}
use Rattle.ap_board.specs.declared.view.Kind.TheVariants.{Open, Offer, Take, Reclaim, Stop, Finish, Look, Collect}
use Rattle.ap_board.specs.declared.view.View.{View}
use Rattle.ap_board.specs.History.{Role, nothing, keeps, out, has, after, noted, MayCause}
use Rattle.ap_board.specs.Rule.{role, logged, last_seen, taking_in}
use Rattle.ap_board.specs.Causes.{HasCause, noting, noting_all}
use Rattle.ap_board.specs.Seats.{Among, IsHeld, IsOwn, IsForeign, IsSeat}
use Rattle.ap_board.proofs.Keeps.{role_logged, on_other, last_noting}
use Rattle.ap_board.proofs.Places.{gave, got, same_seat_still}

module _ {P : Type 0} where
  held_noted : (t : Role P) (w : ℕ) → IsHeld t → IsHeld (noted t w)
  held_noted nothing w h = h
  held_noted (keeps r) w h = h
  held_noted (out r x) w h = h
  held_noted (has r x b) w h = h

  noted_held : (t : Role P) (w : ℕ) → IsHeld (noted t w) → IsHeld t
  noted_held nothing w h = h
  noted_held (keeps r) w h = h
  noted_held (out r x) w h = h
  noted_held (has r x b) w h = h

  own_noted : (t : Role P) (w n : ℕ) → IsOwn n t → IsOwn n (noted t w)
  own_noted nothing w n h = h
  own_noted (keeps r) w n h = h
  own_noted (out r x) w n h = h
  own_noted (has r x b) w n h = h

  foreign_noted : (t : Role P) (w : ℕ) → IsForeign t → IsForeign (noted t w)
  foreign_noted nothing w h = h
  foreign_noted (keeps r) w h = h
  foreign_noted (out r x) w h = h
  foreign_noted (has r x b) w h = h

  keeps_it : (t : Role P) (n : ℕ) → IsHeld t → IsOwn n t → t ≡ keeps n
  keeps_it nothing n h o = absurd h
  keeps_it (keeps r) n h o = ap keeps (sym o)
  keeps_it (out r x) n h o = absurd h
  keeps_it (has r x b) n h o = absurd o

module _ {P O : Type 0} where
  module _ (v : View P O) (order rounds : List ℕ) (first total : ℕ) (k : IsSeat v order rounds first total) where
    pub noted_seat : (p n : ℕ) → IsSeat (noting v p n) order rounds first total
    noted_seat p n = same_seat_still v p (n / 8) (Look n) order rounds first total k (held_noted (role v p) n) (noted_held (role v p) n) (own_noted (role v p) n) (foreign_noted (role v p) n)

    pub stopped_seat : (p q : ℕ) → IsSeat (logged v p q Stop) order rounds first total
    stopped_seat p q = same_seat_still v p q Stop order rounds first total k (λ h. h) (λ h. h) (λ n h. h) (λ h. h)

    pub own_range : (p q : ℕ) (x : P) → role v p ≡ out q x → (first ≤ p) × (p < first + length rounds)
    own_range p q x is = (
      dite (dec_le first p) (λ h. h) (λ n. absurd (subst IsForeign is (k.slots.foreign p (inl (lt_of_not-le n))))),
      dite (dec_le (first + length rounds) p) (λ h. absurd (subst IsForeign is (k.slots.foreign p (inr h)))) (λ n. lt_of_not-le n),
    )

    pub took_seat : (p q : ℕ) (x : P) → role v p ≡ nothing → p < total → IsSeat (logged v p q (Take x)) (p ∷ order) rounds first total
    took_seat p q x is less = got v p q (Take x) order rounds rounds first total k (λ h. subst IsHeld is h) tt less refl (λ i ne. refl)
        (λ i l e. absurd (subst (IsOwn (get_or rounds i 0)) (ap (role v) e ∙ is) (k.slots.own i l))) (λ f. tt)

    ended : (p q : ℕ) (x : P) (kind : Kind P O) → ((t : Role P) → after t q kind ≡ keeps (q + 1)) → role v p ≡ out q x → p < total → (rounds' : List ℕ) → rounds' ≡ set rounds (p - first) (q + 1) → IsSeat (logged v p q kind) (p ∷ order) rounds' first total
    ended p q x kind ends is less rounds' set_is =
        let r = own_range p q x is in let low : first ≤ p = r.0 in let high : p < first + length rounds = r.1 in
        subst (λ (l : List ℕ). IsSeat (logged v p q kind) (p ∷ order) l first total) (sym set_is)
        (got v p q kind order rounds (set rounds (p - first) (q + 1)) first total k (λ h. subst IsHeld is h) (subst IsHeld (sym (ends (role v p))) tt) less (length-set rounds (p - first) (q + 1))
        (λ i ne. get_or-set_other rounds (p - first) i (q + 1) 0 (λ e. ne (let f : i ≡ p - first = e in omega arith)))
        (λ i l e. let at : p - first ≡ i = omega arith in subst (λ (z : ℕ). IsOwn (get_or (set rounds z (q + 1)) i 0) (after (role v p) q kind)) (sym at)
        (subst (IsOwn (get_or (set rounds i (q + 1)) i 0)) (sym (ends (role v p))) (get_or-set_same rounds i (q + 1) 0 l)))
        (λ f. absurd (subst IsForeign is f)))

    pub reclaimed_seat : (p q : ℕ) (x : P) → role v p ≡ out q x → p < total → (rounds' : List ℕ) → rounds' ≡ set rounds (p - first) (q + 1) → IsSeat (logged v p q Reclaim) (p ∷ order) rounds' first total
    reclaimed_seat p q x is less rounds' set_is = ended p q x Reclaim (λ t. refl) is less rounds' set_is

    pub collected_seat : (p q : ℕ) (x : P) (y : O) → role v p ≡ out q x → p < total → (rounds' : List ℕ) → rounds' ≡ set rounds (p - first) (q + 1) → IsSeat (logged v p q (Collect y)) (p ∷ order) rounds' first total
    collected_seat p q x y is less rounds' set_is = ended p q x (Collect y) (λ t. refl) is less rounds' set_is

    -- a pad of its own that it holds is free
    pub free_here : (p j : ℕ) → Among p order → j < length rounds → p ≡ first + j → role v p ≡ keeps (get_or rounds j 0)
    free_here p j a l e = keeps_it (role v p) (get_or rounds j 0) (k.slots.holds p a) (subst (λ (z : ℕ). IsOwn (get_or rounds j 0) (role v z)) (sym e) (k.slots.own j l))

    pub none_free : ((i : ℕ) → i < length order → (j : ℕ) → j < length rounds → get_or order i 0 ≡ first + j → 2 ^ 60 ≤ get_or rounds j 0) → (p r : ℕ) → role v p ≡ keeps r → 2 ^ 60 ≤ r
    none_free all p r is =
        let a = at_among p order (k.slots.held p (subst IsHeld (sym is) tt)) in
        let low : first ≤ p = dite (dec_le first p) (λ h. h) (λ n. absurd (subst IsForeign is (k.slots.foreign p (inl (lt_of_not-le n))))) in
        let high : p < first + length rounds = dite (dec_le (first + length rounds) p) (λ h. absurd (subst IsForeign is (k.slots.foreign p (inr h)))) (λ n. lt_of_not-le n) in
        let j : ℕ = p - first in let e : p ≡ first + j = omega arith in let l : j < length rounds = omega arith in
        let own : get_or rounds j 0 ≡ r = subst (IsOwn (get_or rounds j 0)) is (subst (λ (z : ℕ). IsOwn (get_or rounds j 0) (role v z)) (sym e) (k.slots.own j l)) in
        subst (λ (z : ℕ). 2 ^ 60 ≤ z) own (all a.0 a.1 j l (a.2 ∙ e))
      where
        at_among : (z : ℕ) (xs : List ℕ) → Among z xs → (i : ℕ) × (i < length xs) × (get_or xs i 0 ≡ z)
        at_among z [] b = absurd b
        at_among z (x ∷ xs) (inl e) = (0, (omega arith), sym e)
        at_among z (x ∷ xs) (inr b) = let h = at_among z xs b in (suc h.0, (let g = h.1 in omega arith), h.2)

  pub offered_seat : (v : View P O) (order rounds : List ℕ) (first total p q : ℕ) (x : P) → IsSeat v (p ∷ order) rounds first total → role v p ≡ keeps q → IsSeat (logged v p q (Offer x)) order rounds first total
  offered_seat v order rounds first total p q x k is = gave v p q (Offer x) order rounds first total k (λ h. h) (λ n o. subst (IsOwn n) is o) (λ f. absurd (subst IsForeign is f))

  pub finished_seat : (v : View P O) (order rounds : List ℕ) (first total p q : ℕ) (x : P) (b : Bool) (y : O) → IsSeat v (p ∷ order) rounds first total → role v p ≡ has q x b → IsSeat (logged v p q (Finish y)) order rounds first total
  finished_seat v order rounds first total p q x b y k is = gave v p q (Finish y) order rounds first total k (λ h. h) (λ n o. absurd (subst (IsOwn n) is o)) (λ f. tt)

  pub may_from : (c : Cause) (v : View P O) (p : ℕ) (b : Bool) → HasCause c v p b → MayCause c b
  may_from Free v p b h = tt
  may_from Asked v p b h = h
  may_from Elsewhere v p b h = tt

-- the pads of one seat
pub own_pads : (p n k : ℕ) → 0 < k → (p / k ≡ n) ↔ ((n * k ≤ p) × (p < n * k + k))
own_pads p n k more = (
  (λ e. subst (λ (z : ℕ). (z * k ≤ p) × (p < z * k + k)) e (div-mul-le_self p k, lt-div-mul-add more)),
  (λ h. let low = h.0 in let high = h.1 in
      let a : p / k < suc n = (div-lt_iff_lt-mul {k = k} {x = p} {y = suc n} more).1 (omega (arith, suc-mul n k)) in
      let b : p / k < n → ⊥ = λ c. (let d : p < n * k = (div-lt_iff_lt-mul {k = k} {x = p} {y = n} more).0 c in absurd (omega arith)) in
      let d : n ≤ p / k = dite (dec_le n (p / k)) (λ y. y) (λ no. absurd (b (lt_of_not-le no))) in omega arith),
)

-- a pad among the seat's own ones
pub owned_at : {P O : Type 0} (v : View P O) (order rounds : List ℕ) (first total : ℕ) → IsSeat v order rounds first total → (p j : ℕ) → j < length rounds → p ≡ first + j → p / v.pads ≡ v.number
owned_at v order rounds first total k p j less at = let n : ℕ = v.number in let pads : ℕ = v.pads in let starts : first ≡ n * pads = k.starts in let count : length rounds ≡ pads = k.count in
    (own_pads p n pads k.some_pads).1 (omega (arith, at, starts), omega (arith, at, starts, count, less))

pub among_at : (xs : List ℕ) (i : ℕ) → i < length xs → Among (get_or xs i 0) xs
among_at [] i l = absurd (omega arith)
among_at (x ∷ xs) zero l = inl refl
among_at (x ∷ xs) (suc i) l = inr (among_at xs i (omega arith))

module _ {P O : Type 0} where
  pub fitted : (v w : View P O) (order order' rounds : List ℕ) (first t t' : ℕ) → v ≡ w → order ≡ order' → t ≡ t' → IsSeat w order' rounds first t' → IsSeat v order rounds first t
  fitted v w order order' rounds first t t' a b c k = subst (λ (z : View P O × List ℕ × ℕ). IsSeat z.0 z.1 rounds first z.2) (λ i. (sym a i, sym b i, sym c i)) k

  module _ (v : View P O) (order rounds : List ℕ) (first total : ℕ) (k : IsSeat v order rounds first total) where
    pub stop_either : {A : Type 0} (b : Bool) (p q n : ℕ) (w : View P O × A) (l : A) → MatchBool b (w ≡ (logged v p q Stop, l)) (w ≡ (noting v p n, l)) → IsSeat w.0 order rounds first total
    stop_either true p q n w l e = subst (λ (z : View P O). IsSeat z order rounds first total) (sym (ap (λ m. m.0) e)) (stopped_seat v order rounds first total k p q)
    stop_either false p q n w l e = subst (λ (z : View P O). IsSeat z order rounds first total) (sym (ap (λ m. m.0) e)) (noted_seat v order rounds first total k p n)

    pub take_either : (r : Option P) (p q a : ℕ) (w : View P O) (order' : List ℕ) → p < total
        → MatchOption r ((n : ℕ) × (n ≢ a) × (w ≡ noting v p n) × (order' ≡ order)) (λ x. (role v p ≡ nothing) × (w ≡ logged v p q (Take x)) × (order' ≡ p ∷ order)) → IsSeat w order' rounds first total
    take_either (Some x) p q a w order' less e = fitted w _ order' _ rounds first total total e.1 e.2 refl (took_seat v order rounds first total k p q x e.0 less)
    take_either None p q a w order' less e = fitted w _ order' _ rounds first total total e.2 e.3 refl (noted_seat v order rounds first total k p e.0)

  pub noting_more : (v : View P O) (p n : ℕ) (ns : List ℕ) → noting_all v p (ns ++ n ∷ []) ≡ noting (noting_all v p ns) p n
  noting_more v p n [] = refl
  noting_more v p n (m ∷ ms) = noting_more (noting v p m) p n ms

  pub looked_more : (p n : ℕ) (ns : List ℕ) (v w u : View P O) → w ≡ noting_all v p ns → u ≡ noting w p n → u ≡ noting_all v p (ns ++ n ∷ [])
  looked_more p n ns v w u e f = f ∙ ap (λ (z : View P O). noting z p n) e ∙ sym (noting_more v p n ns)

  pub looked_last : (p n : ℕ) (w u : View P O) (m : ℕ) → u ≡ noting w p n → n ≡ m → last_seen u p ≡ m
  looked_last p n w u m e f = ap (λ (z : View P O). last_seen z p) e ∙ last_noting w p n ∙ f

module _ {P O : Type 0} where
  -- the calls of another seat are added
  pub joined_seat : (v w : View P O) (order rounds : List ℕ) (first total : ℕ) → IsSeat v order rounds first total → IsSeat (taking_in v w) order rounds first total
  joined_seat v w order rounds first total k = record {
    slots = record { apart = k.slots.apart; below = k.slots.below; held = k.slots.held; holds = k.slots.holds; own = k.slots.own; foreign = k.slots.foreign; within = k.slots.within };
    some_pads = k.some_pads;
    starts = k.starts;
    count = k.count;
  }
