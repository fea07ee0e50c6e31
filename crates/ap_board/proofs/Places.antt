-- A seat's slots and rounds, after each call.
use Rattle.std.proofs.Common.{◌≡◌, ◌≢◌, ◌⊎◌, ⊎_elim, inl, inr, ℕ, zero, suc, ◌+◌, ◌-◌, ◌*◌, ◌<◌, ◌≤◌, eqb, cond, Bool, true, false, eq-eqb, ne_eqb, List, [], ◌∷◌, ◌++◌, length, get_or, set, refl, sym, ap, ◌∙◌, subst, arith, lt_of_not-le, length-set, get_or-set_same, get_or-set_other}
use mathlib.Core.Logic.{dite}
use native.Mathlib.Decide.{ℕ_discrete, dec_le}
use Rattle.std.specs.Prelude.{Option, None}
use Rattle.atomic_table.specs.Table.{turned}
use Rattle.ap_board.specs.declared.view.Content.{Content}
use Rattle.ap_board.specs.declared.view.Kind.{Kind}
use Rattle.ap_board.specs.declared.view.View.{View}
use Rattle.ap_board.specs.History.{Role, nothing, keeps, out, has, after, role_of}
use Rattle.ap_board.specs.Rule.{role, logged}
use Rattle.ap_board.specs.Seats.{bare, Among, Apart, IsHeld, IsOwn, IsForeign, IsSeat}
use Rattle.ap_board.proofs.Keeps.{role_logged, on_other}

pub bare_append : {P O : Type 0} (xs ys : List ℕ) → bare {P = P} {O = O} (xs ++ ys) ≡ bare xs ++ bare ys
bare_append [] ys = refl
bare_append (x ∷ xs) ys = λ i. (x, None) ∷ bare_append xs ys i

among_append : (p : ℕ) (xs ys : List ℕ) → Among p (xs ++ ys) → Among p xs ⊎ Among p ys
among_append p [] ys a = inr a
among_append p (x ∷ xs) ys (inl e) = inl (inl e)
among_append p (x ∷ xs) ys (inr a) = ⊎_elim (λ b. inl (inr b)) (λ b. inr b) (among_append p xs ys a)

among_left : (p : ℕ) (xs ys : List ℕ) → Among p xs → Among p (xs ++ ys)
among_left p [] ys a = absurd a
among_left p (x ∷ xs) ys (inl e) = inl e
among_left p (x ∷ xs) ys (inr a) = inr (among_left p xs ys a)

among_right : (p : ℕ) (xs ys : List ℕ) → Among p ys → Among p (xs ++ ys)
among_right p [] ys a = a
among_right p (x ∷ xs) ys a = inr (among_right p xs ys a)

-- the first number goes behind the others
pub around : (p x : ℕ) (xs : List ℕ) → Among p (x ∷ xs) → Among p (xs ++ x ∷ [])
around p x xs (inl e) = among_right p xs (x ∷ []) (inl e)
around p x xs (inr a) = among_left p xs (x ∷ []) a

pub back : (p x : ℕ) (xs : List ℕ) → Among p (xs ++ x ∷ []) → Among p (x ∷ xs)
back p x xs a = ⊎_elim (λ b. inr b) (λ b. ⊎_elim (λ e. inl e) (λ c. absurd c) b) (among_append p xs (x ∷ []) a)

apart_snoc : (x : ℕ) (xs : List ℕ) → Apart xs → (Among x xs → ⊥) → Apart (xs ++ x ∷ [])
apart_snoc x [] a n = ((λ z. z), tt)
apart_snoc x (y ∷ ys) a n = ((λ b. ⊎_elim a.0 (λ c. ⊎_elim (λ e. n (inl (sym e))) (λ d. d) c) (among_append y ys (x ∷ []) b)), apart_snoc x ys a.1 (λ b. n (inr b)))

remove : (n : ℕ) (xs : List ℕ) → Apart xs → (ys : List ℕ) × Apart ys × ((p : ℕ) → Among p ys → Among p xs × (p ≢ n)) × (length xs ≤ suc (length ys))
remove n [] a = ([], tt, (λ p b. absurd b), omega arith)
remove n (x ∷ xs) a = dite (ℕ_discrete x n)
    (λ e. (xs, a.1, (λ p b. (inr b, λ f. a.0 (subst (λ (z : ℕ). Among z xs) (f ∙ sym e) b))), omega arith))
    (λ ne. let r = remove n xs a.1 in (x ∷ r.0, ((λ b. a.0 (r.2 x b).0), r.1), (λ p b. ⊎_elim (λ e. (inl e, λ f. ne (sym e ∙ f))) (λ c. (inr (r.2 p c).0, (r.2 p c).1)) b), (let h = r.3 in omega arith)))

-- numbers below n that are apart are n at most
pub few : (n : ℕ) (xs : List ℕ) → Apart xs → ((p : ℕ) → Among p xs → p < n) → length xs ≤ n
few zero [] a b = omega arith
few zero (x ∷ xs) a b = let h = b x (inl refl) in absurd (omega arith)
few (suc n) xs a b = let r = remove n xs a in let h : length r.0 ≤ n = few n r.0 r.1 (λ p c. let k = b p (r.2 p c).0 in let ne = (r.2 p c).1 in omega arith) in let g = r.3 in omega arith

module _ {P O : Type 0} where
  -- the seat after a call on the pad p
  pub seat_moved : (v w : View P O) (p : ℕ) → (w.number ≡ v.number) × (w.pads ≡ v.pads) → ((z : ℕ) → z ≢ p → role w z ≡ role v z) → (order rounds : List ℕ) (first total : ℕ) → IsSeat v order rounds first total → (order' rounds' : List ℕ)
      → Apart order' → ((z : ℕ) → z ≢ p → Among z order' → Among z order) → ((z : ℕ) → z ≢ p → Among z order → Among z order') → (IsHeld (role w p) → Among p order') → (Among p order' → IsHeld (role w p) × (p < total))
      → length rounds' ≡ length rounds → ((i : ℕ) → first + i ≢ p → get_or rounds' i 0 ≡ get_or rounds i 0) → ((i : ℕ) → i < length rounds → first + i ≡ p → IsOwn (get_or rounds' i 0) (role w p)) → (IsForeign (role v p) → IsForeign (role w p))
      → IsSeat w order' rounds' first total
  seat_moved v w p who same order rounds first total k order' rounds' apart back' forth gets is long else mine abroad = record {
    slots = record {
      apart = apart;
      below = λ z a. dite (ℕ_discrete z p) (λ e. subst (λ (y : ℕ). y < total) (sym e) (is (subst (λ (y : ℕ). Among y order') e a)).1) (λ ne. k.slots.below z (back' z ne a));
      held = λ z h. dite (ℕ_discrete z p) (λ e. subst (λ (y : ℕ). Among y order') (sym e) (gets (subst (λ (y : ℕ). IsHeld (role w y)) e h))) (λ ne. forth z ne (k.slots.held z (subst IsHeld (same z ne) h)));
      holds = λ z a. dite (ℕ_discrete z p) (λ e. subst (λ (y : ℕ). IsHeld (role w y)) (sym e) (is (subst (λ (y : ℕ). Among y order') e a)).0) (λ ne. subst IsHeld (sym (same z ne)) (k.slots.holds z (back' z ne a)));
      own = λ i less. let less' : i < length rounds = subst (λ (y : ℕ). i < y) long less in dite (ℕ_discrete (first + i) p) (λ e. subst (λ (y : ℕ). IsOwn (get_or rounds' i 0) (role w y)) (sym e) (mine i less' e))
          (λ ne. subst (λ (y : ℕ). IsOwn y (role w (first + i))) (sym (else i ne)) (subst (IsOwn (get_or rounds i 0)) (sym (same (first + i) ne)) (k.slots.own i less')));
      foreign = λ z a. let a' : (z < first) ⊎ (first + length rounds ≤ z) = subst (λ (y : ℕ). (z < first) ⊎ (first + y ≤ z)) long a in dite (ℕ_discrete z p)
          (λ e. subst (λ (y : ℕ). IsForeign (role w y)) (sym e) (abroad (subst (λ (y : ℕ). IsForeign (role v y)) e (k.slots.foreign z a'))))
          (λ ne. subst IsForeign (sym (same z ne)) (k.slots.foreign z a'));
      within = let h = k.slots.within in subst (λ (y : ℕ). first + y ≤ total) (sym long) h;
    };
    some_pads = subst (λ (y : ℕ). 0 < y) (sym who.1) k.some_pads;
    starts = k.starts ∙ (λ i. sym who.0 i * sym who.1 i);
    count = long ∙ k.count ∙ sym who.1;
  }

  pub logged_else : (v : View P O) (p q : ℕ) (kind : Kind P O) (z : ℕ) → z ≢ p → role (logged v p q kind) z ≡ role v z
  logged_else v p q kind z ne = ap (role_of nothing) (on_other v p q z kind (λ e. ne (sym e)))

  -- the seat has the slot no more
  pub gave : (v : View P O) (p q : ℕ) (kind : Kind P O) (order rounds : List ℕ) (first total : ℕ) → IsSeat v (p ∷ order) rounds first total → (IsHeld (after (role v p) q kind) → ⊥)
      → ((n : ℕ) → IsOwn n (role v p) → IsOwn n (after (role v p) q kind)) → (IsForeign (role v p) → IsForeign (after (role v p) q kind)) → IsSeat (logged v p q kind) order rounds first total
  gave v p q kind order rounds first total k free own abroad = let is = role_logged v p q kind in
      seat_moved v (logged v p q kind) p (refl, refl) (logged_else v p q kind) (p ∷ order) rounds first total k order rounds k.slots.apart.1 (λ z ne a. inr a) (λ z ne a. ⊎_elim (λ e. absurd (ne e)) (λ b. b) a)
      (λ h. absurd (free (subst IsHeld is h))) (λ a. absurd (k.slots.apart.0 a)) refl (λ i ne. refl)
      (λ i less e. subst (IsOwn (get_or rounds i 0)) (sym is) (own (get_or rounds i 0) (subst (λ (y : ℕ). IsOwn (get_or rounds i 0) (role v y)) e (k.slots.own i less)))) (λ f. subst IsForeign (sym is) (abroad f))

  -- the seat has the slot from now on
  pub got : (v : View P O) (p q : ℕ) (kind : Kind P O) (order rounds rounds' : List ℕ) (first total : ℕ) → IsSeat v order rounds first total → (IsHeld (role v p) → ⊥) → IsHeld (after (role v p) q kind) → p < total
      → length rounds' ≡ length rounds → ((i : ℕ) → first + i ≢ p → get_or rounds' i 0 ≡ get_or rounds i 0) → ((i : ℕ) → i < length rounds → first + i ≡ p → IsOwn (get_or rounds' i 0) (after (role v p) q kind))
      → (IsForeign (role v p) → IsForeign (after (role v p) q kind)) → IsSeat (logged v p q kind) (p ∷ order) rounds' first total
  got v p q kind order rounds rounds' first total k free now less long else own abroad = let is = role_logged v p q kind in
      seat_moved v (logged v p q kind) p (refl, refl) (logged_else v p q kind) order rounds first total k (p ∷ order) rounds' ((λ a. free (k.slots.holds p a)), k.slots.apart) (λ z ne a. ⊎_elim (λ e. absurd (ne e)) (λ b. b) a) (λ z ne a. inr a)
      (λ h. inl refl) (λ a. (subst IsHeld (sym is) now, less)) long else (λ i l e. subst (IsOwn (get_or rounds' i 0)) (sym is) (own i l e)) (λ f. subst IsForeign (sym is) (abroad f))

  -- nothing changes but what the seat has noted
  pub same_seat_still : (v : View P O) (p q : ℕ) (kind : Kind P O) (order rounds : List ℕ) (first total : ℕ) → IsSeat v order rounds first total → (IsHeld (role v p) → IsHeld (after (role v p) q kind)) → (IsHeld (after (role v p) q kind) → IsHeld (role v p))
      → ((n : ℕ) → IsOwn n (role v p) → IsOwn n (after (role v p) q kind)) → (IsForeign (role v p) → IsForeign (after (role v p) q kind)) → IsSeat (logged v p q kind) order rounds first total
  same_seat_still v p q kind order rounds first total k a b own abroad = let is = role_logged v p q kind in
      seat_moved v (logged v p q kind) p (refl, refl) (logged_else v p q kind) order rounds first total k order rounds k.slots.apart (λ z ne c. c) (λ z ne c. c)
      (λ h. k.slots.held p (b (subst IsHeld is h))) (λ c. (subst IsHeld (sym is) (a (k.slots.holds p c)), k.slots.below p c)) refl (λ i ne. refl)
      (λ i less e. subst (IsOwn (get_or rounds i 0)) (sym is) (own (get_or rounds i 0) (subst (λ (y : ℕ). IsOwn (get_or rounds i 0) (role v y)) e (k.slots.own i less)))) (λ f. subst IsForeign (sym is) (abroad f))

  pub turned_seat : (v : View P O) (p : ℕ) (order rounds : List ℕ) (first total : ℕ) → IsSeat v (p ∷ order) rounds first total → IsSeat v (order ++ p ∷ []) rounds first total
  turned_seat v p order rounds first total k = record {
    slots = record {
      apart = apart_snoc p order k.slots.apart.1 k.slots.apart.0;
      below = λ z a. k.slots.below z (back z p order a);
      held = λ z h. around z p order (k.slots.held z h);
      holds = λ z a. k.slots.holds z (back z p order a);
      own = k.slots.own;
      foreign = k.slots.foreign;
      within = k.slots.within;
    };
    some_pads = k.some_pads;
    starts = k.starts;
    count = k.count;
  }

-- where a number stands
abbrev pub place_in : ℕ → List ℕ → ℕ
place_in p [] = 0
place_in p (x ∷ xs) = cond (eqb x p) 0 (suc (place_in p xs))

in_front : (p : ℕ) (xs ys : List ℕ) → Among p xs → place_in p (xs ++ ys) ≡ place_in p xs
in_front p [] ys a = absurd a
in_front p (x ∷ xs) ys a = dite (ℕ_discrete x p)
    (λ e. let t = eq-eqb x p e in (λ i. cond (t i) 0 (suc (place_in p (xs ++ ys)))) ∙ (λ i. cond (sym t i) 0 (suc (place_in p xs))))
    (λ ne. ⊎_elim (λ e. absurd (ne (sym e))) (λ b. (λ i. cond (eqb x p) 0 (suc (in_front p xs ys b i)))) a)

pub nearer : (old new : List ℕ) (q p : ℕ) (ps : List ℕ) → old ≡ q ∷ ps → new ≡ ps ++ q ∷ [] → q ≢ p → Among p old → place_in p new < place_in p old
nearer old new q p ps e f ne a =
    let b : Among p ps = ⊎_elim (λ z. absurd (ne (sym z))) (λ z. z) (subst (Among p) e a) in
    let l : place_in p old ≡ suc (place_in p ps) = ap (place_in p) e ∙ (λ i. cond (ne_eqb q p ne i) 0 (suc (place_in p ps))) in
    let r : place_in p new ≡ place_in p ps = ap (place_in p) f ∙ in_front p ps (q ∷ []) b in
    omega arith

pub still_among : (old new : List ℕ) (q p : ℕ) (ps : List ℕ) → old ≡ q ∷ ps → new ≡ ps ++ q ∷ [] → Among p old → Among p new
still_among old new q p ps e f a = subst (Among p) (sym f) (around p q ps (subst (Among p) e a))

pub turned_bare : {P O : Type 0} (p : ℕ) (ps : List ℕ) → turned (bare {P = P} {O = O} (p ∷ ps)) ≡ bare (ps ++ p ∷ [])
turned_bare p ps = sym (bare_append ps (p ∷ []))

-- there is room for one more
pub space_for : {P O : Type 0} (v : View P O) (order rounds : List ℕ) (first total p : ℕ) → IsSeat v order rounds first total → p < total → (IsHeld (role v p) → ⊥) → length order < total
space_for v order rounds first total p k less free = let h = few total (p ∷ order) ((λ a. free (k.slots.holds p a)), k.slots.apart) (λ z a. ⊎_elim (λ e. subst (λ (y : ℕ). y < total) (sym e) less) (k.slots.below z) a) in omega arith
