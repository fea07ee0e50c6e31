-- A seat whose pads are opened one by one.
use Rattle.std.proofs.Common.{◌≡◌, ◌≢◌, ◌⊎◌, ⊎_elim, inl, inr, ℕ, zero, suc, ◌+◌, ◌*◌, ◌/◌, ◌<◌, ◌≤◌, List, [], ◌∷◌, ◌++◌, length, get_or, replicate, refl, sym, ap, ◌∙◌, subst, arith, eqb, cond, eq-eqb, ne_eqb, lt_of_not-le}
use Rattle.std.proofs.lemmas.List.{append-nil}
use Rattle.std.proofs.lemmas.List.Elements.{All-nil, All-push}
use mathlib.Core.Logic.{dite}
use native.Mathlib.Decide.{ℕ_discrete, dec_le}
use Rattle.ap_board.specs.declared.view.Call.{Call}
use Rattle.ap_board.specs.declared.view.Kind.TheVariants.{Open}
use Rattle.ap_board.specs.declared.view.View.{View}
use Rattle.ap_board.specs.History.{on, Role, nothing, keeps, role_of}
use Rattle.ap_board.specs.Rule.{view_of, role, logged}
use Rattle.std.specs.Prelude.{All, Option}
use Rattle.atomic_table.specs.Seated.{TableId}
use Rattle.atomic_table.specs.declared.shared.Seat.{Seat}
use Rattle.ap_board.specs.declared.view.Content.{Content}
use Rattle.ap_board.specs.Rows.{made_by, seats_of, AreNext}
use Rattle.ap_board.specs.Seats.{Among, IsHeld, IsOwn, IsForeign, Holds, IsSeat, IsNewSeat, opens, seated}
use Rattle.ap_board.proofs.Histories.{on_longer, role_longer}
use Rattle.ap_board.proofs.Keeps.{role_logged, on_other}
use Rattle.ap_board.proofs.Openings.{noughts, zeros}
use Rattle.ap_board.proofs.Places.{logged_else, few}
use Rattle.ap_board.proofs.Sittings.{own_pads}

pub opened_role : (P O : Type 0) (first n p : ℕ) → (first ≤ p) × (p < first + n) → role_of nothing (on p (opens {P = P} {O = O} first n)) ≡ keeps 0
opened_role P O first zero p h = let a = h.0 in let b = h.1 in absurd (omega arith)
opened_role P O first (suc n) p h = let c : Call P O = record { pad = first + n; round = 0; kind = Open } in let cs = opens {P = P} {O = O} first n in dite (ℕ_discrete (first + n) p)
    (λ is. ap (role_of nothing) (on_longer p cs c ∙ (λ i. on p cs ++ cond (eq-eqb (first + n) p is i) (c ∷ []) [])) ∙ role_longer nothing (on p cs) c)
    (λ ne. ap (role_of nothing) (on_longer p cs c ∙ (λ i. on p cs ++ cond (ne_eqb (first + n) p ne i) (c ∷ []) []) ∙ append-nil (on p cs)) ∙ opened_role P O first n p (h.0, (let b = h.1 in omega arith)))

pub unopened_role : (P O : Type 0) (first n p : ℕ) → (p < first) ⊎ (first + n ≤ p) → role_of nothing (on p (opens {P = P} {O = O} first n)) ≡ nothing
unopened_role P O first zero p h = refl
unopened_role P O first (suc n) p h = let c : Call P O = record { pad = first + n; round = 0; kind = Open } in let cs = opens {P = P} {O = O} first n in
    let ne : first + n ≢ p = λ e. ⊎_elim (λ (b : p < first). absurd (omega arith)) (λ (b : first + suc n ≤ p). absurd (omega arith)) h in
    ap (role_of nothing) (on_longer p cs c ∙ (λ i. on p cs ++ cond (ne_eqb (first + n) p ne i) (c ∷ []) []) ∙ append-nil (on p cs))
    ∙ unopened_role P O first n p (⊎_elim (λ (b : p < first). inl b) (λ (b : first + suc n ≤ p). inr (omega arith)) h)

module _ {P O : Type 0} where
  pub opened_seat : (v : View P O) (order : List ℕ) (i first total : ℕ) → Holds v order (noughts i) first total → first + i < total → role v (first + i) ≡ nothing → Holds (logged v (first + i) 0 Open) ((first + i) ∷ order) (noughts (suc i)) first total
  opened_seat v order i first total k less un =
      let p : ℕ = first + i in let w = logged v p 0 Open in let now : role w p ≡ keeps 0 = role_logged v p 0 Open in let free : Among p order → ⊥ = λ a. subst IsHeld un (k.holds p a) in record {
        apart = (free, k.apart);
        below = λ z a. ⊎_elim (λ e. subst (λ (y : ℕ). y < total) (sym e) less) (k.below z) a;
        held = λ z h. dite (ℕ_discrete z p) (λ e. inl e) (λ ne. inr (k.held z (subst IsHeld (logged_else v p 0 Open z ne) h)));
        holds = λ z a. dite (ℕ_discrete z p) (λ e. subst (λ (y : ℕ). IsHeld (role w y)) (sym e) (subst IsHeld (sym now) tt))
            (λ ne. ⊎_elim (λ e. absurd (ne e)) (λ b. subst IsHeld (sym (logged_else v p 0 Open z ne)) (k.holds z b)) a);
        own = λ j l. dite (ℕ_discrete j i) (λ e. subst (λ (y : ℕ). IsOwn (get_or (noughts (suc i)) y 0) (role w (first + y))) (sym e) (subst (IsOwn (get_or (noughts (suc i)) i 0)) (sym now) (zeros (suc i) i)))
            (λ ne. let l' : j < i = let g = size (suc i) in omega arith in let at = k.own j (let g = size i in omega arith) in
            subst (λ (y : ℕ). IsOwn y (role w (first + j))) (zeros i j ∙ sym (zeros (suc i) j)) (subst (IsOwn (get_or (noughts i) j 0)) (sym (logged_else v p 0 Open (first + j) (λ e. ne (let g : first + j ≡ first + i = e in omega arith)))) at));
        foreign = λ z a. let ne : z ≢ p = λ e. ⊎_elim (λ b. (let c : z < first = b in absurd (omega arith))) (λ b. (let c : first + length (noughts (suc i)) ≤ z = b in let g = size (suc i) in absurd (omega arith))) a in
            subst IsForeign (sym (logged_else v p 0 Open z ne)) (k.foreign z (⊎_elim (λ b. inl b) (λ b. inr (let c : first + length (noughts (suc i)) ≤ z = b in let g = size (suc i) in let h = size i in omega arith)) a));
        within = let g = size (suc i) in omega arith;
      }
    where
      size : (n : ℕ) → length (noughts n) ≡ n
      size zero = refl
      size (suc n) = ap suc (size n)

  pub nothing_yet : (v : View P O) → v.calls ≡ [] → (p : ℕ) → role v p ≡ nothing
  nothing_yet v empty p = ap (λ cs. role_of nothing (on p cs)) empty

  pub newly_sat : (v : View P O) (first total : ℕ) → first ≤ total → v.calls ≡ [] → Holds v [] (noughts 0) first total
  newly_sat v first total le empty = record {
    apart = tt;
    below = λ p a. absurd a;
    held = λ p h. subst IsHeld (nothing_yet v empty p) h;
    holds = λ p a. absurd a;
    own = λ i l. absurd (omega arith);
    foreign = λ p a. subst IsForeign (sym (nothing_yet v empty p)) tt;
    within = (omega arith);
  }

  pub opened_next : (v w : View P O) (order order' : List ℕ) (i j first total : ℕ) → Holds v order (noughts i) first total → first + i < total → role v (first + i) ≡ nothing → w ≡ logged v (first + i) 0 Open → order' ≡ (first + i) ∷ order → j ≡ suc i → Holds w order' (noughts j) first total
  opened_next v w order order' i j first total k less un a b c = subst (λ (z : View P O × List ℕ × ℕ). Holds z.0 z.1 (noughts z.2) first total) (λ e. (sym a e, sym b e, sym c e)) (opened_seat v order i first total k less un)

  -- there is room for one more
  pub room_for : (v : View P O) (order rounds : List ℕ) (first total p : ℕ) → Holds v order rounds first total → p < total → (IsHeld (role v p) → ⊥) → length order < total
  room_for v order rounds first total p k less free = let h = few total (p ∷ order) ((λ a. free (k.holds p a)), k.apart) (λ z a. ⊎_elim (λ e. subst (λ (y : ℕ). y < total) (sym e) less) (k.below z) a) in omega arith

  pub all_open : (v : View P O) (order : List ℕ) (first total n : ℕ) → Holds v order (noughts n) first total → 0 < n → v.pads ≡ n → first ≡ v.number * n → IsSeat v order (noughts n) first total
  all_open v order first total n k more e f = record {
    slots = k;
    some_pads = subst (λ (z : ℕ). 0 < z) (sym e) more;
    starts = f ∙ ap (λ (z : ℕ). v.number * z) (sym e);
    count = size n ∙ sym e;
  }
    where
      size : (m : ℕ) → length (noughts m) ≡ m
      size zero = refl
      size (suc m) = ap suc (size m)

  pub new_seat : (pads n made : ℕ) → 0 < pads → IsNewSeat pads n (seated {P = P} {O = O} n pads made)
  new_seat pads n made more = record {
    own = λ p e. opened_role P O (n * pads) pads p ((own_pads p n pads more).0 e);
    foreign = λ p ne. unopened_role P O (n * pads) pads p (dite (dec_le (n * pads) p)
        (λ a. inr (dite (dec_le (n * pads + pads) p) (λ b. b) (λ b. absurd (ne ((own_pads p n pads more).1 (a, lt_of_not-le b))))))
        (λ a. inl (lt_of_not-le a)));
  }

module _ {P O : Type 0} where
  -- each seat of a new board has its own pads, and no others
  pub all_new : (z : TableId) (workers pads n : ℕ) → 0 < pads → All (λ (s : TableId × View P O). IsNewSeat pads s.1.number s.1) (seats_of z workers pads n)
  all_new z workers pads zero more = All-nil (λ (s : TableId × View P O). IsNewSeat pads s.1.number s.1)
  all_new z workers pads (suc n) more = All-push (λ (s : TableId × View P O). IsNewSeat pads s.1.number s.1) (seats_of z workers pads n) _ (all_new z workers pads n more) (new_seat pads n (made_by n workers) more)

  pub all_there : (z : TableId) (workers pads n : ℕ) → All (λ (s : TableId × View P O). s.0 ≡ z) (seats_of z workers pads n)
  all_there z workers pads zero = All-nil (λ (s : TableId × View P O). s.0 ≡ z)
  all_there z workers pads (suc n) = All-push (λ (s : TableId × View P O). s.0 ≡ z) (seats_of z workers pads n) _ (all_there z workers pads n) refl

  pub next_snoc : (z : TableId) (pads n : ℕ) (ss : List (Seat (Option (Content P O)) (View P O))) (s : Seat (Option (Content P O)) (View P O)) → AreNext z pads n ss → s.table_id ≡ z → s.me ≡ (view_of (n + length ss) pads 0 [] [], []) → AreNext z pads n (ss ++ s ∷ [])
  next_snoc z pads n [] s a t e = (t, e ∙ ap (λ (m : ℕ). (view_of m pads 0 [] [], [])) (let g : n + 0 ≡ n = omega arith in g), tt)
  next_snoc z pads n (x ∷ xs) s a t e = (a.0, a.1, next_snoc z pads (suc n) xs s a.2 t (e ∙ ap (λ (m : ℕ). (view_of m pads 0 [] [], [])) (let g : n + suc (length xs) ≡ suc n + length xs = omega arith in g)))

pub made_later : (i workers : ℕ) → 0 < i → made_by i workers ≡ 0
made_later zero workers less = absurd (omega arith)
made_later (suc i) workers less = refl
