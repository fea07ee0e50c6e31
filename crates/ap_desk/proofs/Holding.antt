-- Each call keeps the tickets true of the seat's view.
use Rattle.std.proofs.Common.{◌≡◌, ◌≢◌, ◌⊎◌, ⊎_elim, inl, inr, ℕ, ◌+◌, ◌*◌, ◌/◌, ◌==◌, ◌||◌, ◌<◌, Bool, true, false, List, [], ◌∷◌, ◌++◌, length, slice_get, Some, None, refl, sym, ap, ◌∙◌, subst, eq-eqb, arith}
use Rattle.std.specs.Prelude.{Option}
use Rattle.std.proofs.lemmas.Option.{none-some}
use Rattle.std.proofs.Math.Bool.{or-true}
use mathlib.Core.Logic.{dite}
use native.Mathlib.Decide.{ℕ_discrete}
use Rattle.ap_board.specs.declared.ticket.Ticket.{Ticket}
use Rattle.ap_board.specs.declared.view.View.{View}
use Rattle.ap_board.specs.declared.view.Kind.{Kind}
use Rattle.ap_board.specs.declared.view.Kind.TheVariants.{Take, Finish, Look}
use Rattle.ap_board.specs.declared.view.Cause.{Cause}
use Rattle.ap_board.specs.declared.view.Cause.TheVariants.{Free, Asked, Elsewhere}
use Rattle.ap_board.specs.History.{Role, nothing, keeps, out, has, noted, after, role_of}
use Rattle.ap_board.specs.Rule.{logged, role}
use Rattle.ap_board.specs.Causes.{noting, HasCause}
use Rattle.ap_board.proofs.Keeps.{role_logged, on_other}
use Rattle.ap_desk.specs.Held.{Holding, AreHeld, WasAsked, IsFound, IsCauseAt, KeptBelow}
use Rattle.ap_desk.specs.Offered.{taken_of}
use Rattle.ap_desk.proofs.Rows.{at_below, at_longer, at_last, there_or_last, same_at}

module _ {P : Type 0} where
  abbrev IsHas : Role P → Type 0
  IsHas nothing = ⊥
  IsHas (keeps r) = ⊥
  IsHas (out r x) = ⊥
  IsHas (has r x b) = Unit {0}

  nothing_has : (r : ℕ) (x : P) (b : Bool) → nothing ≡ has r x b → ⊥
  nothing_has r x b e = subst IsHas (sym e) tt

  -- what was held before a look
  held_before : (s : Role P) (n r : ℕ) (x : P) (b : Bool) → noted s n ≡ has r x b → (c : Bool) × (s ≡ has r x c)
  held_before nothing n r x b e = absurd (subst IsHas (sym e) tt)
  held_before (keeps q) n r x b e = absurd (subst IsHas (sym e) tt)
  held_before (out q y) n r x b e = absurd (subst IsHas (sym e) tt)
  held_before (has q y c) n r x b e = (c, (λ i. has (round_of (e i)) (parcel_of (e i)) c))
    where
      round_of : Role P → ℕ
      round_of nothing = q
      round_of (keeps k) = q
      round_of (out k z) = q
      round_of (has k z d) = k

      parcel_of : Role P → P
      parcel_of nothing = y
      parcel_of (keeps k) = y
      parcel_of (out k z) = y
      parcel_of (has k z d) = z

  abbrev asked_of : Role P → Bool
  asked_of nothing = true
  asked_of (keeps k) = true
  asked_of (out k z) = true
  asked_of (has k z d) = d

module _ {P O : Type 0} where
  pub role_other : (v : View P O) (p q z : ℕ) (kind : Kind P O) → z ≢ p → role (logged v p q kind) z ≡ role v z
  role_other v p q z kind ne = ap (role_of nothing) (on_other v p q z kind (λ e. ne (sym e)))

  -- a look changes a role by what it found, or not at all
  pub looked_at : (v : View P O) (p n z : ℕ) → (role (noting v p n) z ≡ noted (role v z) n) ⊎ (role (noting v p n) z ≡ role v z)
  looked_at v p n z = dite (ℕ_discrete z p)
      (λ (is : z ≡ p). inl (subst (λ (y : ℕ). role (noting v p n) y ≡ noted (role v y) n) (sym is) (role_logged v p (n / 8) (Look n))))
      (λ (ne : z ≢ p). inr (role_other v p (n / 8) z (Look n) ne))

  still_held : (v : View P O) (p n z r : ℕ) (x : P) (b : Bool) → role v z ≡ has r x b → (c : Bool) × (role (noting v p n) z ≡ has r x c) × (b ≡ true → c ≡ true)
  still_held v p n z r x b e = ⊎_elim
      (λ (l : role (noting v p n) z ≡ noted (role v z) n). (_, l ∙ ap (λ s. noted s n) e, (λ is. ap (λ c. c || (n == r * 8 + 3)) is)))
      (λ (o : role (noting v p n) z ≡ role v z). (b, o ∙ e, (λ is. is)))
      (looked_at v p n z)

  was_held : (v : View P O) (p n z r : ℕ) (x : P) (b : Bool) → role (noting v p n) z ≡ has r x b → (c : Bool) × (role v z ≡ has r x c)
  was_held v p n z r x b e = ⊎_elim
      (λ (l : role (noting v p n) z ≡ noted (role v z) n). held_before (role v z) n r x b (sym l ∙ e))
      (λ (o : role (noting v p n) z ≡ role v z). (b, sym o ∙ e))
      (looked_at v p n z)

  pub noting_held : (v : View P O) (slots : ℕ) (ts : List Ticket) (p n : ℕ) → AreHeld v slots ts → AreHeld (noting v p n) slots ts
  noting_held v slots ts p n k = record {
    below = k.below;
    held = λ i t e. let h = k.held i t e in let s = still_held v p n t.pad t.round h.0 h.1 h.2 in (h.0, s.0, s.1);
    apart = k.apart;
    all = λ z r x b e. let w = was_held v p n z r x b e in k.all z r x w.0 w.1;
  }

  pub noting_found : (v : View P O) (ts : List Ticket) (p n : ℕ) (a : Option ℕ) → IsFound v ts a → IsFound (noting v p n) ts a
  noting_found v ts p n None f = tt
  noting_found v ts p n (Some i) f = let s = still_held v p n (f.0).pad (f.0).round f.1 true f.3 in (f.0, f.1, f.2, s.1 ∙ ap (λ c. has (f.0).round f.1 c) (s.2 refl))

  -- a look that found the word of a taker that was asked to stop
  pub finds_asked : (v : View P O) (slots : ℕ) (ts : List Ticket) (i : ℕ) (t : Ticket) → AreHeld v slots ts → slice_get ts i ≡ Some t → WasAsked (noting v t.pad (t.round * 8 + 3)) ts i
  finds_asked v slots ts i t k at = let h = k.held i t at in let n : ℕ = t.round * 8 + 3 in (
    t,
    h.0,
    at,
    role_logged v t.pad (n / 8) (Look n) ∙ ap (λ s. noted s n) h.2 ∙ ap (λ c. has t.round h.0 (h.1 || c)) (eq-eqb n n refl) ∙ ap (λ c. has t.round h.0 c) (or-true h.1),
  )

  -- a goal that was taken is on another pad than one on which none was
  pub not_taken : (v : View P O) (p z r : ℕ) (x : P) (b : Bool) → taken_of (role v p) ≡ None → role v z ≡ has r x b → z ≢ p
  not_taken v p z r x b none e is = none-some x (sym none ∙ ap (λ y. taken_of (role v y)) (sym is) ∙ ap taken_of e)

  -- a goal was taken on a pad to which the seat was nothing
  pub takes_held : (v : View P O) (slots : ℕ) (ts : List Ticket) (t : Ticket) (x : P) → AreHeld v slots ts → t.pad < slots → role v t.pad ≡ nothing → AreHeld (logged v t.pad t.round (Take x)) slots (ts ++ t ∷ [])
  takes_held v slots ts t x k lt none = record {
    below = λ i u e. ⊎_elim (λ a. k.below i u a) (λ b. subst (λ (y : Ticket). y.pad < slots) b.1 lt) (there_or_last ts t i u e);
    held = λ i u e. ⊎_elim (λ a. let h = k.held i u a in (h.0, h.1, role_other v t.pad t.round u.pad (Take x) (fresh i u a) ∙ h.2)) (λ b. subst (λ (y : Ticket). Holding w y) b.1 mine) (there_or_last ts t i u e);
    apart = λ i j a b e f same. ⊎_elim
        (λ l. ⊎_elim (λ m. k.apart i j a b l m same) (λ m. absurd (fresh i a l (same ∙ ap (λ (y : Ticket). y.pad) (sym m.1)))) (there_or_last ts t j b f))
        (λ l. ⊎_elim (λ m. absurd (fresh j b m (sym same ∙ ap (λ (y : Ticket). y.pad) (sym l.1)))) (λ m. l.0 ∙ sym m.0) (there_or_last ts t j b f))
        (there_or_last ts t i a e);
    all = λ p r y b e. dite (ℕ_discrete p t.pad)
        (λ (is : p ≡ t.pad). (length ts, t, at_last ts t, sym is))
        (λ (ne : p ≢ t.pad). let a = k.all p r y b (sym (role_other v t.pad t.round p (Take x) ne) ∙ e) in (a.0, a.1, at_longer ts t a.0 a.1 a.2, a.3));
  }
    where
      w : View P O
      w = logged v t.pad t.round (Take x)

      mine : Holding w t
      mine = (x, false, role_logged v t.pad t.round (Take x))

      fresh : (i : ℕ) (u : Ticket) → slice_get ts i ≡ Some u → u.pad ≢ t.pad
      fresh i u e same = let h = k.held i u e in nothing_has u.round h.0 h.1 (sym none ∙ ap (role v) (sym same) ∙ h.2)

  pub takes_found : (v : View P O) (ts : List Ticket) (t : Ticket) (x : P) (a : Option ℕ) → role v t.pad ≡ nothing → IsFound v ts a → IsFound (logged v t.pad t.round (Take x)) (ts ++ t ∷ []) a
  takes_found v ts t x None none f = tt
  takes_found v ts t x (Some i) none f = (f.0, f.1, at_longer ts t i f.0 f.2, role_other v t.pad t.round (f.0).pad (Take x) (λ same. nothing_has (f.0).round f.1 true (sym none ∙ ap (role v) (sym same) ∙ f.3)) ∙ f.3)

  -- a call on a pad on which no goal of another was taken, and none is now
  pub elsewhere_held : (v : View P O) (slots : ℕ) (ts : List Ticket) (p q : ℕ) (kind : Kind P O) → AreHeld v slots ts → taken_of (role v p) ≡ None → taken_of (after (role v p) q kind) ≡ None → AreHeld (logged v p q kind) slots ts
  elsewhere_held v slots ts p q kind k none still = record {
    below = k.below;
    held = λ i t e. let h = k.held i t e in (h.0, h.1, role_other v p q t.pad kind (not_taken v p t.pad t.round h.0 h.1 none h.2) ∙ h.2);
    apart = k.apart;
    all = λ z r x b e. dite (ℕ_discrete z p)
        (λ (is : z ≡ p). absurd (not_taken (logged v p q kind) p z r x b (ap taken_of (role_logged v p q kind) ∙ still) e is))
        (λ (ne : z ≢ p). k.all z r x b (sym (role_other v p q z kind ne) ∙ e));
  }

  pub elsewhere_found : (v : View P O) (ts : List Ticket) (p q : ℕ) (kind : Kind P O) (a : Option ℕ) → IsFound v ts a → taken_of (role v p) ≡ None → IsFound (logged v p q kind) ts a
  elsewhere_found v ts p q kind None f none = tt
  elsewhere_found v ts p q kind (Some i) f none = (f.0, f.1, f.2, role_other v p q (f.0).pad kind (not_taken v p (f.0).pad (f.0).round f.1 true none f.3) ∙ f.3)

  -- an older goal is on another pad than the last
  pub older : (v : View P O) (slots : ℕ) (ts : List Ticket) (t : Ticket) → AreHeld v slots (ts ++ t ∷ []) → (i : ℕ) (u : Ticket) → slice_get ts i ≡ Some u → u.pad ≢ t.pad
  older v slots ts t k i u e same = let l = at_below ts i u e in let is = k.apart i (length ts) u t (at_longer ts t i u e) (at_last ts t) same in omega (arith, l, is)

  -- the outcome of the last was given
  pub ends_held : (v : View P O) (slots : ℕ) (ts : List Ticket) (t : Ticket) (y : O) → AreHeld v slots (ts ++ t ∷ []) → AreHeld (logged v t.pad t.round (Finish y)) slots ts
  ends_held v slots ts t y k = record {
    below = λ i u e. k.below i u (at_longer ts t i u e);
    held = λ i u e. let h = k.held i u (at_longer ts t i u e) in (h.0, h.1, role_other v t.pad t.round u.pad (Finish y) (older v slots ts t k i u e) ∙ h.2);
    apart = λ i j a b e f same. k.apart i j a b (at_longer ts t i a e) (at_longer ts t j b f) same;
    all = λ p r x b e. dite (ℕ_discrete p t.pad)
        (λ (is : p ≡ t.pad). absurd (nothing_has r x b (sym (role_logged v t.pad t.round (Finish y)) ∙ ap (role (logged v t.pad t.round (Finish y))) (sym is) ∙ e)))
        (λ (ne : p ≢ t.pad). let a = k.all p r x b (sym (role_other v t.pad t.round p (Finish y) ne) ∙ e) in
        ⊎_elim (λ l. (a.0, a.1, l, a.3)) (λ l. absurd (ne (sym a.3 ∙ ap (λ (u : Ticket). u.pad) (sym l.1)))) (there_or_last ts t a.0 a.1 a.2));
  }

  pub ends_found : (v : View P O) (slots : ℕ) (ts : List Ticket) (t : Ticket) (y : O) (a b : Option ℕ) → AreHeld v slots (ts ++ t ∷ []) → IsFound v (ts ++ t ∷ []) a → KeptBelow a (length ts) b → IsFound (logged v t.pad t.round (Finish y)) ts b
  ends_found v slots ts t y a None k f below = tt
  ends_found v slots ts t y a (Some i) k f below = let g : WasAsked v (ts ++ t ∷ []) i = subst (λ c. IsFound v (ts ++ t ∷ []) c) below.0 f in
      ⊎_elim (λ l. (g.0, g.1, l, role_other v t.pad t.round (g.0).pad (Finish y) (older v slots ts t k i g.0 l) ∙ g.3)) (λ l. let is = l.0 in let lt = below.1 in absurd (omega (arith, is, lt))) (there_or_last ts t i g.0 g.2)

  -- the place that was found is the cause
  pub has_cause : (v : View P O) (slots : ℕ) (ts : List Ticket) (t : Ticket) (a : Option ℕ) (c : Cause) (x : P) (b : Bool) → AreHeld v slots (ts ++ t ∷ []) → IsFound v (ts ++ t ∷ []) a → role v t.pad ≡ has t.round x b
      → IsCauseAt c a (length ts) → HasCause c v t.pad b
  has_cause v slots ts t a Free x b k f is at = tt
  has_cause v slots ts t a Asked x b k f is at = let g : WasAsked v (ts ++ t ∷ []) (length ts) = subst (λ d. IsFound v (ts ++ t ∷ []) d) at f in
      let same : g.0 ≡ t = same_at (ts ++ t ∷ []) (length ts) g.0 t g.2 (at_last ts t) in
      ap asked_of (sym is ∙ ap (λ (u : Ticket). role v u.pad) (sym same) ∙ g.3)
  has_cause v slots ts t a Elsewhere x b k f is at = let g : WasAsked v (ts ++ t ∷ []) at.0 = subst (λ d. IsFound v (ts ++ t ∷ []) d) at.1 f in
      ⊎_elim (λ l. ((g.0).pad, (g.0).round, g.1, older v slots ts t k at.0 g.0 l, g.3)) (λ l. let e = l.0 in let lt = at.2 in absurd (omega (arith, e, lt))) (there_or_last ts t at.0 g.0 g.2)
