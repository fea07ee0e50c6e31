-- The rule at the start, new seats, and seats that are taken in.
use Rattle.std.proofs.Common.{◌≡◌, ◌≢◌, ◌⊎◌, ⊎_elim, inl, inr, ℕ, zero, suc, ◌+◌, ◌*◌, ◌/◌, ◌<◌, ◌≤◌, Bool, true, false, true≢false, List, [], ◌∷◌, ◌++◌, map, length, get_or, set, replicate, refl, sym, ap, ◌∙◌, subst, arith}
use mathlib.Core.Option.{some, none, some-ne-none, some-injective}
use lib.ListN.{get_elem?}
use Rattle.std.specs.Prelude.{Option, Some, None}
use Rattle.atomic_table.specs.Table.{State, opening, Splits, Joins}
use Rattle.atomic_table.proofs.Lists.{at_set, set_else}
use Rattle.ap_board.specs.declared.view.Call.{Call}
use Rattle.ap_board.specs.declared.view.Cause.{Cause}
use Rattle.ap_board.specs.declared.view.Content.{Content}
use Rattle.ap_board.specs.declared.view.Log.{Log}
use Rattle.ap_board.specs.declared.view.View.{View}
use Rattle.ap_board.specs.History.{closed, by, on}
use Rattle.ap_board.specs.Rule.{log_of, view_of, ended_view, newcomer, one_more, taking_in, AmongLogs, HasLog, FitsBoard, PadKept, Kept}

abbrev pub noughts : ℕ → List ℕ
noughts n = replicate n 0

pub zeros : (n i : ℕ) → get_or (noughts n) i 0 ≡ 0
zeros zero i = refl
zeros (suc n) zero = refl
zeros (suc n) (suc i) = zeros n i

as_many : {A : Type 0} (n : ℕ) (x : A) → length (noughts n) ≡ length (map some (replicate n x))
as_many zero x = refl
as_many (suc n) x = ap suc (as_many n x)

there : {A : Type 0} (n : ℕ) (x : A) (p : ℕ) → p < length (map some (replicate n x)) → get_elem? (map some (replicate n x)) p ≡ some (some x)
there zero x p less = absurd (omega arith)
there (suc n) x zero less = refl
there (suc n) x (suc p) less = there n x p (omega arith)

at_end : {A : Type 0} (l : List A) (a b : A) (j : ℕ) → get_elem? (l ++ a ∷ []) j ≡ some b → (get_elem? l j ≡ some b) ⊎ ((j ≡ length l) × (a ≡ b))
at_end [] a b zero e = inr (refl, some-injective a b e)
at_end [] a b (suc j) e = absurd (some-ne-none b (sym e))
at_end (x ∷ xs) a b zero e = inl e
at_end (x ∷ xs) a b (suc j) e = ⊎_elim (λ z. inl z) (λ z. inr (ap suc z.0, z.1)) (at_end xs a b j e)

within : {A : Type 0} (l : List A) (i : ℕ) (x : A) → get_elem? l i ≡ some x → i < length l
within [] i x e = absurd (some-ne-none x (sym e))
within (y ∷ ys) zero x e = omega arith
within (y ∷ ys) (suc i) x e = let h = within ys i x e in omega arith

module _ {P O : Type 0} (fits : P → O → Type 0) (cause : O → Cause) (pads : ℕ) where
  abbrev S : Type 0
  S = Option (Content P O)

  abbrev V : Type 0
  V = View P O

  abbrev St : Type 0
  St = State S V

  pub begins : (n : ℕ) → Kept fits cause pads (opening (noughts n) (replicate n None) (newcomer pads))
  begins n = record {
    seats = 1;
    long = as_many n None;
    fit = λ id v at on. subst (FitsBoard pads 1) (only id v at).1 (refl, (λ _. refl), (λ cs a. a));
    numbers = λ id v m cs at h. let l = log id v m cs at h in let is = l.0 in omega arith;
    apart = λ i j v w m cs ds a b g h. let x = (only i v a).0 in let y = (only j w b).0 in x ∙ sym y;
    each_pad = λ p less. record {
      history = [];
      mode = closed;
      legal = refl;
      word_is = zeros n p;
      home_is = there n None p less;
      calls_are = λ id v at m cs h. ap (on p) (sym (log id v m cs at h).1);
      no_others = λ id le. refl;
    };
  }
    where
      only : (id : ℕ) (v : V) → get_elem? (newcomer pads ∷ []) id ≡ some v → (id ≡ 0) × (newcomer pads ≡ v)
      only zero v e = (refl, some-injective _ _ e)
      only (suc id) v e = absurd (some-ne-none v (sym e))

      log : (id : ℕ) (v : V) (m : ℕ) (cs : List (Call P O)) → get_elem? (newcomer pads ∷ []) id ≡ some v → HasLog v m cs → (m ≡ 0) × (cs ≡ [])
      log id v m cs e h = ⊎_elim (λ (x : (m ≡ 0) × (cs ≡ [])). x) (λ (x : ⊥). absurd x) (subst (λ (u : V). HasLog u m cs) (sym (only id v e).1) h).1

  -- the rule with one view's place taken by another view and a third behind all, where each log stood in one view before
  module _ (s : St) (k : Kept fits cause pads s) (seats : ℕ) (views : List V) (more : k.seats ≤ seats)
      (fit : (j : ℕ) (u : V) → get_elem? views j ≡ some u → u.ended ≡ false → FitsBoard pads seats u)
      (new : (j m : ℕ) (cs : List (Call P O)) → Type 0) (is_new : (j m : ℕ) (cs : List (Call P O)) → new j m cs → (m ≡ k.seats) × (cs ≡ []) × (m < seats))
      (one_new : (i j m : ℕ) (cs ds : List (Call P O)) → new i m cs → new j m ds → i ≡ j)
      (from : (j i : ℕ) → Type 0) (one_place : (i j a : ℕ) → from i a → from j a → i ≡ j)
      (stood : (j : ℕ) (u : V) (m : ℕ) (cs : List (Call P O)) → get_elem? views j ≡ some u → HasLog u m cs → new j m cs ⊎ ((i : ℕ) × (t : V) × (get_elem? s.views i ≡ some t) × HasLog t m cs × from j i)) where
    abbrev Stood : ℕ → ℕ → List (Call P O) → Type 0
    Stood j m cs = (i : ℕ) × (t : V) × (get_elem? s.views i ≡ some t) × HasLog t m cs × from j i

    old_less : (j m : ℕ) (cs : List (Call P O)) → Stood j m cs → m < k.seats
    old_less j m cs x = k.numbers x.0 x.1 m cs x.2 x.3

    apart : (i j m : ℕ) (cs ds : List (Call P O)) → new i m cs ⊎ Stood i m cs → new j m ds ⊎ Stood j m ds → i ≡ j
    apart i j m cs ds (inl a) (inl b) = one_new i j m cs ds a b
    apart i j m cs ds (inl a) (inr b) = let x = (is_new i m cs a).0 in let y = old_less j m ds b in absurd (omega arith)
    apart i j m cs ds (inr a) (inl b) = let x = (is_new j m ds b).0 in let y = old_less i m cs a in absurd (omega arith)
    apart i j m cs ds (inr a) (inr b) = one_place i j b.0 (subst (from i) (k.apart a.0 b.0 a.1 b.1 m cs ds a.2 b.2 a.3 b.3) a.4) b.4

    pub rearranged : Kept fits cause pads record { words = s.words; homes = s.homes; views = views }
    rearranged = record {
      seats = seats;
      long = k.long;
      fit = fit;
      numbers = λ j u m cs e h. ⊎_elim (λ (x : new j m cs). (is_new j m cs x).2) (λ (x : Stood j m cs). let l = old_less j m cs x in omega arith) (stood j u m cs e h);
      apart = λ i j u t m cs ds e f g h. apart i j m cs ds (stood i u m cs e g) (stood j t m ds f h);
      each_pad = λ p less. let d = k.each_pad p less in record {
        history = d.history;
        mode = d.mode;
        legal = d.legal;
        word_is = d.word_is;
        home_is = d.home_is;
        calls_are = λ j u e m cs h. ⊎_elim
            (λ (x : new j m cs). let y = is_new j m cs x in d.no_others m (let g = y.0 in omega arith) ∙ ap (on p) (sym y.1))
            (λ (x : Stood j m cs). d.calls_are x.0 x.1 x.2 m cs x.3)
            (stood j u m cs e h);
        no_others = λ m le. d.no_others m (omega arith);
      };
    }

  -- the first seat makes one more
  pub splits : (id : ℕ) (v : V) → v.ended ≡ false → v.number ≡ 0 → Splits (Kept fits cause pads) id v (one_more v) (view_of v.made v.pads 0 [] [])
  splits id v live leads s k at =
      let l : V = one_more v in let r : V = view_of v.made v.pads 0 [] [] in let left : List V = set s.views id l in let n : ℕ = k.seats in let f = k.fit id v at live in
      let made : v.made ≡ n = f.1 leads in let first : n ≢ 0 = (λ z. let g = k.numbers id v v.number v.calls at (live, inl (refl, refl)) in absurd (omega arith)) in
      let fit : (j : ℕ) (u : V) → get_elem? (left ++ r ∷ []) j ≡ some u → u.ended ≡ false → FitsBoard pads (n + 1) u = λ j u e on. ⊎_elim
      (λ a. ⊎_elim
      (λ (x : (j ≡ id) × (l ≡ u)). subst (FitsBoard pads (n + 1)) x.1 (f.0, (λ z. ap (λ y. y + 1) made), f.2))
      (λ (x : (j ≢ id) × (get_elem? s.views j ≡ some u)). let g = k.fit j u x.1 on in
      (g.0, (λ z. absurd (x.0 (k.apart j id u v 0 u.calls v.calls x.1 at (on, inl (sym z, refl)) (live, inl (sym leads, refl))))), g.2))
      (at_set s.views id j l u a))
      (λ (x : (j ≡ length left) × (r ≡ u)). subst (FitsBoard pads (n + 1)) x.1 (f.0, (λ z. absurd (first (sym made ∙ z))), (λ cs z. z)))
      (at_end left r u j e) in
      rearranged s k (n + 1) (left ++ r ∷ []) (omega arith) fit
      (λ j m cs. (j ≡ length left) × (m ≡ n) × (cs ≡ [])) (λ j m cs x. (x.1, x.2, (let g = x.1 in omega arith))) (λ i j m cs ds x y. x.0 ∙ sym y.0)
      (λ j i. j ≡ i) (λ i j a x y. x ∙ sym y)
      (λ j u m cs e h. ⊎_elim
      (λ a. inr (⊎_elim
      (λ (x : (j ≡ id) × (l ≡ u)). (id, v, at, subst (λ (z : V). HasLog z m cs) (sym x.1) h, x.0))
      (λ (x : (j ≢ id) × (get_elem? s.views j ≡ some u)). (j, u, x.1, h, refl))
      (at_set s.views id j l u a)))
      (λ (x : (j ≡ length left) × (r ≡ u)). inl (let g : HasLog r m cs = subst (λ (z : V). HasLog z m cs) (sym x.1) h in
      ⊎_elim (λ (y : (m ≡ v.made) × (cs ≡ [])). (x.0, y.0 ∙ made, y.1)) (λ (y : ⊥). absurd y) g.1))
      (at_end left r u j e))

  -- a seat's whole view is cut off
  pub cuts : (id : ℕ) (v : V) → Splits (Kept fits cause pads) id v ended_view v
  cuts id v s k at =
      let left : List V = set s.views id ended_view in
      let From : ℕ → ℕ → Type 0 = λ j i. ((j ≡ i) × (i ≢ id) × (j < length s.views)) ⊎ ((j ≡ length left) × (i ≡ id)) in
      rearranged s k k.seats (left ++ v ∷ []) (omega arith)
      (λ j u e on. ⊎_elim
      (λ a. ⊎_elim
      (λ (x : (j ≡ id) × (ended_view ≡ u)). absurd (true≢false (ap (λ (z : V). z.ended) x.1 ∙ on)))
      (λ (x : (j ≢ id) × (get_elem? s.views j ≡ some u)). k.fit j u x.1 on)
      (at_set s.views id j ended_view u a))
      (λ (x : (j ≡ length left) × (v ≡ u)). k.fit id u (at ∙ ap some x.1) on)
      (at_end left v u j e))
      (λ j m cs. ⊥) (λ j m cs x. absurd x) (λ i j m cs ds x y. absurd x)
      From (λ i j a x y. ⊎_elim
      (λ (b : (i ≡ a) × (a ≢ id) × (i < length s.views)). ⊎_elim (λ (c : (j ≡ a) × (a ≢ id) × (j < length s.views)). b.0 ∙ sym c.0) (λ (c : (j ≡ length left) × (a ≡ id)). absurd (b.1 c.1)) y)
      (λ (b : (i ≡ length left) × (a ≡ id)). ⊎_elim (λ (c : (j ≡ a) × (a ≢ id) × (j < length s.views)). absurd (c.1 b.1)) (λ (c : (j ≡ length left) × (a ≡ id)). b.0 ∙ sym c.0) y) x)
      (λ j u m cs e h. inr (⊎_elim
      (λ a. ⊎_elim
      (λ (x : (j ≡ id) × (ended_view ≡ u)). absurd (true≢false (ap (λ (z : V). z.ended) x.1 ∙ h.0)))
      (λ (x : (j ≢ id) × (get_elem? s.views j ≡ some u)). (j, u, x.1, h, inl (refl, x.0, within s.views j u x.1)))
      (at_set s.views id j ended_view u a))
      (λ (x : (j ≡ length left) × (v ≡ u)). (id, v, at, subst (λ (z : V). HasLog z m cs) (sym x.1) h, inr (x.0, refl)))
      (at_end left v u j e)))

  among_both : (n : ℕ) (cs : List (Call P O)) (xs ys : List (Log P O)) → AmongLogs n cs (xs ++ ys) → AmongLogs n cs xs ⊎ AmongLogs n cs ys
  among_both n cs [] ys a = inr a
  among_both n cs (x ∷ xs) ys (inl e) = inl (inl e)
  among_both n cs (x ∷ xs) ys (inr a) = ⊎_elim (λ b. inl (inr b)) (λ b. inr b) (among_both n cs xs ys a)

  -- a log of the view that took in another is one of the two views
  of_two : (v w : V) (m : ℕ) (cs : List (Call P O)) → v.ended ≡ false → w.ended ≡ false → HasLog (taking_in v w) m cs → HasLog v m cs ⊎ HasLog w m cs
  of_two v w m cs a b (on, inl own) = inl (a, inl own)
  of_two v w m cs a b (on, inr taken) = ⊎_elim (λ x. inl (a, inr x)) (λ x. inr (b, x)) (among_both m cs v.others (log_of w.number w.calls ∷ w.others) taken)

  -- one seat takes in another's view
  pub joins : (id other : ℕ) (v w : V) → v.ended ≡ false → w.ended ≡ false → Joins (Kept fits cause pads) id v other w (taking_in v w) ended_view
  joins id other v w live on s k at ne there' =
      let both : V = taking_in v w in let mid : List V = set s.views id both in
      let w_at : get_elem? s.views other ≡ some w = sym (set_else s.views id other both ne) ∙ there' in
      let f = k.fit id v at live in
      let alone : (cs : List (Call P O)) → AmongLogs v.number cs both.others → ⊥ = (λ cs a. ⊎_elim (f.2 cs)
      (λ (b : AmongLogs v.number cs (log_of w.number w.calls ∷ w.others)). ne (k.apart other id w v v.number cs v.calls w_at at (on, b) (live, inl (refl, refl))))
      (among_both v.number cs v.others (log_of w.number w.calls ∷ w.others) a)) in
      let From : ℕ → ℕ → Type 0 = λ j i. ((j ≡ id) × ((i ≡ id) ⊎ (i ≡ other))) ⊎ ((j ≡ i) × (i ≢ id) × (i ≢ other)) in
      rearranged s k k.seats (set mid other ended_view) (omega arith)
      (λ j u e h. ⊎_elim
      (λ (x : (j ≡ other) × (ended_view ≡ u)). absurd (true≢false (ap (λ (z : V). z.ended) x.1 ∙ h)))
      (λ (x : (j ≢ other) × (get_elem? mid j ≡ some u)). ⊎_elim
      (λ (y : (j ≡ id) × (both ≡ u)). subst (FitsBoard pads k.seats) y.1 (f.0, f.1, alone))
      (λ (y : (j ≢ id) × (get_elem? s.views j ≡ some u)). k.fit j u y.1 h)
      (at_set s.views id j both u x.1))
      (at_set mid other j ended_view u e))
      (λ j m cs. ⊥) (λ j m cs x. absurd x) (λ i j m cs ds x y. absurd x)
      From (λ i j a x y. ⊎_elim
      (λ (b : (i ≡ id) × ((a ≡ id) ⊎ (a ≡ other))). ⊎_elim (λ (c : (j ≡ id) × ((a ≡ id) ⊎ (a ≡ other))). b.0 ∙ sym c.0)
      (λ (c : (j ≡ a) × (a ≢ id) × (a ≢ other)). ⊎_elim (λ z. absurd (c.1 z)) (λ z. absurd (c.2 z)) b.1) y)
      (λ (b : (i ≡ a) × (a ≢ id) × (a ≢ other)). ⊎_elim (λ (c : (j ≡ id) × ((a ≡ id) ⊎ (a ≡ other))). ⊎_elim (λ z. absurd (b.1 z)) (λ z. absurd (b.2 z)) c.1)
      (λ (c : (j ≡ a) × (a ≢ id) × (a ≢ other)). b.0 ∙ sym c.0) y) x)
      (λ j u m cs e h. inr (⊎_elim
      (λ (x : (j ≡ other) × (ended_view ≡ u)). absurd (true≢false (ap (λ (z : V). z.ended) x.1 ∙ h.0)))
      (λ (x : (j ≢ other) × (get_elem? mid j ≡ some u)). ⊎_elim
      (λ (y : (j ≡ id) × (both ≡ u)). ⊎_elim
      (λ (z : HasLog v m cs). (id, v, at, z, inl (y.0, inl refl)))
      (λ (z : HasLog w m cs). (other, w, w_at, z, inl (y.0, inr refl)))
      (of_two v w m cs live on (subst (λ (t : V). HasLog t m cs) (sym y.1) h)))
      (λ (y : (j ≢ id) × (get_elem? s.views j ≡ some u)). (j, u, y.1, h, inr (refl, y.0, x.0)))
      (at_set s.views id j both u x.1))
      (at_set mid other j ended_view u e)))
