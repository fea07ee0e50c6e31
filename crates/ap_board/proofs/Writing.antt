-- A legal history is written round by round.
use Rattle.std.proofs.Common.{◌≡◌, ◌≢◌, ◌⊎◌, ⊎_elim, inl, inr, ℕ, zero, suc, ◌+◌, ◌<◌, Bool, true, false, true≢false, List, [], ◌∷◌, ◌++◌, refl, sym, ap, ◌∙◌, subst, arith, append_assoc}
use Rattle.std.proofs.lemmas.List.{append-nil}
use Rattle.ap_board.specs.declared.view.Kind.{Kind}
use Rattle.ap_board.specs.declared.view.Kind.TheVariants.{Open, Offer, Take, Reclaim, Stop, Finish, Look, Collect}
use Rattle.ap_board.specs.declared.view.Cause.{Cause}
use Rattle.ap_board.specs.declared.view.Cause.TheVariants.{Free, Asked, Elsewhere}
use Rattle.ap_board.specs.History.{Mode, closed, free, offered, taken, finished, Entry, MayCause, next, May, Legal}
use Rattle.ap_board.specs.Grammar.{Round, withdrawn, done, Last, none_yet, sent, running, ended, Deed, told, plain, stops, of_round, of_last, written, IsFair, FairRound, FairRounds, FairLast, IsWritten}

module _ {P O : Type 0} (fits : P → O → Type 0) (cause : O → Cause) (o : ℕ) where
  -- the part of the last round that led to a mode
  abbrev Stands : Mode P O → ℕ → Last P O → Type 0
  Stands closed q l = (q ≡ 0) × (l ≡ none_yet)
  Stands (free r) q l = (q ≡ r) × (l ≡ none_yet)
  Stands (offered r x) q l = (q ≡ r) × (l ≡ sent x)
  Stands (taken r x t b) q l = (q ≡ r) × (t ≢ o) × ((n : ℕ) × (l ≡ running x t n) × (b ≡ true → 0 < n))
  Stands (finished r x y) q l = (q ≡ r) × ((t : ℕ) × (n : ℕ) × (l ≡ ended x t n y) × IsFair o fits cause x t n y)

  more_stops : (q n : ℕ) (ds : List (Deed P O)) → stops o q n ++ (o, q, Stop) ∷ ds ≡ stops o q (suc n) ++ ds
  more_stops q zero ds = refl
  more_stops q (suc n) ds = λ i. (o, q, Stop) ∷ more_stops q n ds i

  -- a call goes on with the round, or ends it
  abbrev Goes : Mode P O → ℕ → Last P O → (id p : ℕ) → Kind P O → Type 0
  Goes m q l id p k = ((l2 : Last P O) × Stands m q l2 × ((ds : List (Deed P O)) → of_last o q l ++ told id p k ds ≡ of_last o q l2 ++ ds))
      ⊎ ((r : Round P O) × FairRound o fits cause r × Stands m (suc q) none_yet × ((ds : List (Deed P O)) → of_last o q l ++ told id p k ds ≡ of_round o q r ++ ds))

  was_asked : (c : Cause) (b : Bool) (n : ℕ) → MayCause c b → (b ≡ true → 0 < n) → c ≡ Asked → 0 < n
  was_asked c b n may has is = has (subst (λ (z : Cause). MayCause z b) is may)

  goes : (m : Mode P O) (q : ℕ) (l : Last P O) (id p : ℕ) (k : Kind P O) → Stands m q l → May fits cause o m id p k → Goes (next m id k) q l id p k
  goes closed q l id p (Look w) s y = inl (l, s, λ ds. refl)
  goes (free r) q l id p (Look w) s y = inl (l, s, λ ds. refl)
  goes (offered r x) q l id p (Look w) s y = inl (l, s, λ ds. refl)
  goes (taken r x t b) q l id p (Look w) s y = inl (l, s, λ ds. refl)
  goes (finished r x z) q l id p (Look w) s y = inl (l, s, λ ds. refl)
  goes closed q l id p Open s y = inl (l, s, λ ds. refl)
  goes (free r) q l id p (Offer x) s y = inl (sent x, (s.0, refl), λ ds i. of_last o q (s.1 i) ++ (y.0 i, (y.1 ∙ sym s.0) i, Offer x) ∷ ds)
  goes (offered r x) q l id p (Take z) s y = inl (running x id 0, (s.0, y.0, (0, refl, λ e. absurd (true≢false (sym e)))), λ ds i. of_last o q (s.1 i) ++ (id, (y.1 ∙ sym s.0) i, Take (y.2 i)) ∷ ds)
  goes (offered r x) q l id p Reclaim s y = inr (withdrawn x, tt, ((let e : q ≡ r = s.0 in omega arith), refl), λ ds i. of_last o q (s.1 i) ++ (y.0 i, (y.1 ∙ sym s.0) i, Reclaim) ∷ ds)
  goes (taken r x t b) q l id p Stop s y = let n : ℕ = s.2.0 in inl (
    running x t (suc n),
    (s.0, s.1, (suc n, refl, λ _. omega arith)),
    λ ds. (λ i. of_last o q (s.2.1 i) ++ (y.0 i, (y.1 ∙ sym s.0) i, Stop) ∷ ds) ∙ (λ i. (o, q, Offer x) ∷ (t, q, Take x) ∷ more_stops q n ds i),
  )
  goes (taken r x t b) q l id p (Finish z) s y = let n : ℕ = s.2.0 in inl (
    ended x t n z,
    (s.0, (t, n, refl, (s.1, y.2, was_asked (cause z) b n y.3 s.2.2))),
    λ ds. (λ i. of_last o q (s.2.1 i) ++ (y.0 i, (y.1 ∙ sym s.0) i, Finish z) ∷ ds) ∙ (λ i. (o, q, Offer x) ∷ (t, q, Take x) ∷ sym (append_assoc (stops o q n) ((t, q, Finish z) ∷ []) ds) i),
  )
  goes (finished r x z) q l id p (Collect v) s y = let t : ℕ = s.1.0 in let n : ℕ = s.1.1 in inr (
    done x t n z,
    s.1.3,
    ((let e : q ≡ r = s.0 in omega arith), refl),
    λ ds. (λ i. of_last o q (s.1.2 i) ++ (y.0 i, (y.1 ∙ sym s.0) i, Collect (y.2 i)) ∷ ds)
        ∙ (λ i. (o, q, Offer x) ∷ (t, q, Take x) ∷ (append_assoc (stops o q n) ((t, q, Finish z) ∷ []) ((o, q, Collect z) ∷ ds) ∙ sym (append_assoc (stops o q n) ((t, q, Finish z) ∷ (o, q, Collect z) ∷ []) ds)) i),
  )
  goes m q l id p k s y = absurd y

  fair_last : (m : Mode P O) (q : ℕ) (l : Last P O) → Stands m q l → FairLast o fits cause l
  fair_last closed q l s = subst (FairLast o fits cause) (sym s.1) tt
  fair_last (free r) q l s = subst (FairLast o fits cause) (sym s.1) tt
  fair_last (offered r x) q l s = subst (FairLast o fits cause) (sym s.1) tt
  fair_last (taken r x t b) q l s = subst (FairLast o fits cause) (sym s.2.1) s.1
  fair_last (finished r x y) q l s = subst (FairLast o fits cause) (sym s.1.2) s.1.3

  abbrev From : ℕ → List (Deed P O) → Type 0
  From q ds = (rs : List (Round P O)) × (l : Last P O) × FairRounds o fits cause rs × FairLast o fits cause l × (ds ≡ written o q rs l)

  writes : (m n : Mode P O) (q : ℕ) (l : Last P O) (h : List (Entry P O)) → Stands m q l → Legal fits cause o m h n → From q (of_last o q l ++ plain h)
  writes m n q l [] s a = ([], l, tt, fair_last m q l s, append-nil (of_last o q l))
  writes m n q l (e ∷ es) s a = ⊎_elim
      (λ x. let w = writes (next m e.0 e.1.kind) n q x.0 es x.1 a.1 in (w.0, w.1, w.2, w.3, x.2 (plain es) ∙ w.4))
      (λ x. let w = writes (next m e.0 e.1.kind) n (suc q) none_yet es x.2 a.1 in (x.0 ∷ w.0, w.1, (x.1, w.2), w.3, x.3 (plain es) ∙ ap (λ ds. of_round o q x.0 ++ ds) w.4))
      (goes m q l e.0 e.1.round e.1.kind s a.0)

  pub is_written : (h : List (Entry P O)) (n : Mode P O) → Legal fits cause o closed h n → IsWritten o fits cause h
  is_written h n a = writes closed n 0 none_yet h (refl, refl) a
