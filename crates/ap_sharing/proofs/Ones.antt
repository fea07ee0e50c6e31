-- One set becomes part of others.
use Rattle.std.proofs.Common.{◌≡◌, ℕ, ◌+◌, ◌<◌, Bool, true, false, not, ◌||◌, cond, if◌then◌else◌, nat_eq, List, [], ◌∷◌, ◌++◌, length, get_or, drop, append_assoc, refl, ap, ap₂, sym, ◌∙◌}
use Rattle.std.proofs.lemmas.Bool.{false≢true}
use Rattle.std.specs.List.{filter, flat_map}
use Rattle.ap_sharing.specs.VarSet.{has, union, meets}
use Rattle.ap_sharing.specs.Sets.{listed, join_sets, sets_of, with_each, pairs}
use Rattle.ap_sharing.proofs.Elements.{clash, has-union, meets-at, meets-none}
use Rattle.ap_sharing.proofs.Lists.{one_list, listed-join, ascending-join, ascending-none}
use Rattle.ap_sharing.proofs.Made.{ascending-pairs}
use Rattle.ap_sharing.proofs.Turns.{next_of}

-- the sets that meet a with `one` in them, and those that don't meet `sides`
abbrev pub with_one : (a sides one : ℕ) → List ℕ → List ℕ
with_one a sides one [] = []
with_one a sides one (s ∷ ss) = if meets s a then union s one ∷ with_one a sides one ss else (if meets s sides then with_one a sides one ss else s ∷ with_one a sides one ss)

meets-either : (s a b : ℕ) → meets s a ≡ true → meets s (union a b) ≡ true
meets-either s a b h = go (meets s (union a b)) refl
  where
    go : (c : Bool) → meets s (union a b) ≡ c → c ≡ true
    go true e = refl
    go false e = absurd (clash (meets s a) h (meets-none s a (λ x i j. clash (meets s (union a b)) (meets-at s (union a b) x i (has-union a b x ∙ or_first (has a x) (has b x) j)) e)))
      where
        or_first : (p q : Bool) → p ≡ true → (p || q) ≡ true
        or_first true q k = refl
        or_first false q k = absurd (false≢true k)

or_assoc : (p q r : Bool) → (p || (q || r)) ≡ ((p || q) || r)
or_assoc true q r = refl
or_assoc false q r = refl

or_swap : (p q r : Bool) → (p || (q || r)) ≡ (q || (p || r))
or_swap true true r = refl
or_swap true false r = refl
or_swap false q r = refl

abbrev joined : ℕ → List ℕ → List ℕ
joined one ss = flat_map (λ s. with_each s (one ∷ [])) ss

abbrev apart : ℕ → List ℕ → List ℕ
apart v ss = filter (λ s. not (meets s v)) ss

listed-with_one : (a b one x : ℕ) (ss : List ℕ) → listed x (with_one a (union a b) one ss) ≡ (listed x (joined one (filter (λ s. meets s a) ss)) || listed x (apart (union a b) ss))
listed-with_one a b one x [] = refl
listed-with_one a b one x (s ∷ ss) = go (meets s a) refl (meets s (union a b)) refl (listed-with_one a b one x ss)
  where
    go : (p : Bool) → meets s a ≡ p → (q : Bool) → meets s (union a b) ≡ q
        → listed x (with_one a (union a b) one ss) ≡ (listed x (joined one (filter (λ s. meets s a) ss)) || listed x (apart (union a b) ss))
        → listed x (cond p (union s one ∷ with_one a (union a b) one ss) (cond q (with_one a (union a b) one ss) (s ∷ with_one a (union a b) one ss)))
        ≡ (listed x (joined one (cond p (s ∷ filter (λ s. meets s a) ss) (filter (λ s. meets s a) ss))) || listed x (cond (not q) (s ∷ apart (union a b) ss) (apart (union a b) ss)))
    go true e true f ih = ap (λ r. nat_eq x (union s one) || r) ih ∙ or_assoc (nat_eq x (union s one)) (listed x (joined one (filter (λ s. meets s a) ss))) (listed x (apart (union a b) ss))
    go true e false f ih = absurd (false≢true (sym f ∙ meets-either s a b e))
    go false e true f ih = ih
    go false e false f ih = ap (λ r. nat_eq x s || r) ih ∙ or_swap (nat_eq x s) (listed x (joined one (filter (λ s. meets s a) ss))) (listed x (apart (union a b) ss))

pub sets_of-with_one : (a b one : ℕ) (ss : List ℕ) → sets_of (with_one a (union a b) one ss) ≡ join_sets (pairs (filter (λ s. meets s a) ss) (one ∷ [])) (filter (λ s. not (meets s (union a b))) ss)
sets_of-with_one a b one ss =
    one_list (sets_of (with_one a (union a b) one ss)) (join_sets (pairs met (one ∷ [])) rest) (ascending-join [] (with_one a (union a b) one ss) ascending-none)
    (ascending-join (pairs met (one ∷ [])) rest (ascending-pairs met (one ∷ []))) (λ x.
    listed-join [] (with_one a (union a b) one ss) x ∙ listed-with_one a b one x ss
    ∙ ap (λ p. p || listed x rest) (sym (listed-join [] (joined one met) x)) ∙ sym (listed-join (pairs met (one ∷ [])) rest x))
  where
    met : List ℕ
    met = filter (λ s. meets s a) ss

    rest : List ℕ
    rest = filter (λ s. not (meets s (union a b))) ss

-- ---- steps of the loop

module _ (a sides one : ℕ) (xs : List ℕ) (i s : ℕ) (h : i < length xs) (e : s ≡ get_or xs i s) where
  abbrev rest : List ℕ
  rest = with_one a sides one (drop (i + 1) xs)

  pub joined-turn : (old new w : List ℕ) → meets s a ≡ true → new ≡ old ++ union s one ∷ [] → old ++ with_one a sides one (drop i xs) ≡ w → new ++ with_one a sides one (drop (i + 1) xs) ≡ w
  joined-turn old new w p k g =
      ap (λ z. z ++ rest) k ∙ append_assoc old (union s one ∷ []) rest
      ∙ sym (ap (λ z. old ++ z) (next_of (with_one a sides one) xs i s h e ∙ ap (λ b. cond b (union s one ∷ rest) (cond (meets s sides) rest (s ∷ rest))) p)) ∙ g

  pub dropped-turn : (old new w : List ℕ) → meets s a ≡ false → meets s sides ≡ true → new ≡ old → old ++ with_one a sides one (drop i xs) ≡ w → new ++ with_one a sides one (drop (i + 1) xs) ≡ w
  dropped-turn old new w p q k g =
      ap (λ z. z ++ rest) k
      ∙ sym (ap (λ z. old ++ z) (next_of (with_one a sides one) xs i s h e ∙ ap₂ (λ b d. cond b (union s one ∷ rest) (cond d rest (s ∷ rest))) p q)) ∙ g

  pub kept-turn : (old new w : List ℕ) → meets s a ≡ false → meets s sides ≡ false → new ≡ old ++ s ∷ [] → old ++ with_one a sides one (drop i xs) ≡ w → new ++ with_one a sides one (drop (i + 1) xs) ≡ w
  kept-turn old new w p q k g =
      ap (λ z. z ++ rest) k ∙ append_assoc old (s ∷ []) rest
      ∙ sym (ap (λ z. old ++ z) (next_of (with_one a sides one) xs i s h e ∙ ap₂ (λ b d. cond b (union s one ∷ rest) (cond d rest (s ∷ rest))) p q)) ∙ g
