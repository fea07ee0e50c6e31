-- One step of a loop over the sets of a list, of which the rest from place i on is to come.
use Rattle.std.proofs.Common.{◌≡◌, ℕ, ◌+◌, ◌<◌, ◌≤◌, Bool, true, false, ltb, cond, List, [], ◌∷◌, ◌++◌, length, get_or, drop, refl, ap, sym, ◌∙◌, append_assoc, arith}
use Rattle.std.proofs.lemmas.Bool.{ltb-true, lt-ltb}
use Rattle.std.proofs.lemmas.List.{at_drop_more}
use Rattle.std.specs.List.{filter, flat_map}
use Rattle.ap_sharing.specs.VarSet.{union}
use Rattle.ap_sharing.specs.Sets.{join_sets, all_of, with_each, grown, grown_all, too_many}
use Rattle.ap_sharing.proofs.Elements.{union_assoc}
use Rattle.ap_sharing.proofs.Lists.{join-append}

pub next_of : {Y : Type 0} (F : List ℕ → Y) (xs : List ℕ) (i x : ℕ) → i < length xs → x ≡ get_or xs i x → F (drop i xs) ≡ F (x ∷ drop (i + 1) xs)
next_of F xs i x h e = at_drop_more F xs i x h ∙ ap (λ z. F (z ∷ drop (i + 1) xs)) (sym e)

pub all_of-turn : (xs : List ℕ) (i x a b w : ℕ) → i < length xs → x ≡ get_or xs i x → b ≡ union a x → union a (all_of (drop i xs)) ≡ w
    → union b (all_of (drop (i + 1) xs)) ≡ w
all_of-turn xs i x a b w h e k g =
    ap (λ z. union z (all_of (drop (i + 1) xs))) k ∙ union_assoc a x (all_of (drop (i + 1) xs)) ∙ sym (ap (union a) (next_of all_of xs i x h e)) ∙ g

pub met-turn : (p : ℕ → Bool) (xs : List ℕ) (i x a b w : ℕ) → i < length xs → x ≡ get_or xs i x → p x ≡ true → b ≡ union a x
    → union a (all_of (filter p (drop i xs))) ≡ w → union b (all_of (filter p (drop (i + 1) xs))) ≡ w
met-turn p xs i x a b w h e t k g =
    let rest = filter p (drop (i + 1) xs) in
    ap (λ z. union z (all_of rest)) k ∙ union_assoc a x (all_of rest)
    ∙ sym (ap (union a) (next_of (λ r. all_of (filter p r)) xs i x h e ∙ ap (λ b. all_of (cond b (x ∷ rest) rest)) t)) ∙ g

pub unmet-turn : (p : ℕ → Bool) (xs : List ℕ) (i x a b w : ℕ) → i < length xs → x ≡ get_or xs i x → p x ≡ false → b ≡ a
    → union a (all_of (filter p (drop i xs))) ≡ w → union b (all_of (filter p (drop (i + 1) xs))) ≡ w
unmet-turn p xs i x a b w h e t k g =
    let rest = filter p (drop (i + 1) xs) in
    ap (λ z. union z (all_of rest)) k ∙ sym (ap (union a) (next_of (λ r. all_of (filter p r)) xs i x h e ∙ ap (λ b. all_of (cond b (x ∷ rest) rest)) t)) ∙ g

pub with_each-turn : (s : ℕ) (ts : List ℕ) (i t : ℕ) (old new w : List ℕ) → i < length ts → t ≡ get_or ts i t → new ≡ old ++ union s t ∷ []
    → old ++ with_each s (drop i ts) ≡ w → new ++ with_each s (drop (i + 1) ts) ≡ w
with_each-turn s ts i t old new w h e k g =
    let rest = with_each s (drop (i + 1) ts) in
    ap (λ z. z ++ rest) k ∙ append_assoc old (union s t ∷ []) rest ∙ sym (ap (λ z. old ++ z) (next_of (with_each s) ts i t h e)) ∙ g

pub pairs-turn : (ts xs : List ℕ) (i x : ℕ) (old new w : List ℕ) → i < length xs → x ≡ get_or xs i x → new ≡ join_sets old (with_each x ts)
    → join_sets old (flat_map (λ s. with_each s ts) (drop i xs)) ≡ w → join_sets new (flat_map (λ s. with_each s ts) (drop (i + 1) xs)) ≡ w
pairs-turn ts xs i x old new w h e k g =
    let rest = flat_map (λ s. with_each s ts) (drop (i + 1) xs) in
    ap (λ z. join_sets z rest) k ∙ sym (join-append old (with_each x ts) rest) ∙ sym (ap (join_sets old) (next_of (flat_map (λ s. with_each s ts)) xs i x h e)) ∙ g

pub grown_all-turn : (xs : List ℕ) (i x : ℕ) (old new w : List ℕ) → i < length xs → x ≡ get_or xs i x → new ≡ grown old x
    → grown_all old (drop i xs) ≡ w → grown_all new (drop (i + 1) xs) ≡ w
grown_all-turn xs i x old new w h e k g = ap (λ z. grown_all z (drop (i + 1) xs)) k ∙ sym (next_of (grown_all old) xs i x h e) ∙ g

-- ---- the limit

pub many_at : (ss : List ℕ) (n : ℕ) → n ≡ length ss → 4096 < n → too_many ss ≡ true
many_at ss n e h = lt-ltb 4096 (length ss) (omega arith)

pub few_at : (ss : List ℕ) (n : ℕ) → n ≡ length ss → n ≤ 4096 → too_many ss ≡ false
few_at ss n e h = go (ltb 4096 (length ss)) refl
  where
    go : (b : Bool) → ltb 4096 (length ss) ≡ b → too_many ss ≡ false
    go true k = let l = ltb-true 4096 (length ss) k in absurd (omega arith)
    go false k = k
