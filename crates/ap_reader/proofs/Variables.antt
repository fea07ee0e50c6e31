-- The numbers of variables after one more.
use Rattle.std.proofs.Common.{◌≡◌, ◌≤◌, ◌<◌, ℕ, suc, zero, ◌+◌, min, take, drop, Bool, true, false, List, [], ◌∷◌, ◌++◌, length, Option, Some, None, slice_get, ◌⊎◌, inl, inr, get_or, if◌then◌else◌, cond, refl, ap, sym, subst, ◌∙◌, arith, codes}
use Rattle.std.specs.Prelude.{bytes_eq}
use Rattle.std.proofs.lemmas.Bool.{false≢true}
use Rattle.std.proofs.lemmas.Slice.Eq.{bytes_eq-Decides}
use Rattle.ap_lexer.specs.Lexeme.{Text}
use Rattle.std.specs.Borrow.{Bor}
use Rattle.std.specs.HashMap.{HashMap, get_by}
use Rattle.ap_reader.specs.Written.{Variable, place_in, known, number_after, seen_after}
use Rattle.ap_reader.specs.Leaves.{AreOnce, Numbers, texts}
use Rattle.ap_reader.proofs.Trees.{map-push}
use Rattle.ap_reader.specs.declared.leaf.TheConstants.{NEAR}
use Rattle.std.proofs.lemmas.List.{drop-append-le, length-drop, length-append, length-map, take_min, take-map}
use Rattle.std.proofs.Math.ListN.{drop_of_length-le}

abbrev pub or_else : Option ℕ → Option ℕ → Option ℕ
or_else None o = o
or_else (Some n) o = Some n

pub bytes_eq-sym : (m n : Text) → bytes_eq m n ≡ bytes_eq n m
bytes_eq-sym m n = go (bytes_eq m n) (bytes_eq n m) refl refl
  where
    go : (a b : Bool) → bytes_eq m n ≡ a → bytes_eq n m ≡ b → a ≡ b
    go true true p q = refl
    go false false p q = refl
    go true false p q = absurd (false≢true (sym q ∙ (bytes_eq-Decides n m).1 (sym ((bytes_eq-Decides m n).0 p))))
    go false true p q = absurd (false≢true (sym p ∙ (bytes_eq-Decides m n).1 (sym ((bytes_eq-Decides n m).0 q))))

place_in-push-if : (b : Bool) (at n : ℕ) (rest new : Option ℕ) → or_else (cond b (Some at) rest) new ≡ cond b (Some at) (or_else rest new)
place_in-push-if true at n rest new = refl
place_in-push-if false at n rest new = refl

pub place_in-push : (at : ℕ) (xs : List Text) (name q : Text) → place_in at (xs ++ name ∷ []) q ≡ or_else (place_in at xs q) (if bytes_eq name q then Some (at + length xs) else None)
place_in-push at [] name q = ap (λ n. cond (bytes_eq name q) (Some n) None) (omega arith)
place_in-push at (x ∷ xs) name q =
    let moved : (at + 1) + length xs ≡ at + length (x ∷ xs) = omega arith in
    ap (cond (bytes_eq x q) (Some at)) (place_in-push (at + 1) xs name q ∙ ap (λ n. or_else (place_in (at + 1) xs q) (cond (bytes_eq name q) (Some n) None)) moved)
    ∙ sym (place_in-push-if (bytes_eq x q) at at (place_in (at + 1) xs q) (cond (bytes_eq name q) (Some (at + length (x ∷ xs))) None))

or_else-none : (o : Option ℕ) → o ≡ or_else o None
or_else-none None = refl
or_else-none (Some n) = refl

-- the first names of a list, and then those behind them
pub place_in-split : (n at : ℕ) (xs : List Text) (q : Text) → or_else (place_in at (take n xs) q) (place_in (at + n) (drop n xs) q) ≡ place_in at xs q
place_in-split zero at xs q = ap (λ k. place_in k xs q) (omega arith)
place_in-split (suc n) at [] q = refl
place_in-split (suc n) at (x ∷ xs) q =
    let moved : at + suc n ≡ (at + 1) + n = omega arith in
    place_in-push-if (bytes_eq x q) at n (place_in (at + 1) (take n xs) q) (place_in (at + suc n) (drop n xs) q)
    ∙ ap (cond (bytes_eq x q) (Some at)) (ap (λ k. or_else (place_in (at + 1) (take n xs) q) (place_in k (drop n xs) q)) moved ∙ place_in-split n (at + 1) xs q)

-- the map has the numbers of names, from one on, but for `_`
abbrev NumbersFrom : ℕ → {S : Type 0} → HashMap (Bor (List ℕ)) ℕ S → List Text → Type 0
NumbersFrom base m seen = (q : Text) → bytes_eq q (codes "_") ≡ false → get_by (λ k. bytes_eq q k.now) m ≡ place_in base seen q

or_else-second : (a b : Option ℕ) → or_else a b ≡ None → b ≡ None
or_else-second None b e = e
or_else-second (Some n) b e = absurd (cc)

module _ {S : Type 0} (m m' : HashMap (Bor (List ℕ)) ℕ S) (seen : List Text) (name : Text) where
  more_from : (base n : ℕ) → NumbersFrom base m seen → place_in base seen name ≡ None → n ≡ base + length seen → ((q : Text) → get_by (λ k. bytes_eq q k.now) m' ≡ cond (bytes_eq name q) (Some n) (get_by (λ k. bytes_eq q k.now) m)) → NumbersFrom base m' (seen ++ name ∷ [])
  more_from base n before absent next step = λ q h. step q ∙ go q h (bytes_eq name q) refl ∙ sym (place_in-push base seen name q)
    where
      go : (q : Text) → bytes_eq q (codes "_") ≡ false → (b : Bool) → bytes_eq name q ≡ b → cond (bytes_eq name q) (Some n) (get_by (λ k. bytes_eq q k.now) m) ≡ or_else (place_in base seen q) (cond (bytes_eq name q) (Some (base + length seen)) None)
      go q h true p =
          let same : name ≡ q = (bytes_eq-Decides name q).0 p in
          let none_q : place_in base seen q ≡ None = ap (place_in base seen) (sym same) ∙ absent in
          ap (λ b. cond b (Some n) (get_by (λ k. bytes_eq q k.now) m)) p ∙ ap Some next ∙ sym (ap (λ o. or_else o (cond (bytes_eq name q) (Some (base + length seen)) None)) none_q ∙ ap (λ b. cond b (Some (base + length seen)) None) p)
      go q h false p =
          ap (λ b. cond b (Some n) (get_by (λ k. bytes_eq q k.now) m)) p ∙ before q h ∙ or_else-none (place_in base seen q) ∙ sym (ap (λ b. or_else (place_in base seen q) (cond b (Some (base + length seen)) None)) p)

  anonymous_from : (base : ℕ) → NumbersFrom base m seen → bytes_eq name (codes "_") ≡ true → NumbersFrom base m (seen ++ name ∷ [])
  anonymous_from base before anonymous = λ q h. before q h ∙ or_else-none (place_in base seen q) ∙ sym (place_in-push base seen name q ∙ ap (λ b. or_else (place_in base seen q) (cond b (Some (base + length seen)) None)) (other q h))
    where
      other : (q : Text) → bytes_eq q (codes "_") ≡ false → bytes_eq name q ≡ false
      other q h = bytes_eq-sym name q ∙ ap (bytes_eq q) ((bytes_eq-Decides name (codes "_")).0 anonymous) ∙ h

module _ {S : Type 0} (m m' : HashMap (Bor (List ℕ)) ℕ S) (before after : List (Bor (List ℕ))) (slice : Bor (List ℕ)) (grown : after ≡ before ++ slice ∷ []) (known_before : Numbers m (texts before)) where
  pub seen-more : texts after ≡ texts before ++ slice.now ∷ []
  seen-more = ap texts grown ∙ map-push (λ s. s.now) before slice

  behind : NEAR ≤ length before → drop NEAR (texts before) ++ slice.now ∷ [] ≡ drop NEAR (texts after)
  behind far = sym (ap (drop NEAR) seen-more ∙ drop-append-le NEAR (texts before) (slice.now ∷ []) (omega (arith, far, length-map before (λ s. s.now))))

  -- a new variable behind the first ones has the next number
  pub numbers-more : (n : ℕ) → NEAR ≤ length before → known (texts before) slice.now ≡ None → bytes_eq slice.now (codes "_") ≡ false → n ≡ length before + 1 → ((q : Text) → get_by (λ k. bytes_eq q k.now) m' ≡ cond (bytes_eq slice.now q) (Some n) (get_by (λ k. bytes_eq q k.now) m)) → Numbers m' (texts after)
  numbers-more n far none named next step =
      let absent : place_in 1 (texts before) slice.now ≡ None = sym (ap (λ b. cond b None (place_in 1 (texts before) slice.now)) named) ∙ none in
      let absent_behind : place_in (NEAR + 1) (drop NEAR (texts before)) slice.now ≡ None =
      or_else-second (place_in 1 (take NEAR (texts before)) slice.now) (place_in (NEAR + 1) (drop NEAR (texts before)) slice.now) (place_in-split NEAR 1 (texts before) slice.now ∙ absent) in
      let number : n ≡ NEAR + 1 + length (drop NEAR (texts before)) = next ∙ omega (arith, far, length-drop NEAR (texts before), length-map before (λ s. s.now)) in
      subst (NumbersFrom (NEAR + 1) m') (behind far) (more_from m m' (drop NEAR (texts before)) slice.now (NEAR + 1) n known_before absent_behind number step)

  -- `_` has a number that no other variable finds
  pub numbers-anonymous : NEAR ≤ length before → bytes_eq slice.now (codes "_") ≡ true → Numbers m (texts after)
  numbers-anonymous far anonymous = subst (NumbersFrom (NEAR + 1) m) (behind far) (anonymous_from m m (drop NEAR (texts before)) slice.now (NEAR + 1) known_before anonymous)

  -- the map has no number of the first ones
  pub numbers-near : length before < NEAR → Numbers m (texts after)
  numbers-near near =
      let few : length (texts before) ≤ NEAR = omega (arith, near, length-map before (λ s. s.now)) in
      let few' : length (texts after) ≤ NEAR = omega (arith, near, length-map before (λ s. s.now), ap length seen-more, length-append (texts before) (slice.now ∷ [])) in
      let none : drop NEAR (texts before) ≡ [] = drop_of_length-le (texts before) few in
      let none' : drop NEAR (texts after) ≡ [] = drop_of_length-le (texts after) few' in
      subst (NumbersFrom (NEAR + 1) m) (none ∙ sym none') known_before

-- a variable is found among the first ones, or by the map
module _ {S : Type 0} (m : HashMap (Bor (List ℕ)) ℕ S) (items part : List (Bor (List ℕ))) (name : Text) (named : bytes_eq name (codes "_") ≡ false) (first_ones : part ≡ take (min NEAR (length items)) items) where
  found : (o : Option ℕ) → place_in 1 (texts part) name ≡ o → known (texts items) name ≡ or_else o (place_in (NEAR + 1) (drop NEAR (texts items)) name)
  found o e =
      ap (λ b. cond b None (place_in 1 (texts items) name)) named ∙ sym (place_in-split NEAR 1 (texts items) name)
      ∙ ap (λ p. or_else p (place_in (NEAR + 1) (drop NEAR (texts items)) name)) (ap (λ xs. place_in 1 xs name) (take-map (λ s. s.now) NEAR items ∙ sym (ap texts (first_ones ∙ take_min NEAR items))) ∙ e)

  pub known-near : (n : ℕ) → place_in 1 (texts part) name ≡ Some n → Some n ≡ known (texts items) name
  known-near n e = sym (found (Some n) e)

  pub known-far : place_in 1 (texts part) name ≡ None → Numbers m (texts items) → get_by (λ k. bytes_eq name k.now) m ≡ known (texts items) name
  known-far e numbers = numbers name named ∙ sym (found None e)

-- ---- each name is found where it stands

get-push : {A : Type 0} (xs : List A) (x y : A) (at : ℕ) → slice_get (xs ++ x ∷ []) at ≡ Some y → (slice_get xs at ≡ Some y) ⊎ ((at ≡ length xs) × (x ≡ y))
get-push [] x y zero e = inr (refl, cc)
get-push [] x y (suc at) e = inl e
get-push (z ∷ xs) x y zero e = inl e
get-push (z ∷ xs) x y (suc at) e = of (get-push xs x y at e)
  where
    of : (slice_get xs at ≡ Some y) ⊎ ((at ≡ length xs) × (x ≡ y)) → (slice_get (z ∷ xs) (suc at) ≡ Some y) ⊎ ((suc at ≡ length (z ∷ xs)) × (x ≡ y))
    of (inl h) = inl h
    of (inr h) = inr (ap suc h.0, h.1)

pub once-none : AreOnce []
once-none zero s e named = absurd (cc)
once-none (suc at) s e named = absurd (cc)

module _ (before : List (Bor (List ℕ))) (slice : Bor (List ℕ)) (once : AreOnce before) (new : known (texts before) slice.now ≡ None) where
  once_in : (at : ℕ) (s : Bor (List ℕ)) → bytes_eq s.now (codes "_") ≡ false → (slice_get before at ≡ Some s) ⊎ ((at ≡ length before) × (slice ≡ s)) → place_in 1 (texts before ++ slice.now ∷ []) s.now ≡ Some (at + 1)
  once_in at s named (inl h) =
      place_in-push 1 (texts before) slice.now s.now ∙ ap (λ o. or_else o (cond (bytes_eq slice.now s.now) (Some (1 + length (texts before))) None)) (once at s h named)
  once_in at s named (inr h) =
      let same : slice.now ≡ s.now = ap (λ b. b.now) h.1 in
      let absent : place_in 1 (texts before) s.now ≡ None =
      sym (ap (λ b. cond b None (place_in 1 (texts before) s.now)) named) ∙ ap (known (texts before)) (sym same) ∙ new in
      place_in-push 1 (texts before) slice.now s.now
      ∙ ap (λ o. or_else o (cond (bytes_eq slice.now s.now) (Some (1 + length (texts before))) None)) absent
      ∙ ap (λ b. cond b (Some (1 + length (texts before))) None) ((bytes_eq-Decides slice.now s.now).1 same)
      ∙ ap Some (omega (arith, h.0, length-map before (λ b. b.now)))

  pub once-push : (after : List (Bor (List ℕ))) → after ≡ before ++ slice ∷ [] → AreOnce after
  once-push after grown = subst AreOnce (sym grown) (λ at s h named. ap (λ xs. place_in 1 xs s.now) (map-push (λ b. b.now) before slice) ∙ once_in at s named (get-push before slice s at h))

pub get-held : {A : Type 0} (xs : List A) (at : ℕ) (d : A) → at < length xs → slice_get xs at ≡ Some (get_or xs at d)
get-held [] at d h = absurd (omega (arith, h))
get-held (x ∷ xs) zero d h = refl
get-held (x ∷ xs) (suc at) d h = get-held xs at d (omega (arith, h))

-- a name that stands at a place is known by it
pub known-at : (names : List (Bor (List ℕ))) (at : ℕ) (s : Bor (List ℕ)) (name : Text) → AreOnce names → slice_get names at ≡ Some s → bytes_eq s.now name ≡ true → bytes_eq name (codes "_") ≡ false
    → known (texts names) name ≡ Some (at + 1)
known-at names at s name once got same named =
    let is : s.now ≡ name = (bytes_eq-Decides s.now name).0 same in
    ap (λ b. cond b None (place_in 1 (texts names) name)) named
    ∙ subst (λ q. place_in 1 (texts names) q ≡ Some (at + 1)) is (once at s got (ap (λ q. bytes_eq q (codes "_")) is ∙ named))

-- the leaf of a variable that is known, behind which no more are seen
pub leaf-known : (seen : List Text) (text : Text) (n : ℕ) → known seen text ≡ Some n → (Variable n ≡ Variable (number_after seen (known seen text))) × (seen ≡ seen_after seen text (known seen text))
leaf-known seen text n e = (ap (λ o. Variable (number_after seen o)) (sym e), ap (seen_after seen text) (sym e))
