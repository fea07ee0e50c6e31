-- Words, leaves and variables of tokens don't depend on places.
use Rattle.std.proofs.Common.{◌≡◌, ℕ, ◌+◌, ◌==◌, Bool, List, [], ◌∷◌, ◌++◌, length, drop, Option, Some, None, slice_get, refl, sym, ap, ◌∙◌, append_assoc, zero, suc}
use Rattle.std.proofs.lemmas.List.{drop-drop}
use Rattle.ap_lexer.specs.declared.kind.TokenKind.{TokenKind}
use Rattle.ap_lexer.specs.declared.kind.TokenKind.TheVariants as token
use Rattle.ap_lexer.specs.Lexeme.{Text}
use Rattle.ap_lexer.specs.Law.{Spelled, unplaced, touches_next}
use Rattle.ap_lexer.specs.Token.{Placed}
use Rattle.ap_reader.specs.declared.word.Word.{Word}
use Rattle.ap_reader.specs.Word.{word_by, words_from}
use Rattle.ap_reader.specs.Written.{Written, leaf_by, seen_by, leaves, variables}
use Rattle.ap_readback.specs.Unplaced.{word_of, words_of, leaves_of, variables_of}
use Rattle.ap_term.proofs.Lists.{nil-push}

heads : {A : Type 0} (x y : A) (xs ys : List A) → x ∷ xs ≡ y ∷ ys → x ≡ y
heads x y xs ys e = cc

tails : {A : Type 0} (x y : A) (xs ys : List A) → x ∷ xs ≡ y ∷ ys → xs ≡ ys
tails x y xs ys e = cc

-- the word of a token before another, and of the last one
word-next : (kind : TokenKind) (at : ℕ) (before : Option TokenKind) (t u : Placed) → word_by kind at before t (Some u) ≡ word_of kind at before t.text (Some u.kind) (t.to == u.from)
word-next token.Name at before t u = refl
word-next kind at before t u = refl

word-last : (kind : TokenKind) (at : ℕ) (before : Option TokenKind) (t : Placed) (touches : Bool) → word_by kind at before t None ≡ word_of kind at before t.text None touches
word-last token.Name at before t touches = refl
word-last kind at before t touches = refl

abbrev without_place : Placed → List Placed → Spelled
without_place t ts = record { kind = t.kind; text = t.text; touches = touches_next t.to ts }

abbrev as_word : ℕ → Option TokenKind → Option TokenKind → Spelled → Word
as_word at before after t = word_of t.kind at before t.text after t.touches

-- the tokens before a last one, with places and without
pub words-front : (front : List Placed) (last : Placed) (xs : List Spelled) (e : Spelled) (before : Option TokenKind) (at : ℕ) → unplaced (front ++ last ∷ []) ≡ xs ++ e ∷ []
    → words_from before at front ≡ words_of before at xs
words-front [] last [] e before at h = refl
words-front [] last (x ∷ xs) e before at h = absurd (nil-push xs e (tails (without_place last []) x [] (xs ++ e ∷ []) h))
words-front (t ∷ []) last [] e before at h = absurd (cc)
words-front (t ∷ u ∷ us) last [] e before at h = absurd (cc)
words-front (t ∷ []) last (x ∷ []) e before at h =
    let same : without_place t (last ∷ []) ≡ x = heads _ x _ (e ∷ []) h in
    ap (λ w. w ∷ []) (word-last t.kind at before t (touches_next t.to (last ∷ [])) ∙ ap (as_word at before None) same)
words-front (t ∷ []) last (x ∷ y ∷ xs) e before at h =
    let others : without_place last [] ∷ [] ≡ y ∷ (xs ++ e ∷ []) = tails (without_place t (last ∷ [])) x _ _ h in
    absurd (nil-push xs e (tails (without_place last []) y [] (xs ++ e ∷ []) others))
words-front (t ∷ u ∷ us) last (x ∷ []) e before at h =
    let others : without_place u (us ++ last ∷ []) ∷ unplaced (us ++ last ∷ []) ≡ e ∷ [] = tails (without_place t (u ∷ (us ++ last ∷ []))) x _ _ h in
    absurd (some us (tails (without_place u (us ++ last ∷ [])) e _ [] others))
  where
    some : (vs : List Placed) → unplaced (vs ++ last ∷ []) ≡ [] → ⊥
    some [] e = cc
    some (v ∷ vs) e = cc
words-front (t ∷ u ∷ us) last (x ∷ y ∷ xs) e before at h =
    let same : without_place t (u ∷ (us ++ last ∷ [])) ≡ x = heads _ x _ (y ∷ (xs ++ e ∷ [])) h in
    let others : unplaced (u ∷ (us ++ last ∷ [])) ≡ y ∷ (xs ++ e ∷ []) = tails (without_place t (u ∷ (us ++ last ∷ []))) x _ _ h in
    let next : without_place u (us ++ last ∷ []) ≡ y = heads _ y _ (xs ++ e ∷ []) others in
    let word : word_by t.kind at before t (Some u) ≡ word_of x.kind at before x.text (Some y.kind) x.touches =
    word-next t.kind at before t u ∙ ap (as_word at before (Some u.kind)) same ∙ ap (λ (n : Spelled). word_of x.kind at before x.text (Some n.kind) x.touches) next in
    ap (λ w. w ∷ words_from (Some t.kind) (at + 1) (u ∷ us)) word
    ∙ ap (λ l. word_of x.kind at before x.text (Some y.kind) x.touches ∷ l) (words-front (u ∷ us) last (y ∷ xs) e (Some t.kind) (at + 1) others ∙ ap (λ (n : Spelled). words_of (Some n.kind) (at + 1) (y ∷ xs)) same)

pub leaves-front : (front : List Placed) (last : Placed) (xs : List Spelled) (e : Spelled) (seen : List Text) → unplaced (front ++ last ∷ []) ≡ xs ++ e ∷ []
    → (leaves seen front ≡ leaves_of seen xs) × (variables seen front ≡ variables_of seen xs)
leaves-front [] last [] e seen h = (refl, refl)
leaves-front [] last (x ∷ xs) e seen h = absurd (nil-push xs e (tails (without_place last []) x [] (xs ++ e ∷ []) h))
leaves-front (t ∷ front) last [] e seen h = absurd (some front (tails (without_place t (front ++ last ∷ [])) e _ [] h))
  where
    some : (vs : List Placed) → unplaced (vs ++ last ∷ []) ≡ [] → ⊥
    some [] e = cc
    some (v ∷ vs) e = cc
leaves-front (t ∷ front) last (x ∷ xs) e seen h =
    let same : without_place t (front ++ last ∷ []) ≡ x = heads _ x _ (xs ++ e ∷ []) h in
    let others : unplaced (front ++ last ∷ []) ≡ xs ++ e ∷ [] = tails (without_place t (front ++ last ∷ [])) x _ _ h in
    let rest = leaves-front front last xs e (seen_by t.kind seen t.text) others in (
      ap (λ l. leaf_by t.kind seen t.text ∷ l) rest.0 ∙ ap (λ (s : Spelled). leaf_by s.kind seen s.text ∷ leaves_of (seen_by s.kind seen s.text) xs) same,
      rest.1 ∙ ap (λ (s : Spelled). variables_of (seen_by s.kind seen s.text) xs) same,
    )

-- ---- lists of tokens, one behind the other

pub variables-append : (seen : List Text) (xs ys : List Spelled) → variables_of seen (xs ++ ys) ≡ variables_of (variables_of seen xs) ys
variables-append seen [] ys = refl
variables-append seen (t ∷ xs) ys = variables-append (seen_by t.kind seen t.text) xs ys

leaves-append : (seen : List Text) (xs ys : List Spelled) → leaves_of seen (xs ++ ys) ≡ leaves_of seen xs ++ leaves_of (variables_of seen xs) ys
leaves-append seen [] ys = refl
leaves-append seen (t ∷ xs) ys = ap (λ l. leaf_by t.kind seen t.text ∷ l) (leaves-append (seen_by t.kind seen t.text) xs ys)

drop-leaves : (seen : List Text) (xs : List Spelled) (after : List Written) → drop (length xs) (leaves_of seen xs ++ after) ≡ after
drop-leaves seen [] after = refl
drop-leaves seen (t ∷ xs) after = drop-leaves (seen_by t.kind seen t.text) xs after

drop-drop_at : (n m : ℕ) (xs : List Written) → drop m (drop n xs) ≡ drop (n + m) xs
drop-drop_at n m xs = drop-drop m n xs

-- the leaves of a place on, and of what stands behind its first tokens
pub leaves_there : (all : List Written) (at : ℕ) (seen : List Text) (xs ys : List Spelled) (after : List Written) → drop at all ≡ leaves_of seen (xs ++ ys) ++ after
    → (drop at all ≡ leaves_of seen xs ++ (leaves_of (variables_of seen xs) ys ++ after)) × (drop (at + length xs) all ≡ leaves_of (variables_of seen xs) ys ++ after)
leaves_there all at seen xs ys after h =
    let front = h ∙ ap (λ l. l ++ after) (leaves-append seen xs ys) ∙ append_assoc (leaves_of seen xs) (leaves_of (variables_of seen xs) ys) after in
    (front, sym (drop-drop_at at (length xs) all) ∙ ap (drop (length xs)) front ∙ drop-leaves seen xs (leaves_of (variables_of seen xs) ys ++ after))

pub get-drop : (xs : List Written) (at : ℕ) (y : Written) (ys : List Written) → drop at xs ≡ y ∷ ys → slice_get xs at ≡ Some y
get-drop [] zero y ys h = cc
get-drop [] (suc at) y ys h = cc
get-drop (x ∷ xs) zero y ys h = ap Some (heads x y xs ys h)
get-drop (x ∷ xs) (suc at) y ys h = get-drop xs at y ys h

pub drop-one : (xs : List Written) (at : ℕ) (y : Written) (ys : List Written) → drop at xs ≡ y ∷ ys → drop (at + 1) xs ≡ ys
drop-one xs at y ys h = sym (drop-drop_at at 1 xs) ∙ ap (drop 1) h
