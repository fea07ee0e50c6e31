-- A text cut behind its first line, and what its lines put one after another come to.
use Rattle.std.proofs.Common.{◌≡◌, ℕ, ◌+◌, ◌<◌, ◌≤◌, Bool, true, false, not, List, [], ◌∷◌, ◌++◌, length, take, drop, ◌==◌, if◌then◌else◌, refl, sym, ◌∙◌, ap, append_assoc, append-nil, suc, Option, None, Some, arith, nat_lt, cond, flat_map}
use Rattle.std.proofs.lemmas.Bool.{ltb-true, ltb-false}
use Rattle.std.specs.List.{position, position_or_len}
use Rattle.ap_outside.specs.Halting.{AnyOf}
use Rattle.ap_outside.specs.Pieces.{PrefixOf}
use Rattle.ap_top.specs.TextLines.{begun_by, text_lines, line_length}

abbrev pub is_feed : ℕ → Bool
is_feed b = b == 10

-- the lines one behind another are the text
joined : (b : ℕ) (lines : List (List ℕ)) → flat_map (λ line. line) (begun_by b lines) ≡ b ∷ flat_map (λ line. line) lines
joined b [] = refl
joined b (line ∷ lines) = refl

pub text_whole : (text : List ℕ) → flat_map (λ line. line) (text_lines text) ≡ text
text_whole [] = refl
text_whole (b ∷ bs) = go (b == 10) (text_whole bs)
  where
    go : (e : Bool) → flat_map (λ line. line) (text_lines bs) ≡ bs → flat_map (λ line. line) (if e then (b ∷ []) ∷ text_lines bs else begun_by b (text_lines bs)) ≡ b ∷ bs
    go true rest = ap (λ ls. b ∷ ls) rest
    go false rest = joined b (text_lines bs) ∙ ap (λ ls. b ∷ ls) rest

-- a text is its first line and the lines of what stands behind it
pub first_line : (text : List ℕ) → 0 < length text → text_lines text ≡ take (line_length text) text ∷ text_lines (drop (line_length text) text)
first_line [] some = absurd (omega (arith, some))
first_line (b ∷ []) some = go (b == 10)
  where
    go : (e : Bool) → (if e then (b ∷ []) ∷ [] else begun_by b []) ≡ take (if e then 1 else 1) (b ∷ []) ∷ text_lines (drop (if e then 1 else 1) (b ∷ []))
    go true = refl
    go false = refl
first_line (b ∷ c ∷ cs) some = go (b == 10) (first_line (c ∷ cs) (omega arith))
  where
    n : ℕ
    n = line_length (c ∷ cs)

    go : (e : Bool) → text_lines (c ∷ cs) ≡ take n (c ∷ cs) ∷ text_lines (drop n (c ∷ cs))
        → (if e then (b ∷ []) ∷ text_lines (c ∷ cs) else begun_by b (text_lines (c ∷ cs))) ≡ take (if e then 1 else suc n) (b ∷ c ∷ cs) ∷ text_lines (drop (if e then 1 else suc n) (b ∷ c ∷ cs))
    go true rest = refl
    go false rest = ap (begun_by b) rest

pub length_some : (text : List ℕ) → 0 < length text → 0 < line_length text
length_some [] some = some
length_some (b ∷ bs) some = go (b == 10)
  where
    go : (e : Bool) → 0 < (if e then 1 else suc (line_length bs))
    go true = omega arith
    go false = omega arith

-- it ends behind the first line feed, or where the text ends
length_at : (text : List ℕ) → position_or_len is_feed text < length text → line_length text ≡ position_or_len is_feed text + 1
length_at [] h = absurd (omega (arith, h))
length_at (b ∷ bs) h = go (b == 10) h (length_at bs)
  where
    n : ℕ
    n = position_or_len is_feed bs

    go : (e : Bool) → cond (not e) (1 + n) 0 < length (b ∷ bs) → (n < length bs → line_length bs ≡ n + 1) → (if e then 1 else suc (line_length bs)) ≡ cond (not e) (1 + n) 0 + 1
    go true k r = refl
    go false k r = let l = r (omega (arith, k)) in omega (arith, l)

length_none : (text : List ℕ) → length text ≤ position_or_len is_feed text → line_length text ≡ length text
length_none [] h = refl
length_none (b ∷ bs) h = go (b == 10) h (length_none bs)
  where
    n : ℕ
    n = position_or_len is_feed bs

    go : (e : Bool) → length (b ∷ bs) ≤ cond (not e) (1 + n) 0 → (length bs ≤ n → line_length bs ≡ length bs) → (if e then 1 else suc (line_length bs)) ≡ length (b ∷ bs)
    go true k r = absurd (omega (arith, k))
    go false k r = let l = r (omega (arith, k)) in omega (arith, l)

pub length_to : (text : List ℕ) (r : Option ℕ) (at : ℕ) → r ≡ position is_feed text → r ≡ Some at → at + 1 ≡ line_length text
length_to text r at is some = go (nat_lt n (length text)) refl (sym is ∙ some)
  where
    n : ℕ
    n = position_or_len is_feed text

    go : (b : Bool) → nat_lt n (length text) ≡ b → cond b (Some n) None ≡ Some at → at + 1 ≡ line_length text
    go true f e = let same : n ≡ at = cc in sym (length_at text (ltb-true n (length text) f) ∙ ap (λ k. k + 1) same)
    go false f e = cc

pub length_all : (text : List ℕ) (r : Option ℕ) → r ≡ position is_feed text → r ≡ None → length text ≡ line_length text
length_all text r is none = go (nat_lt n (length text)) refl (sym is ∙ none)
  where
    n : ℕ
    n = position_or_len is_feed text

    go : (b : Bool) → nat_lt n (length text) ≡ b → cond b (Some n) None ≡ None → length text ≡ line_length text
    go true f e = cc
    go false f e = sym (length_none text (ltb-false n (length text) f))

-- behind the lines so far and one more, those of the rest are the text's
module _ (all : List (List ℕ)) (rest line behind : List ℕ) (cut : text_lines rest ≡ line ∷ text_lines behind) where
  pub one_line_more : (ps qs : List (List ℕ)) → ps ++ text_lines rest ≡ all → qs ≡ line ∷ [] → (ps ++ qs) ++ text_lines behind ≡ all
  one_line_more ps qs before is = ap (λ ls. (ps ++ ls) ++ text_lines behind) is ∙ append_assoc ps (line ∷ []) (text_lines behind) ∙ ap (λ ls. ps ++ ls) (sym cut) ∙ before

  pub lines_go_on : (ps qs : List (List ℕ)) → ps ++ text_lines rest ≡ all → AnyOf {T = Unit {0}} (λ _ put. put ≡ line ∷ []) qs → PrefixOf (AnyOf {T = Unit {0}} (λ _ put. put ≡ all)) (ps ++ qs)
  lines_go_on ps qs before any = (text_lines behind, (tt, one_line_more ps qs before any.1))
