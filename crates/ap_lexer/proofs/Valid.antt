-- The longest front of a text that is UTF-8.
use Rattle.std.proofs.Common.{◌≡◌, ℕ, zero, suc, ◌+◌, ◌-◌, ◌<◌, ◌≤◌, Bool, true, false, cond, List, [], ◌∷◌, length, take, drop, refl, sym, ap, subst, ◌∙◌, arith, length-take-le, length-drop}
use Rattle.std.proofs.lemmas.List.{drop-take, get_or-take, take-take}
use Rattle.std.proofs.lemmas.Bool.{false≢true}
use Rattle.std.proofs.Math.Seq.{take-add}
use Rattle.std.specs.Prelude.{slice_index}
use Rattle.std.specs.Str.{IsUtf8, is_utf8, IsCharBoundary, IsAscii}
use Rattle.std.specs.Str.Lossy.{utf8_valid_len, valid_len_up_to}
use Rattle.std.proofs.lemmas.Str.{is_utf8-from_IsUtf8, IsUtf8-from_is_utf8, IsUtf8-nil, IsUtf8-append, IsUtf8-take, IsUtf8-drop, IsUtf8-from_ascii, utf8_valid_len_le}

front_of : (bs : List ℕ) (m n : ℕ) (b : Bool) → is_utf8 (take m bs) ≡ b → IsUtf8 (take n bs) → IsUtf8 (take (cond b m n) bs)
front_of bs m n true e u = IsUtf8-from_is_utf8 (take m bs) e
front_of bs m n false e u = u

up_to_front : (bs : List ℕ) (m : ℕ) → IsUtf8 (take (valid_len_up_to bs m) bs)
up_to_front bs zero = IsUtf8-nil
up_to_front bs (suc m) = front_of bs (suc m) (valid_len_up_to bs m) (is_utf8 (take (suc m) bs)) refl (up_to_front bs m)

pub valid_front : (bs : List ℕ) → IsUtf8 (take (utf8_valid_len bs) bs)
unfolding utf8_valid_len
valid_front bs = up_to_front bs (length bs)

least_of : (bs : List ℕ) (n m k : ℕ) (b : Bool) → is_utf8 (take (suc m) bs) ≡ b → IsUtf8 (take n bs) → n ≤ suc m → (n ≤ m → n ≤ k) → n ≤ cond b (suc m) k
least_of bs n m k true e u h below = h
least_of bs n m k false e u h below = below (shorter n m h (λ is. false≢true (sym e ∙ subst (λ j. is_utf8 (take j bs) ≡ true) is (is_utf8-from_IsUtf8 (take n bs) u))))
  where
    shorter : (n m : ℕ) → n ≤ suc m → (n ≡ suc m → ⊥) → n ≤ m
    shorter n m h differs = omega (arith, differs)

up_to_least : (bs : List ℕ) (n m : ℕ) → n ≤ m → IsUtf8 (take n bs) → n ≤ valid_len_up_to bs m
up_to_least bs n zero h u = h
up_to_least bs n (suc m) h u = least_of bs n m (valid_len_up_to bs m) (is_utf8 (take (suc m) bs)) refl u h (λ k. up_to_least bs n m k u)

-- a front that is UTF-8 is no longer
pub valid_least : (bs : List ℕ) (n : ℕ) → n ≤ length bs → IsUtf8 (take n bs) → n ≤ utf8_valid_len bs
unfolding utf8_valid_len
valid_least bs n h u = up_to_least bs n (length bs) h u

one_ascii : (b : ℕ) → b < 128 → IsAscii (b ∷ [])
one_ascii b h zero = h
one_ascii b h (suc i) = omega arith

-- an ASCII byte at the front is a character
pub valid_some : (bs : List ℕ) → 0 < length bs → slice_index bs 0 < 128 → 0 < utf8_valid_len bs
valid_some [] h k = absurd (omega arith)
valid_some (b ∷ bs) h k = omega (arith, valid_least (b ∷ bs) 1 (omega arith) (IsUtf8-from_ascii (b ∷ []) (one_ascii b k)))

-- the same front, seen from an ASCII byte in it
pub valid_later : (bs : List ℕ) (n : ℕ) → n ≤ utf8_valid_len bs → slice_index bs n < 128 → utf8_valid_len (drop n bs) ≡ utf8_valid_len bs - n
valid_later bs n h ascii =
    let v = utf8_valid_len bs in
    let w = utf8_valid_len (drop n bs) in
    let front = take v bs in
    let long : length front ≡ v = length-take-le v bs (utf8_valid_len_le bs) in
    let may_cut : IsCharBoundary front n = (omega (arith, long), λ inside lead. absurd (omega (arith, long, ascii, lead, get_or-take v bs n 0 (omega (arith, long, inside))))) in
    let split : n + (v - n) ≡ v = omega arith in
    let behind : IsUtf8 (take (v - n) (drop n bs)) = subst IsUtf8 (ap (λ k. drop n (take k bs)) (sym split) ∙ drop-take n (v - n) bs) (IsUtf8-drop front n (valid_front bs) may_cut) in
    let before : IsUtf8 (take n bs) = subst IsUtf8 (take-take n v bs h) (IsUtf8-take front n (valid_front bs) may_cut) in
    let both : IsUtf8 (take (n + w) bs) = subst IsUtf8 (sym (take-add n w bs)) (IsUtf8-append (take n bs) (take w (drop n bs)) before (valid_front (drop n bs))) in
    omega (
      arith,
      length-drop n bs,
      utf8_valid_len_le bs,
      utf8_valid_len_le (drop n bs),
      valid_least (drop n bs) (v - n) (omega (arith, length-drop n bs, utf8_valid_len_le bs)) behind,
      valid_least bs (n + w) (omega (arith, length-drop n bs, utf8_valid_len_le bs, utf8_valid_len_le (drop n bs))) both,
    )
