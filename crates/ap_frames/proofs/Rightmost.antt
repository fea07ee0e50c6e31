-- The rightmost element of a kind, found by a walk from the first one on.
use Rattle.std.proofs.Common.{◌≡◌, ℕ, zero, suc, ◌+◌, ◌<◌, ◌≤◌, Bool, true, false, if◌then◌else◌, List, [], ◌∷◌, length, drop, drop_of_length-le, get_or, Option, Some, None, refl, ap, sym, ◌∙◌, arith}
use Rattle.ap_frames.specs.declared.slots.Slot.{Slot}
use Rattle.ap_frames.specs.Slots.{has_more, is_loud_with_more}
use Rattle.ap_frames.specs.Verdicts.{place_behind, rightmost, next_redo}
use Rattle.ap_term.proofs.Lists.{drop-read}

-- what a walk has found that had found p before the first i, and finds o behind them
abbrev pub found_by : ℕ → Option ℕ → Option ℕ → Option ℕ
found_by i p None = p
found_by i p (Some j) = Some (i + j)

pub found_first : (o : Option ℕ) → o ≡ found_by 0 None o
found_first None = refl
found_first (Some j) = let m : j ≡ 0 + j = omega arith in ap Some m

found_step : (i : ℕ) (p o : Option ℕ) (b : Bool) → found_by i p (place_behind o b) ≡ found_by (i + 1) (if b then Some (i + 1) else p) o
found_step i p (Some j) b = let m : i + (j + 1) ≡ (i + 1) + j = omega arith in ap Some m
found_step i p None true = refl
found_step i p None false = refl

pub found_more : {A : Type 0} (f : A → Bool) (xs : List A) (i : ℕ) (x : A) (p q : Option ℕ) → i < length xs → x ≡ get_or xs i x → q ≡ (if f x then Some (i + 1) else p)
    → rightmost f xs ≡ found_by i p (rightmost f (drop i xs)) → rightmost f xs ≡ found_by (i + 1) q (rightmost f (drop (i + 1) xs))
found_more f xs i x p q h e v k =
    k ∙ ap (λ ys. found_by i p (rightmost f ys)) (drop-read xs i x h e) ∙ found_step i p (rightmost f (drop (i + 1) xs)) (f x)
    ∙ ap (λ r. found_by (i + 1) r (rightmost f (drop (i + 1) xs))) (sym v)

pub found_last : {A : Type 0} (f : A → Bool) (xs : List A) (i : ℕ) (p : Option ℕ) → length xs ≤ i → rightmost f xs ≡ found_by i p (rightmost f (drop i xs)) → p ≡ rightmost f xs
found_last f xs i p h k = sym (k ∙ ap (λ ys. found_by i p (rightmost f ys)) (drop_of_length-le xs h))

pub ruleset rightmost_rules = (found_first, found_more, found_last)
