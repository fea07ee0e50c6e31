-- A change of the first element that passes a test, and of each in turn.
use Rattle.std.proofs.Common.{◌≡◌, ℕ, zero, suc, ◌+◌, ◌<◌, ◌≤◌, List, [], ◌∷◌, length, get_or, map, refl, ap, sym, ◌∙◌, arith, add-one}
use Rattle.std.proofs.Math.ListN.{set}

-- the first so many elements are changed
abbrev pub each : {A : Type 0} → (A → A) → ℕ → List A → List A
each f zero xs = xs
each f (suc n) [] = []
each f (suc n) (x ∷ xs) = f x ∷ each f n xs

pub each-all : {A : Type 0} (f : A → A) (n : ℕ) (xs : List A) → length xs ≤ n → each f n xs ≡ map f xs
each-all f zero [] l = refl
each-all f zero (x ∷ xs) l = absurd (omega arith)
each-all f (suc n) [] l = refl
each-all f (suc n) (x ∷ xs) l = ap (λ ys. f x ∷ ys) (each-all f n xs (omega arith))

turn : {A : Type 0} (f : A → A) (d : A) (n : ℕ) (xs : List A) → n < length xs → set (each f n xs) n (f (get_or (each f n xs) n d)) ≡ each f (suc n) xs
turn f d zero [] l = absurd (omega arith)
turn f d zero (x ∷ xs) l = refl
turn f d (suc n) [] l = absurd (omega arith)
turn f d (suc n) (x ∷ xs) l = ap (λ ys. f x ∷ ys) (turn f d n xs (omega arith))

-- one more
pub each-turn : {A : Type 0} (f : A → A) (d : A) (n : ℕ) (xs : List A) → n < length xs → set (each f n xs) n (f (get_or (each f n xs) n d)) ≡ each f (n + 1) xs
each-turn f d n xs l = turn f d n xs l ∙ ap (λ m. each f m xs) (sym (add-one n))
