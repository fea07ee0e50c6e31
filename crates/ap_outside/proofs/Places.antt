-- A list of lines cut at a place.
use Rattle.std.proofs.Common.{◌≡◌, ℕ, ◌+◌, ◌<◌, List, [], ◌∷◌, ◌++◌, take, drop, map, get_or, length, append_assoc, sym, ◌∙◌, ap, drop-cons, add-one, suc}
use Rattle.std.proofs.lemmas.List.{take-append-drop, map-append}

-- the lines before a place, the one there, and those behind it
pub at_place : {X Y : Type 0} (f : X → Y) (xs : List X) (i : ℕ) (x : X) → i < length xs → x ≡ get_or xs i x →
    (map f (take i xs) ++ f x ∷ []) ++ map f (drop (i + 1) xs) ≡ map f xs
at_place f xs i x within is =
    let cut : drop i xs ≡ x ∷ drop (i + 1) xs = rw add-one (drop-cons xs i x within ∙ ap (λ y. y ∷ drop (suc i) xs) (sym is)) in
    let whole : take i xs ++ (x ∷ drop (i + 1) xs) ≡ xs = rw (← cut) (take-append-drop i xs) in
    append_assoc (map f (take i xs)) (f x ∷ []) (map f (drop (i + 1) xs)) ∙ sym (map-append f (take i xs) (x ∷ drop (i + 1) xs)) ∙ ap (map f) whole
