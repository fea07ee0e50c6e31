-- What is read of a reader's bytes, and what a writer gets.
use Rattle.std.proofs.Common.{◌≡◌, ℕ, ◌+◌, ◌-◌, ◌^◌, ◌<◌, ◌≤◌, min, List, ◌++◌, length, take, drop, ap, append_assoc, sym, ◌∙◌, arith, Option, None, Some, IfSome, option_map}
use Rattle.std.proofs.lemmas.Grind.{common_steps}
use Rattle.std.proofs.lemmas.List.{drop-take, take-append-drop}
use Rattle.std.specs.Io.KnownBytes.{Appends}

-- what was cut one behind a limit and is within it is all
pub all_within : (limit : ℕ) (known : Option (List ℕ)) (items : List ℕ) → IfSome (option_map (take (min (limit + 1) (2 ^ 64 - 1))) known) (λ bytes. items ≡ bytes) →
    length items ≤ limit → length items < 2 ^ 63 → IfSome known (λ bytes. items ≡ bytes)
all_within limit None items cut within short = tt
all_within limit (Some bytes) items cut within short =
    let n = min (limit + 1) (2 ^ 64 - 1) in
    let more : length items < n = omega arith in
    let whole : take n bytes ≡ bytes = grind (arith, common_steps, cut, more) in
    cut ∙ whole

-- a piece's next bytes are written behind those before them
pub appends_more : (a b c : Option (List ℕ)) (piece : List ℕ) (n k : ℕ) → Appends a b (take n piece) → Appends b c (take k (drop n piece)) → Appends a c (take (n + k) piece)
appends_more None b c piece n k f g = tt
appends_more (Some xs) None c piece n k f g = absurd f
appends_more (Some xs) (Some ys) None piece n k f g = g
appends_more (Some xs) (Some ys) (Some zs) piece n k f g =
    let front : take n (take (n + k) piece) ≡ take n piece = grind (arith, common_steps) in
    let whole : take n piece ++ take k (drop n piece) ≡ take (n + k) piece =
    ap (λ bytes. bytes ++ take k (drop n piece)) (sym front) ∙ ap (λ bytes. take n (take (n + k) piece) ++ bytes) (sym (drop-take n k piece)) ∙ take-append-drop n (take (n + k) piece) in
    g ∙ ap (λ front. front ++ take k (drop n piece)) f ∙ append_assoc xs (take n piece) (take k (drop n piece)) ∙ ap (λ more. xs ++ more) whole
