-- What follows when pieces are put one after another.
use Rattle.std.proofs.Common.{ℕ, List, [], ◌∷◌, ◌++◌, ap, append_assoc, Option, None, Some, inl, inr, arith}
use Rattle.std.proofs.lemmas.Grind.{common_steps}
use Rattle.ap_outside.specs.Pieces.{Adds, Puts, FrontOf, CutOf, IsBeginningOf}

pub adds_nothing : (a : Option (List (List ℕ))) → Adds a a []
adds_nothing None = tt
adds_nothing (Some xs) = grind (arith, common_steps)

pub adds_then : (a b c : Option (List (List ℕ))) (xs ys : List (List ℕ)) → Adds a b xs → Adds b c ys → Adds a c (xs ++ ys)
adds_then None b c xs ys f g = tt
adds_then (Some u) None c xs ys f g = absurd f
adds_then (Some u) (Some v) None xs ys f g = g
adds_then (Some u) (Some v) (Some w) xs ys f g = rw (g, f) (append_assoc u xs ys)

-- lines with P, then lines with Q, are lines with R
pub puts_then : (a b c : Option (List (List ℕ))) (P Q R : List (List ℕ) → Type 0) →
    ((ps qs : List (List ℕ)) → P ps → Q qs → R (ps ++ qs)) → Puts a b P → Puts b c Q → Puts a c R
puts_then a b c P Q R both f g = (f.0 ++ g.0, adds_then a b c f.0 g.0 f.1 g.1, both f.0 g.0 f.2 g.2)

pub puts_map : (a b : Option (List (List ℕ))) (P R : List (List ℕ) → Type 0) → ((ps : List (List ℕ)) → P ps → R ps) → Puts a b P → Puts a b R
puts_map a b P R f puts = (puts.0, puts.1, f puts.0 puts.2)

pub front_map : (P R : List (List ℕ) → Type 0) → ((ps : List (List ℕ)) → P ps → R ps) → (qs : List (List ℕ)) → FrontOf P qs → FrontOf R qs
front_map P R f qs (inl none) = inl none
front_map P R f qs (inr some) = inr (some.0, f (qs ++ some.0) some.1)

pub cut_map : (P R : List (List ℕ) → Type 0) → ((ps : List (List ℕ)) → P ps → R ps) → (qs : List (List ℕ)) → CutOf P qs → CutOf R qs
cut_map P R f qs cut = (cut.0, cut.1, cut.2, cut.3, cut.4, cut.5, f (cut.0 ++ cut.1 ∷ cut.2) cut.6)

-- lines, and then a beginning of the next one
pub cut_behind : (P : List (List ℕ) → Type 0) (before : List (List ℕ)) (line : List ℕ) (rest ps : List (List ℕ)) → P (before ++ line ∷ rest) → IsBeginningOf line ps → CutOf P (before ++ ps)
cut_behind P before line rest ps whole begins = (before, line, rest, begins.0, ap (λ qs. before ++ qs) begins.1, begins.2, whole)
