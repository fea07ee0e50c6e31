-- The marks of an entry, one place after another.
use Rattle.std.proofs.Common.{◌≡◌, ℕ, suc, ◌+◌, ◌<◌, ◌≤◌, if◌then◌else◌, List, [], ◌∷◌, length, drop, get_or, ap, sym, ◌∙◌}
use Rattle.std.proofs.lemmas.List.{drop_more, drop_all}
use Rattle.ap_sharing.specs.VarSet.{empty, just, union}
use Rattle.ap_patterns.specs.declared.entries.Mark.{Mark}
use Rattle.ap_patterns.specs.declared.entries.Mark.TheVariants.{Ground, Free, Any}
use Rattle.ap_patterns.specs.Entry.{is_free_mark, is_any_mark, free_marks, any_marks}
use Rattle.ap_sharing.proofs.Elements.{empty-union, union-empty}
use Rattle.ap_patterns.proofs.Arguments.{two, turn}

free_marks-more : (i : ℕ) (ms : List Mark) → i < length ms
    → free_marks (i + 1) (drop i ms) ≡ union (if is_free_mark (get_or ms i Ground) then just (i + 1) else empty) (free_marks (i + 1 + 1) (drop (i + 1) ms))
free_marks-more i ms h = ap (free_marks (i + 1)) (drop_more ms i Ground h) ∙ go (get_or ms i Ground)
  where
    go : (k : Mark) → free_marks (i + 1) (k ∷ drop (i + 1) ms) ≡ union (if is_free_mark k then just (i + 1) else empty) (free_marks (i + 1 + 1) (drop (i + 1) ms))
    go Free = ap (λ j. union (just (i + 1)) (free_marks j (drop (i + 1) ms))) (two i)
    go Ground = sym (empty-union (free_marks (suc (i + 1)) (drop (i + 1) ms))) ∙ ap (λ j. union empty (free_marks j (drop (i + 1) ms))) (two i)
    go Any = sym (empty-union (free_marks (suc (i + 1)) (drop (i + 1) ms))) ∙ ap (λ j. union empty (free_marks j (drop (i + 1) ms))) (two i)

any_marks-more : (i : ℕ) (ms : List Mark) → i < length ms
    → any_marks (i + 1) (drop i ms) ≡ union (if is_any_mark (get_or ms i Ground) then just (i + 1) else empty) (any_marks (i + 1 + 1) (drop (i + 1) ms))
any_marks-more i ms h = ap (any_marks (i + 1)) (drop_more ms i Ground h) ∙ go (get_or ms i Ground)
  where
    go : (k : Mark) → any_marks (i + 1) (k ∷ drop (i + 1) ms) ≡ union (if is_any_mark k then just (i + 1) else empty) (any_marks (i + 1 + 1) (drop (i + 1) ms))
    go Any = ap (λ j. union (just (i + 1)) (any_marks j (drop (i + 1) ms))) (two i)
    go Ground = sym (empty-union (any_marks (suc (i + 1)) (drop (i + 1) ms))) ∙ ap (λ j. union empty (any_marks j (drop (i + 1) ms))) (two i)
    go Free = sym (empty-union (any_marks (suc (i + 1)) (drop (i + 1) ms))) ∙ ap (λ j. union empty (any_marks j (drop (i + 1) ms))) (two i)

pub free_marks-turn : (found new i whole : ℕ) (ms : List Mark) → i < length ms → new ≡ union found (if is_free_mark (get_or ms i Ground) then just (i + 1) else empty)
    → union found (free_marks (i + 1) (drop i ms)) ≡ whole → union new (free_marks (i + 1 + 1) (drop (i + 1) ms)) ≡ whole
free_marks-turn found new i whole ms h n w =
    turn found new (if is_free_mark (get_or ms i Ground) then just (i + 1) else empty) (free_marks (i + 1) (drop i ms)) (free_marks (i + 1 + 1) (drop (i + 1) ms)) whole n (free_marks-more i ms h) w

pub any_marks-turn : (found new i whole : ℕ) (ms : List Mark) → i < length ms → new ≡ union found (if is_any_mark (get_or ms i Ground) then just (i + 1) else empty)
    → union found (any_marks (i + 1) (drop i ms)) ≡ whole → union new (any_marks (i + 1 + 1) (drop (i + 1) ms)) ≡ whole
any_marks-turn found new i whole ms h n w =
    turn found new (if is_any_mark (get_or ms i Ground) then just (i + 1) else empty) (any_marks (i + 1) (drop i ms)) (any_marks (i + 1 + 1) (drop (i + 1) ms)) whole n (any_marks-more i ms h) w

pub marks_done : (F : List Mark → ℕ) → F [] ≡ empty → (ms : List Mark) (i found whole : ℕ) → length ms ≤ i → union found (F (drop i ms)) ≡ whole → found ≡ whole
marks_done F nothing ms i found whole h w = sym (union-empty found) ∙ ap (union found) (sym nothing) ∙ ap (λ ks. union found (F ks)) (sym (drop_all i ms h)) ∙ w
