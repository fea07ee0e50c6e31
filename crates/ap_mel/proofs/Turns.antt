-- The walk of a pass over clauses.
use Rattle.std.proofs.Common.{◌≡◌, ℕ, ◌+◌, ◌<◌, Bool, ◌&&◌, [], ◌∷◌, ◌++◌, length, drop, get_or, ap, sym, ◌∙◌, append_assoc}
use Rattle.std.proofs.lemmas.List.{drop_more}
use Rattle.std.proofs.Math.Bool.{and_assoc}
use Rattle.ap_term.specs.Goals.{Clause, Program}
use Rattle.ap_patterns.specs.Given.{Patterns}
use Rattle.ap_mel.specs.declared.annotations.Kind.{Kind}
use Rattle.ap_mel.specs.Mended.{mended_clause, mended_program, is_clause_settled, is_program_settled}

one_clause : (k : Kind) (t : Patterns) (P A : Program) (i : ℕ) (c d : Clause) → i < length P → i < length A → c ≡ get_or P i c → d ≡ get_or A i d
    → mended_program k t (drop i P) (drop i A) ≡ mended_clause k t c d ∷ mended_program k t (drop (i + 1) P) (drop (i + 1) A)
one_clause k t P A i c d l m e f =
    ap (λ z. mended_program k t z (drop i A)) (drop_more P i c l ∙ ap (λ x. x ∷ drop (i + 1) P) (sym e))
    ∙ ap (mended_program k t (c ∷ drop (i + 1) P)) (drop_more A i d m ∙ ap (λ x. x ∷ drop (i + 1) A) (sym f))

one_settled : (k : Kind) (t : Patterns) (P A : Program) (i : ℕ) (c d : Clause) → i < length P → i < length A → c ≡ get_or P i c → d ≡ get_or A i d
    → is_program_settled k t (drop i P) (drop i A) ≡ (is_clause_settled k t c d && is_program_settled k t (drop (i + 1) P) (drop (i + 1) A))
one_settled k t P A i c d l m e f =
    ap (λ z. is_program_settled k t z (drop i A)) (drop_more P i c l ∙ ap (λ x. x ∷ drop (i + 1) P) (sym e))
    ∙ ap (is_program_settled k t (c ∷ drop (i + 1) P)) (drop_more A i d m ∙ ap (λ x. x ∷ drop (i + 1) A) (sym f))

pub clauses-turn : (k : Kind) (t : Patterns) (P A : Program) (i : ℕ) (c d : Clause) (out new whole : Program) → i < length P → i < length A → c ≡ get_or P i c → d ≡ get_or A i d
    → new ≡ out ++ mended_clause k t c d ∷ [] → out ++ mended_program k t (drop i P) (drop i A) ≡ whole → new ++ mended_program k t (drop (i + 1) P) (drop (i + 1) A) ≡ whole
clauses-turn k t P A i c d out new whole l m e f n h =
    ap (λ z. z ++ mended_program k t (drop (i + 1) P) (drop (i + 1) A)) n ∙ append_assoc out (mended_clause k t c d ∷ []) (mended_program k t (drop (i + 1) P) (drop (i + 1) A))
    ∙ ap (λ z. out ++ z) (sym (one_clause k t P A i c d l m e f)) ∙ h

pub all_settled-turn : (k : Kind) (t : Patterns) (P A : Program) (i : ℕ) (c d : Clause) (sofar stays whole : Bool) → i < length P → i < length A → c ≡ get_or P i c → d ≡ get_or A i d
    → stays ≡ is_clause_settled k t c d → (sofar && is_program_settled k t (drop i P) (drop i A)) ≡ whole
    → ((sofar && stays) && is_program_settled k t (drop (i + 1) P) (drop (i + 1) A)) ≡ whole
all_settled-turn k t P A i c d sofar stays whole l m e f n h =
    ap (λ z. (sofar && z) && is_program_settled k t (drop (i + 1) P) (drop (i + 1) A)) n ∙ and_assoc sofar (is_clause_settled k t c d) (is_program_settled k t (drop (i + 1) P) (drop (i + 1) A))
    ∙ ap (λ z. sofar && z) (sym (one_settled k t P A i c d l m e f)) ∙ h
