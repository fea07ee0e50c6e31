-- Each text has one cutting.
use Rattle.std.proofs.Common.{◌≡◌, ℕ, zero, suc, ◌<◌, ◌≤◌, List, [], ◌∷◌, ◌++◌, length, take, drop, refl, sym, ap, subst, ◌∙◌, arith, length-drop}
use Rattle.std.specs.List.{concat}
use Rattle.std.proofs.lemmas.List.{take-append-drop}
use Rattle.ap_lexer.specs.Lexeme.{Text, Lexeme, lexeme, lexemes}
use Rattle.ap_lexer.specs.Law.{IsCutting, spellings, HasOneCutting}
use Rattle.ap_lexer.proofs.Lexemes.{lexemes-cons, lexemes-nil}
use Rattle.ap_lexer.proofs.Within.{lexeme_within}

cut_up_to : (n : ℕ) (text : Text) → length text ≤ n → IsCutting text (lexemes text)
cut_up_to n [] h = subst (IsCutting []) (sym lexemes-nil) refl
cut_up_to zero (b ∷ text) h = absurd (omega (arith, h))
cut_up_to (suc n) (b ∷ text) h =
    let within = lexeme_within (b ∷ text) (omega arith) in
    let rest = cut_up_to n (drop (lexeme (b ∷ text)).1 (b ∷ text)) (omega (arith, h, within.0, length-drop (lexeme (b ∷ text)).1 (b ∷ text))) in
    subst (IsCutting (b ∷ text)) (sym (lexemes-cons (b ∷ text) (omega arith) within.0)) (within.0, within.1, refl, rest)

pub cut : (text : Text) → IsCutting text (lexemes text)
cut text = cut_up_to (length text) text (omega arith)

pub one : (text : Text) (xs : List Lexeme) → IsCutting text xs → xs ≡ lexemes text
one text [] e = sym (ap lexemes e ∙ lexemes-nil)
one text (x ∷ xs) c =
    let long : 0 < (lexeme text).1 = subst (λ y. 0 < y.1) c.2 c.0 in
    ap (λ ys. x ∷ ys) (one (drop x.1 text) xs c.3) ∙ ap (λ y. y ∷ lexemes (drop y.1 text)) c.2 ∙ sym (lexemes-cons text (omega (arith, c.0, c.1)) long)

whole : (text : Text) (xs : List Lexeme) → IsCutting text xs → concat (spellings text xs) ≡ text
whole text [] e = sym e
whole text (x ∷ xs) c = ap (λ l. take x.1 text ++ l) (whole (drop x.1 text) xs c.3) ∙ take-append-drop x.1 text

pub has_one : (text : Text) → HasOneCutting text
has_one text = record { cut = cut text; one = one text; whole = whole text (lexemes text) (cut text) }
