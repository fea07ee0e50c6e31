-- One lexeme after another.
use Rattle.std.proofs.Common.{◌≡◌, ℕ, zero, suc, ◌-◌, ◌<◌, [], ◌∷◌, length, drop, refl, ap, ◌∙◌, arith}
use Rattle.ap_lexer.specs.Lexeme.{Text, lexeme, lexemes, lexemes_from}

from-drop : (n : ℕ) (text : Text) → lexemes_from n text ≡ lexemes_from 0 (drop n text)
from-drop zero text = refl
from-drop (suc n) [] = refl
from-drop (suc n) (b ∷ text) = from-drop n text

drop-cons : (n b : ℕ) (text : Text) → 0 < n → drop (n - 1) text ≡ drop n (b ∷ text)
drop-cons zero b text h = absurd (omega arith)
drop-cons (suc n) b text h = let e : suc n - 1 ≡ n = omega arith in ap (λ k. drop k text) e

pub lexemes-cons : (text : Text) → 0 < length text → 0 < (lexeme text).1 → lexemes text ≡ lexeme text ∷ lexemes (drop (lexeme text).1 text)
unfolding lexemes
lexemes-cons [] h k = absurd (omega arith)
lexemes-cons (b ∷ text) h k = ap (λ xs. lexeme (b ∷ text) ∷ xs) (from-drop ((lexeme (b ∷ text)).1 - 1) text ∙ ap (lexemes_from 0) (drop-cons (lexeme (b ∷ text)).1 b text k))

pub lexemes-nil : lexemes [] ≡ []
unfolding lexemes
lexemes-nil = refl
