-- One turn of the loop over a piece's lexemes, and its end.
use Rattle.std.proofs.Common.{◌≡◌, ℕ, ◌+◌, ◌<◌, ◌≤◌, List, [], ◌∷◌, ◌++◌, length, drop, refl, sym, ap, ◌∙◌, append_assoc, arith, length-drop, cond}
use Rattle.std.proofs.lemmas.List.{drop-drop, append-nil}
use Rattle.std.proofs.lemmas.Bool.{lt-ltb, le-ltb}
use Rattle.ap_lexer.specs.Lexeme.{Text, Lexeme, lexeme, lexemes}
use Rattle.ap_lexer.specs.Token.{Placed, token_of, tokens_from}
use Rattle.ap_lexer.proofs.Lexemes.{lexemes-cons}

pub turned : (text : Text) (at to : ℕ) (out new all : List Placed) (x : Lexeme) → at < length text → at < to → 0 < x.1 → x ≡ lexeme (drop at text) → new ≡ out ++ token_of x.0 text at x.1 → out ++ tokens_from text at to (lexemes (drop at text)) ≡ all → new ++ tokens_from text (at + x.1) to (lexemes (drop (at + x.1) text)) ≡ all
turned text at to out new all x h inside k is e before =
    let some : 0 < length (drop at text) = omega (arith, length-drop at text) in
    let long : 0 < (lexeme (drop at text)).1 = omega (arith, ap (λ y. y.1) is) in
    let rest = tokens_from text (at + x.1) to (lexemes (drop (at + x.1) text)) in
    let here = token_of x.0 text at x.1 in
    let cons = lexemes-cons (drop at text) some long ∙ ap (λ y. y ∷ lexemes (drop y.1 (drop at text))) (sym is) ∙ ap (λ xs. x ∷ lexemes xs) (drop-drop x.1 at text) in
    let step = ap (tokens_from text at to) cons ∙ ap (λ b. cond b (here ++ rest) []) (lt-ltb at to inside) in
    ap (λ l. l ++ rest) e ∙ append_assoc out here rest ∙ sym (ap (λ l. out ++ l) step) ∙ before

pub past_end : (text : Text) (at to : ℕ) (xs : List Lexeme) → to ≤ at → tokens_from text at to xs ≡ []
past_end text at to [] h = refl
past_end text at to (x ∷ xs) h = ap (λ b. cond b (token_of x.0 text at x.1 ++ tokens_from text (at + x.1) to xs) []) (le-ltb at to h)

pub ended_past : (text : Text) (at to : ℕ) (out all : List Placed) → to ≤ at → out ++ tokens_from text at to (lexemes (drop at text)) ≡ all → out ≡ all
ended_past text at to out all h before = sym (append-nil out) ∙ sym (ap (λ l. out ++ l) (past_end text at to (lexemes (drop at text)) h)) ∙ before
