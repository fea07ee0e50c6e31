-- One turn of the loop over a text's lexemes.
use Rattle.std.proofs.Common.{◌≡◌, ℕ, ◌+◌, ◌<◌, ◌≤◌, ◌==◌, List, ◌∷◌, ◌++◌, length, take, drop, Option, sym, ap, ◌∙◌, append_assoc, arith, length-drop, length-take, cond, Bool}
use Rattle.std.specs.Prelude.{count_by}
use Rattle.std.proofs.Math.Seq.{take-add}
use Rattle.std.proofs.lemmas.List.Sums.{count_by-le-length, sum_by-append}
use Rattle.std.proofs.lemmas.List.{drop-drop}
use Rattle.std.proofs.Math.ListN.{drop_of_length-le}
use Rattle.ap_lexer.specs.declared.cut.Piece.{Piece}
use Rattle.ap_lexer.specs.Lexeme.{Text, Lexeme, lexeme, lexemes}
use Rattle.ap_lexer.specs.Piece.{line_at, role, start, begun_after, ended_by, pieces_from, unended}
use Rattle.ap_lexer.proofs.Lexemes.{lexemes-cons, lexemes-nil}

count_by-append : (p : ℕ → Bool) (xs ys : List ℕ) → count_by p (xs ++ ys) ≡ count_by p xs + count_by p ys
count_by-append p xs ys = sum_by-append (λ x. cond (p x) 1 0) xs ys

pub feeds_few : (text : Text) (at n : ℕ) → count_by (λ b. b == 10) (take n (drop at text)) ≤ n
feeds_few text at n = omega (arith, count_by-le-length (λ b. b == 10) (take n (drop at text)), length-take n (drop at text))

pub line_more : (text : Text) (at n : ℕ) → line_at text (at + n) ≡ line_at text at + count_by (λ b. b == 10) (take n (drop at text))
line_more text at n =
    let split = ap (count_by (λ b. b == 10)) (take-add at n text) ∙ count_by-append (λ b. b == 10) (take at text) (take n (drop at text)) in
    omega (arith, split)

pub turned : (text : Text) (at : ℕ) (b : Option ℕ) (out new all : List Piece) (x : Lexeme) → at < length text → 0 < x.1 → x ≡ lexeme (drop at text) → new ≡ out ++ ended_by (role x.0) text (start b at) at (at + x.1) → out ++ pieces_from text at b (lexemes (drop at text)) ≡ all → new ++ pieces_from text (at + x.1) (begun_after (role x.0) b at) (lexemes (drop (at + x.1) text)) ≡ all
turned text at b out new all x h k is e before =
    let some : 0 < length (drop at text) = omega (arith, length-drop at text) in
    let long : 0 < (lexeme (drop at text)).1 = omega (arith, ap (λ y. y.1) is) in
    let cons = lexemes-cons (drop at text) some long ∙ ap (λ y. y ∷ lexemes (drop y.1 (drop at text))) (sym is) ∙ ap (λ xs. x ∷ lexemes xs) (drop-drop x.1 at text) in
    ap (λ l. l ++ pieces_from text (at + x.1) (begun_after (role x.0) b at) (lexemes (drop (at + x.1) text))) e ∙ append_assoc out (ended_by (role x.0) text (start b at) at (at + x.1)) (pieces_from text (at + x.1) (begun_after (role x.0) b at) (lexemes (drop (at + x.1) text))) ∙ sym (ap (λ xs. out ++ pieces_from text at b xs) cons) ∙ before

pub ended_at : (text : Text) (at : ℕ) (b : Option ℕ) (out new all : List Piece) → length text ≤ at → new ≡ out ++ unended text at b → out ++ pieces_from text at b (lexemes (drop at text)) ≡ all → new ≡ all
ended_at text at b out new all h e before =
    e ∙ sym (ap (λ xs. out ++ pieces_from text at b xs) (ap lexemes (drop_of_length-le text h) ∙ lexemes-nil)) ∙ before
