-- The tests of a byte in another order: no solo character is of another class.
use Rattle.std.proofs.Common.{◌≡◌, ℕ, ◌==◌, ◌||◌, Option, Some, refl, sym, ap, ◌∙◌}
use Rattle.std.specs.Prelude.{if◌then◌else◌, slice_index}
use Rattle.std.specs.Char.{is_ascii_digit, is_ascii_lowercase, is_ascii_uppercase}
use Rattle.std.proofs.lemmas.Bool.{eqb-true, cond_both}
use Rattle.std.proofs.lemmas.Option.{none-some, same_Some}
use Rattle.ap_lexer.specs.declared.bytes.Class.TheVariants as class
use Rattle.ap_lexer.specs.declared.kind.TokenKind.{TokenKind}
use Rattle.ap_lexer.specs.declared.kind.TokenKind.TheVariants as token
use Rattle.ap_lexer.specs.declared.kind.LexemeKind.TheVariants as kind
use Rattle.ap_lexer.specs.Lexeme.{Text, Lexeme, is_layout, is_symbol, past, integer, symbols, solo, solo_or_bad, plain}

abbrev plain_by : Text → ℕ → Lexeme
plain_by text b =
    if is_layout b then (kind.Layout, 1)
    else (if is_ascii_lowercase b then (kind.Token token.Name, past class.Word text 1)
    else (if is_ascii_uppercase b || b == 95 then (kind.Token token.Variable, past class.Word text 1)
    else (if is_ascii_digit b then integer text
    else (if is_symbol b then symbols text
    else solo_or_bad text (solo b)))))

one_byte : (text : Text) (b : ℕ) (k row : TokenKind) → plain_by text b ≡ (kind.Token k, 1) → slice_index text 0 ≡ b → Some k ≡ Some row → (kind.Token row, 1) ≡ plain text
one_byte text b k row is e h = ap (λ r. (kind.Token r, 1)) (sym (same_Some k row h)) ∙ sym is ∙ sym (ap (plain_by text) e)

pub plain-solo : (text : Text) (row : TokenKind) → solo (slice_index text 0) ≡ Some row → (kind.Token row, 1) ≡ plain text
plain-solo text row =
    let b = slice_index text 0 in
    let P : Option TokenKind → Type 0 = λ o. o ≡ Some row → (kind.Token row, 1) ≡ plain text in
    cond_both (b == 33) _ _ P (λ is. one_byte text 33 token.Cut row refl (eqb-true b 33 is)) (λ _.
    cond_both (b == 59) _ _ P (λ is. one_byte text 59 token.Semicolon row refl (eqb-true b 59 is)) (λ _.
    cond_both (b == 44) _ _ P (λ is. one_byte text 44 token.Comma row refl (eqb-true b 44 is)) (λ _.
    cond_both (b == 124) _ _ P (λ is. one_byte text 124 token.Bar row refl (eqb-true b 124 is)) (λ _.
    cond_both (b == 40) _ _ P (λ is. one_byte text 40 token.Open row refl (eqb-true b 40 is)) (λ _.
    cond_both (b == 41) _ _ P (λ is. one_byte text 41 token.Close row refl (eqb-true b 41 is)) (λ _.
    cond_both (b == 91) _ _ P (λ is. one_byte text 91 token.OpenList row refl (eqb-true b 91 is)) (λ _.
    cond_both (b == 93) _ _ P (λ is. one_byte text 93 token.CloseList row refl (eqb-true b 93 is)) (λ _ h. absurd (none-some row h)))))))))
