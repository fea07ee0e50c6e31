-- A lexeme has a byte at least, and ends in the text.
use Rattle.std.proofs.Common.{◌≡◌, ℕ, suc, ◌+◌, ◌^◌, ◌<◌, ◌≤◌, ◌==◌, ◌&&◌, ◌||◌, Bool, true, false, cond, [], ◌∷◌, length, take, drop, Option, Some, None, ap, arith, length-drop}
use Rattle.std.specs.Prelude.{IfSome, slice_index, nat_le}
use Rattle.std.specs.Prelude.{not}
use Rattle.std.proofs.lemmas.Bool.{eqb-true, and_parts, cond_both, ne_eqb}
use Rattle.std.specs.Char.{is_ascii_digit, is_ascii_lowercase, is_ascii_uppercase}
use Rattle.std.proofs.lemmas.List.Sums.{prefix_len-le-length}
use Rattle.std.specs.Str.Lossy.{utf8_valid_len}
use Rattle.ap_lexer.specs.declared.bytes.Class.{Class}
use Rattle.ap_lexer.specs.declared.bytes.Class.TheVariants as class
use Rattle.ap_lexer.specs.declared.ahead.Quote.TheVariants as quote
use Rattle.ap_lexer.specs.declared.kind.TokenKind.{TokenKind}
use Rattle.ap_lexer.specs.declared.kind.TokenKind.TheVariants as token
use Rattle.ap_lexer.specs.declared.kind.LexemeKind.TheVariants as kind
use Rattle.ap_lexer.specs.Lexeme.{Text, Lexeme, is_layout, is_symbol, is_in, past, ends, recovered, bad, number, solo, solo_or_bad, closing, quoted, comment_end, comment, line_len, plain, lexeme}
use Rattle.ap_lexer.proofs.Valid.{valid_some}
use Rattle.ap_lexer.proofs.Ends.{comment_end_within, closing_within}

abbrev pub IsWithin : Text → Lexeme → Type 0
IsWithin text x = (0 < x.1) × (x.1 ≤ length text)

either : (text : Text) (b : Bool) (x y : Lexeme) → IsWithin text x → IsWithin text y → IsWithin text (cond b x y)
either text true x y p q = p
either text false x y p q = q

recovered_after : (lo hi : ℕ) (b : Bool) (x y : Bool × ℕ) → (lo ≤ x.1) × (x.1 ≤ hi) → (lo ≤ y.1) × (y.1 ≤ hi) → (lo ≤ (cond b x y).1) × ((cond b x y).1 ≤ hi)
recovered_after lo hi true x y p q = p
recovered_after lo hi false x y p q = q

recovered_within : (at : ℕ) (text : Text) → (at ≤ (recovered at text).1) × ((recovered at text).1 ≤ at + length text)
recovered_within at [] = (omega arith, omega arith)
recovered_within at (b ∷ text) =
    let next = recovered_within (at + 1) text in
    recovered_after at (at + suc (length text)) (b == 46 && ends text 0) (true, at + 1) (recovered (at + 1) text) (omega arith, omega arith) (omega (arith, next.0), omega (arith, next.1))

bad_within : (text : Text) → 0 < length text → IsWithin text (bad text)
bad_within text h = let found = recovered_within 1 (drop 1 text) in (omega (arith, found.0), omega (arith, found.1, length-drop 1 text))

past_within : (c : Class) (text : Text) → 0 < length text → (0 < past c text 1) × (past c text 1 ≤ length text)
past_within c text h = (omega arith, omega (arith, prefix_len-le-length (is_in c) (drop 1 text), length-drop 1 text))

solo_within : (text : Text) (row : Option TokenKind) → 0 < length text → IsWithin text (solo_or_bad text row)
solo_within text None h = bad_within text h
solo_within text (Some row) h = (omega arith, omega (arith, h))

plain_within : (text : Text) → 0 < length text → IsWithin text (plain text)
plain_within text h =
    let b = slice_index text 0 in
    let digits = past class.Digit text 1 in
    let run = past class.Symbol text 1 in
    either text (is_layout b) _ _ (omega arith, omega (arith, h))
    (either text (is_ascii_lowercase b) _ _ (past_within class.Word text h)
    (either text (is_ascii_uppercase b || b == 95) _ _ (past_within class.Word text h)
    (either text (is_ascii_digit b) _ _ (either text (nat_le (number (take digits text)) (2 ^ 63)) _ _ (past_within class.Digit text h) (bad_within text h))
    (either text (is_symbol b) _ _ (either text (run == 1 && slice_index text 0 == 46 && (ends text 1 || slice_index text 1 == 37)) _ _ (omega arith, omega (arith, h)) (past_within class.Symbol text h))
    (solo_within text (solo b) h)))))

comment_within : (text : Text) (end : Option ℕ) → 0 < length text → slice_index text 0 < 128 → IfSome end (λ e. (0 < e) × (e ≤ length text)) → IsWithin text (comment text end)
comment_within text None h ascii p = bad_within text h
comment_within text (Some e) h ascii p = (omega (arith, p.0, valid_some text h ascii), omega (arith, p.1))

quoted_within : (text : Text) (end : Option ℕ) → 0 < length text → IfSome end (λ e. (0 < e) × (e ≤ length text)) → IsWithin text (quoted text end)
quoted_within text None h p = bad_within text h
quoted_within text (Some e) h p = either text (nat_le e (utf8_valid_len text)) (kind.Token token.Quoted, e) (bad text) p (bad_within text h)

ends_in : (lo n : ℕ) (text : Text) (end : Option ℕ) → 0 < lo → lo ≤ n → n ≤ length text → IfSome end (λ e. (lo ≤ e) × (e ≤ lo + length (drop n text))) → IfSome end (λ e. (0 < e) × (e ≤ length text))
ends_in lo n text None h k m p = p
ends_in lo n text (Some e) h k m p = (omega (arith, h, p.0), omega (arith, p.1, k, m, length-drop n text))

second_byte : (text : Text) → slice_index text 1 ≡ 42 → 2 ≤ length text
second_byte [] e = absurd (omega (arith, e))
second_byte (b ∷ []) e = absurd (omega (arith, e))
second_byte (b ∷ c ∷ text) e = omega arith

comment_line : (text : Text) → 0 < length text → slice_index text 0 < 128 → slice_index text 0 ≡ 37 → IsWithin text (comment text (Some (line_len text)))
comment_line [] h ascii is = absurd (omega (arith, h))
comment_line (b ∷ text) h ascii is =
    let some : line_len (b ∷ text) ≡ 1 + line_len text = ap (λ t. cond (not t) (1 + line_len text) 0) (ne_eqb b 10 (apart b is)) in
    comment_within (b ∷ text) (Some (line_len (b ∷ text))) h ascii (omega (arith, some), prefix_len-le-length (is_in class.Line) (b ∷ text))
  where
    apart : (b : ℕ) → b ≡ 37 → b ≡ 10 → ⊥
    apart b p q = omega (arith, p, q)

pub lexeme_within : (text : Text) → 0 < length text → IsWithin text (lexeme text)
unfolding lexeme
lexeme_within text h =
    let b = slice_index text 0 in
    cond_both (b == 37) _ _ (IsWithin text)
    (λ is. let byte = eqb-true b 37 is in comment_line text h (omega (arith, byte)) (omega (arith, byte)))
    (λ _. cond_both (b == 47 && slice_index text 1 == 42) _ _ (IsWithin text)
    (λ is. let both = and_parts (b == 47) (slice_index text 1 == 42) is in
    let byte = eqb-true b 47 both.0 in
    comment_within text (comment_end false 2 (drop 2 text)) h (omega (arith, byte))
    (ends_in 2 2 text (comment_end false 2 (drop 2 text)) (omega arith) (omega arith) (second_byte text (eqb-true (slice_index text 1) 42 both.1)) (comment_end_within false 2 (drop 2 text))))
    (λ _. cond_both (b == 39) _ _ (IsWithin text)
    (λ _. quoted_within text (closing quote.Plain 1 (drop 1 text)) h (ends_in 1 1 text (closing quote.Plain 1 (drop 1 text)) (omega arith) (omega arith) (omega (arith, h)) (closing_within quote.Plain 1 (drop 1 text))))
    (λ _. plain_within text h)))
