-- Each lexeme is a row of the table.
use Rattle.std.proofs.Common.{◌≡◌, ℕ, zero, suc, ◌+◌, ◌-◌, ◌<◌, ◌≤◌, ◌^◌, ◌==◌, ◌&&◌, ◌||◌, Bool, true, false, [], ◌∷◌, length, take, drop, Option, Some, None, refl, sym, ap, subst, ◌∙◌, arith}
use Rattle.std.specs.Prelude.{slice_index, nat_le}
use Rattle.std.specs.List.{prefix_len}
use Rattle.std.specs.Char.{is_ascii_digit, is_ascii_lowercase, is_ascii_uppercase}
use Rattle.std.specs.Str.Lossy.{utf8_valid_len}
use Rattle.std.proofs.lemmas.Bool.{eqb-true, and_parts, cond_both, leb-true, leb-false, false≢true}
use Rattle.std.proofs.lemmas.List.{get_or-take}
use Rattle.std.proofs.lemmas.List.Folds.{length-prefix_len}
use Rattle.std.proofs.lemmas.List.Sums.{prefix_len_passes, prefix_len_stops, prefix_len-le-length}
use Rattle.ap_lexer.specs.declared.bytes.Class.TheVariants as class
use Rattle.ap_lexer.specs.declared.ahead.Quote.TheVariants as quote
use Rattle.ap_lexer.specs.declared.kind.TokenKind.{TokenKind}
use Rattle.ap_lexer.specs.Lexeme as spec
use Rattle.ap_lexer.specs.Lexeme.{Text, Lexeme, is_layout, is_symbol, is_in, past, ends, recovered, bad, number, integer, symbols, solo, solo_or_bad, closing, quoted, comment_end, line_len, plain, lexeme}
use Rattle.std.proofs.lemmas.Option.{none-some, same_Some}
use Rattle.ap_lexer.proofs.Spelling.{Body, body_of, closing-items, AtClose, here, later, close_of, not_closed, has_close-body}
use Rattle.ap_lexer.specs.Row.{has_close, character, large, open_comment, unclosed, IsRun, begins_stop, IsQuoted, IsFirstClose, EndsComment, line, block, IsFault, IsTakenUp, IsRow}

pub longest : (p : ℕ → Bool) (text : Text) → IsRun p text (prefix_len p text)
longest p text = record {
  within = prefix_len-le-length p text;
  passes = λ k d h. let inside : k < prefix_len p text = omega (arith, h, length-prefix_len p text) in ap p (get_or-take (prefix_len p text) text k d inside) ∙ prefix_len_passes p text k d inside;
  stops = λ h. prefix_len_stops p text 0 h;
}

behind_first : (p : ℕ → Bool) (text : Text) → IsRun p (drop 1 text) (1 + prefix_len p (drop 1 text) - 1)
behind_first p text = subst (IsRun p (drop 1 text)) (omega arith) (longest p (drop 1 text))

abbrev pub Fits : Text → Lexeme → Type 0
Fits text x = IsRow x.0 text x.1

solo_fits : (text : Text) → (solo (slice_index text 0) ≡ None → Fits text (bad text)) → Fits text (solo_or_bad text (solo (slice_index text 0)))
solo_fits text =
    let b = slice_index text 0 in
    let P : Option TokenKind → Type 0 = λ o. (o ≡ None → Fits text (bad text)) → Fits text (solo_or_bad text o) in
    cond_both (b == 33) _ _ P (λ is _. (eqb-true b 33 is, refl)) (λ _.
    cond_both (b == 59) _ _ P (λ is _. (eqb-true b 59 is, refl)) (λ _.
    cond_both (b == 44) _ _ P (λ is _. (eqb-true b 44 is, refl)) (λ _.
    cond_both (b == 124) _ _ P (λ is _. (eqb-true b 124 is, refl)) (λ _.
    cond_both (b == 40) _ _ P (λ is _. (eqb-true b 40 is, refl)) (λ _.
    cond_both (b == 41) _ _ P (λ is _. (eqb-true b 41 is, refl)) (λ _.
    cond_both (b == 91) _ _ P (λ is _. (eqb-true b 91 is, refl)) (λ _.
    cond_both (b == 93) _ _ P (λ is _. (eqb-true b 93 is, refl)) (λ _ other. other refl))))))))

symbols_fit : (text : Text) → (slice_index text 0 == 47 && slice_index text 1 == 42) ≡ false → is_symbol (slice_index text 0) ≡ true → Fits text (symbols text)
symbols_fit text not_open is =
    let end = past class.Symbol text 1 in
    cond_both (end == 1 && slice_index text 0 == 46 && (ends text 1 || slice_index text 1 == 37)) _ _ (Fits text)
    (λ e. let parts = and_parts (end == 1 && slice_index text 0 == 46) (ends text 1 || slice_index text 1 == 37) e in
    ((eqb-true (slice_index text 0) 46 (and_parts (end == 1) (slice_index text 0 == 46) parts.0).1, refl), parts.1))
    (λ e. (is, behind_first is_symbol text, e, not_open))

-- What is passed over behind a bad token's first byte.
record Passed (at : ℕ) (text : Text) (found : Bool × ℕ) : Type 0 where
  len : ℕ
  is : found.1 ≡ at + len
  first : (k : ℕ) → k + 1 < len → begins_stop (drop k text) ≡ false
  stop : found.0 ≡ true → (0 < len) × (begins_stop (drop (len - 1) text) ≡ true)
  rest : found.0 ≡ false → (len ≡ length text) × ((k : ℕ) → begins_stop (drop k text) ≡ false)

no_stop : (k : ℕ) → begins_stop (drop k []) ≡ false
no_stop zero = refl
no_stop (suc k) = refl

first_behind : (b len : ℕ) (text : Text) → begins_stop (b ∷ text) ≡ false → ((k : ℕ) → k + 1 < len → begins_stop (drop k text) ≡ false) → (k : ℕ) → k + 1 < 1 + len → begins_stop (drop k (b ∷ text)) ≡ false
first_behind b len text e p zero h = e
first_behind b len text e p (suc k) h = p k (omega (arith, h))

none_behind : (b : ℕ) (text : Text) → begins_stop (b ∷ text) ≡ false → ((k : ℕ) → begins_stop (drop k text) ≡ false) → (k : ℕ) → begins_stop (drop k (b ∷ text)) ≡ false
none_behind b text e p zero = e
none_behind b text e p (suc k) = p k

drop_more : (b n : ℕ) (text : Text) → 0 < n → drop (1 + n - 1) (b ∷ text) ≡ drop (n - 1) text
drop_more b zero text h = absurd (omega (arith, h))
drop_more b (suc n) text h =
    let one : 1 + suc n - 1 ≡ suc n = omega arith in
    let two : suc n - 1 ≡ n = omega arith in
    ap (λ k. drop k (b ∷ text)) one ∙ ap (λ k. drop k text) (sym two)

passed : (at : ℕ) (text : Text) → Passed at text (recovered at text)
passed at [] = record {
  len = 0;
  is = omega arith;
  first = λ k h. absurd (omega (arith, h));
  stop = λ e. absurd (false≢true e);
  rest = λ _. (refl, no_stop);
}
passed at (b ∷ text) =
    let next = passed (at + 1) text in
    cond_both (b == 46 && ends text 0) (true, at + 1) (recovered (at + 1) text) (Passed at (b ∷ text))
    (λ e. record {
      len = 1;
      is = refl;
      first = λ k h. absurd (omega (arith, h));
      stop = λ _. (omega arith, e);
      rest = λ f. absurd (false≢true (sym f));
    })
    (λ e. record {
      len = 1 + next.len;
      is = omega (arith, next.is);
      first = first_behind b next.len text e next.first;
      stop = λ t. let s = next.stop t in (omega arith, ap begins_stop (drop_more b next.len text s.0) ∙ s.1);
      rest = λ f. let r = next.rest f in (omega (arith, r.0), none_behind b text e r.1);
    })

behind_zero : (b k : ℕ) (text : Text) (P : Text → Type 0) → 0 < k → P (drop (k - 1) text) → P (drop k (b ∷ text))
behind_zero b zero text P h p = absurd (omega (arith, h))
behind_zero b (suc k) text P h p = let one : suc k - 1 ≡ k = omega arith in subst (λ n. P (drop n text)) one p

taken_up : (text : Text) → 0 < length text → IsTakenUp text (recovered 1 (drop 1 text)).0 (recovered 1 (drop 1 text)).1
taken_up [] h = absurd (omega (arith, h))
taken_up (b ∷ text) h =
    let p = passed 1 text in
    let n = (recovered 1 text).1 in
    let No : Text → Type 0 = λ t. begins_stop t ≡ false in
    record {
      first = λ k some before. behind_zero b k text No some (p.first (k - 1) (omega (arith, some, before, p.is)));
      stop = λ e. let s = p.stop e in
          let there : n - 1 ≡ 1 + p.len - 1 = omega (arith, p.is) in
          ap (λ k. begins_stop (drop k (b ∷ text))) there ∙ ap begins_stop (drop_more b p.len text s.0) ∙ s.1;
      rest = λ e. let r = p.rest e in (omega (arith, p.is, r.0), λ k some. behind_zero b k text No some (r.1 (k - 1)));
    }

bad_fits : (text : Text) → 0 < length text → IsFault text → Fits text (bad text)
bad_fits text h fault = (fault, taken_up text h)

plain_fits : (text : Text) → 0 < length text → (slice_index text 0 == 37) ≡ false → (slice_index text 0 == 47 && slice_index text 1 == 42) ≡ false → (slice_index text 0 == 39) ≡ false → Fits text (plain text)
plain_fits text h not_comment not_open not_quote =
    let b = slice_index text 0 in
    let digits = past class.Digit text 1 in
    cond_both (is_layout b) _ _ (Fits text) (λ is. (is, refl)) (λ no_layout.
    cond_both (is_ascii_lowercase b) _ _ (Fits text) (λ is. (is, behind_first (is_in class.Word) text)) (λ no_name.
    cond_both (is_ascii_uppercase b || b == 95) _ _ (Fits text) (λ is. (is, behind_first (is_in class.Word) text)) (λ no_variable.
    cond_both (is_ascii_digit b) _ _ (Fits text)
    (λ is. cond_both (nat_le (number (take digits text)) (2 ^ 63)) _ _ (Fits text)
    (λ fits. (is, behind_first is_ascii_digit text, leb-true (number (take digits text)) (2 ^ 63) fits))
    (λ over. bad_fits text h (large digits is (behind_first is_ascii_digit text) (leb-false (number (take digits text)) (2 ^ 63) over)))) (λ no_digit.
    cond_both (is_symbol b) _ _ (Fits text) (symbols_fit text not_open) (λ no_symbol.
    solo_fits text (λ no_solo. bad_fits text h (character no_layout no_name no_variable no_digit no_symbol no_solo not_quote not_comment)))))))

comment_fits : (text : Text) (end : Option ℕ) → 0 < length text → (end ≡ None → IsFault text) → ((e : ℕ) → end ≡ Some e → EndsComment text e) → Fits text (spec.comment text end)
comment_fits text None h fault ends_at = bad_fits text h (fault refl)
comment_fits text (Some e) h fault ends_at = (e, ends_at e refl, refl)

two_first : (text : Text) → slice_index text 0 ≡ 47 → slice_index text 1 ≡ 42 → text ≡ 47 ∷ 42 ∷ drop 2 text
two_first [] e f = absurd (omega (arith, e))
two_first (a ∷ []) e f = absurd (omega (arith, f))
two_first (a ∷ b ∷ text) e f = ap (λ x. x ∷ b ∷ text) e ∙ ap (λ x. 47 ∷ x ∷ text) f

first_close : (text : Text) (end : ℕ) → text ≡ 47 ∷ 42 ∷ drop 2 text → AtClose false 2 (drop 2 text) end → IsFirstClose text end
first_close text end is (here star rest spelled len) = absurd (false≢true star)
first_close text end is (later body rest spelled none first len) = record { body = body; rest = rest; spelled = is ∙ ap (λ t. 47 ∷ 42 ∷ t) spelled; first = none; len = omega (arith, len) }

no_first_close : (text : Text) → comment_end false 2 (drop 2 text) ≡ None → (end : ℕ) → IsFirstClose text end → ⊥
no_first_close text none end c =
    false≢true (sym (not_closed 2 (drop 2 text) none) ∙ ap (λ t. has_close (drop 2 t)) c.spelled ∙ has_close-body c.body c.rest)

block_fits : (text : Text) → 0 < length text → slice_index text 0 ≡ 47 → slice_index text 1 ≡ 42 → Fits text (spec.comment text (comment_end false 2 (drop 2 text)))
block_fits text h slash star = comment_fits text (comment_end false 2 (drop 2 text)) h
    (λ none. open_comment slash star (no_first_close text none))
    (λ e is. block (first_close text e (two_first text slash star) (close_of false 2 e (drop 2 text) is)))

one_first : (text : Text) → slice_index text 0 ≡ 39 → text ≡ 39 ∷ drop 1 text
one_first [] e = absurd (omega (arith, e))
one_first (a ∷ text) e = ap (λ x. x ∷ text) e

is_quoted : (text : Text) (end : ℕ) → text ≡ 39 ∷ drop 1 text → end ≤ utf8_valid_len text → Body 1 (drop 1 text) end → IsQuoted text end
is_quoted text end is valid body = record {
  items = body.items;
  rest = body.rest;
  are_items = body.are_items;
  spelled = is ∙ ap (λ t. 39 ∷ t) body.spelled;
  closes = body.closes;
  len = omega (arith, body.len);
  characters = valid;
}

-- where a quoted name's closing quote is
pub quoted_closing : (text : Text) (n : ℕ) → IsQuoted text n → closing quote.Plain 1 (drop 1 text) ≡ Some n
quoted_closing text n q = ap (λ t. closing quote.Plain 1 (drop 1 t)) q.spelled ∙ closing-items q.items 1 q.rest q.are_items q.closes ∙ ap Some (omega (arith, q.len))

quoted_fits : (text : Text) (end : Option ℕ) → 0 < length text → slice_index text 0 ≡ 39 → closing quote.Plain 1 (drop 1 text) ≡ end → Fits text (quoted text end)
quoted_fits text None h is e = bad_fits text h (unclosed is (λ n q. none-some n (sym e ∙ quoted_closing text n q)))
quoted_fits text (Some end) h is e =
    cond_both (nat_le end (utf8_valid_len text)) _ _ (Fits text)
    (λ valid. is_quoted text end (one_first text is) (leb-true end (utf8_valid_len text) valid) (body_of 1 end (drop 1 text) e))
    (λ cut. bad_fits text h (unclosed is (λ n q.
    let same : n ≡ end = same_Some n end (sym (quoted_closing text n q) ∙ e) in
    absurd (omega (arith, same, q.characters, leb-false end (utf8_valid_len text) cut)))))

line_fits : (text : Text) → 0 < length text → slice_index text 0 ≡ 37 → Fits text (spec.comment text (Some (line_len text)))
line_fits text h is = (line_len text, line is (longest (is_in class.Line) text), refl)

pub lexeme_fits : (text : Text) → 0 < length text → IsRow (lexeme text).0 text (lexeme text).1
unfolding lexeme
lexeme_fits text h =
    let b = slice_index text 0 in
    cond_both (b == 37) _ _ (Fits text) (λ is. line_fits text h (eqb-true b 37 is)) (λ not_comment.
    cond_both (b == 47 && slice_index text 1 == 42) _ _ (Fits text)
    (λ is. let both = and_parts (b == 47) (slice_index text 1 == 42) is in block_fits text h (eqb-true b 47 both.0) (eqb-true (slice_index text 1) 42 both.1)) (λ not_open.
    cond_both (b == 39) _ _ (Fits text)
    (λ is. quoted_fits text (closing quote.Plain 1 (drop 1 text)) h (eqb-true b 39 is) refl) (λ not_quote.
    plain_fits text h not_comment not_open not_quote)))
