-- A token has no line feed.
use Rattle.std.proofs.Common.{◌≡◌, ℕ, zero, suc, ◌+◌, ◌==◌, ◌&&◌, ◌||◌, Bool, true, false, [], ◌∷◌, take, drop, Option, Some, None, refl, sym, ap, subst, ◌∙◌, cond, arith}
use Rattle.std.specs.Prelude.{count_by, slice_index, nat_le}
use Rattle.std.specs.List.{prefix_len}
use Rattle.std.specs.Char.{is_ascii_digit, is_ascii_lowercase, is_ascii_uppercase}
use Rattle.std.specs.Str.Lossy.{utf8_valid_len}
use Rattle.std.proofs.lemmas.List.Sums.{sum_by-append}
use Rattle.std.proofs.lemmas.Bool.{eqb-true, cond_both, false≢true}
use Rattle.std.proofs.lemmas.Option.{none-some, same_Some}
use Rattle.ap_lexer.specs.declared.bytes.Class.TheVariants as class
use Rattle.ap_lexer.specs.declared.ahead.Quote.{Quote}
use Rattle.ap_lexer.specs.declared.ahead.Quote.TheVariants as quote
use Rattle.ap_lexer.specs.declared.kind.TokenKind.{TokenKind}
use Rattle.ap_lexer.specs.declared.kind.LexemeKind.{LexemeKind}
use Rattle.ap_lexer.specs.declared.kind.LexemeKind.TheVariants as kind
use Rattle.ap_lexer.specs.Lexeme.{Text, Lexeme, is_layout, is_symbol, is_in, past, ends, number, solo, solo_or_bad, closing, quoted, comment, comment_end, plain, lexeme}

abbrev pub feeds : Text → ℕ
feeds text = count_by (λ b. b == 10) text

abbrev HasNone : LexemeKind → Text → ℕ → Type 0
HasNone (kind.Token t) text n = feeds (take n text) ≡ 0
HasNone kind.Layout text n = Unit {0}
HasNone kind.Comment text n = Unit {0}
HasNone (kind.Bad ended) text n = Unit {0}

abbrev Clear : Text → Lexeme → Type 0
Clear text x = HasNone x.0 text x.1

more_clear : (b : ℕ) (text : Text) → (b == 10) ≡ false → feeds text ≡ 0 → feeds (b ∷ text) ≡ 0
more_clear b text e h =
    let split : feeds (b ∷ text) ≡ feeds (b ∷ []) + feeds text = sum_by-append (λ x. cond (x == 10) 1 0) (b ∷ []) text in
    let first : feeds (b ∷ []) ≡ 0 = ap (λ c. 0 + cond c 1 0) e in
    omega (arith, split, first, h)

one_more : (b n : ℕ) (text : Text) → (b == 10) ≡ false → feeds (take n text) ≡ 0 → feeds (take (1 + n) (b ∷ text)) ≡ 0
one_more b n text e h =
    let next : suc n ≡ 1 + n = omega arith in
    subst (λ k. feeds (take k (b ∷ text)) ≡ 0) next (more_clear b (take n text) e h)

run_clear : (p : ℕ → Bool) → p 10 ≡ false → (text : Text) → feeds (take (prefix_len p text) text) ≡ 0
run_clear p never [] = refl
run_clear p never (b ∷ text) =
    cond_both (p b) (1 + prefix_len p text) 0 (λ n. feeds (take n (b ∷ text)) ≡ 0)
    (λ is. cond_both {A = ℕ} (b == 10) 0 0 (λ _. feeds (take (1 + prefix_len p text) (b ∷ text)) ≡ 0)
    (λ ten. absurd (false≢true (sym never ∙ ap p (sym (eqb-true b 10 ten)) ∙ is)))
    (λ other. one_more b (prefix_len p text) text other (run_clear p never text)))
    (λ _. refl)

one_clear : (text : Text) → (slice_index text 0 == 10) ≡ false → feeds (take 1 text) ≡ 0
one_clear [] e = refl
one_clear (b ∷ text) e = more_clear b [] e refl

take_nil : (n : ℕ) → feeds (take n []) ≡ 0
take_nil zero = refl
take_nil (suc n) = refl

all_clear : (p : ℕ → Bool) → p 10 ≡ false → (text : Text) → (slice_index text 0 == 10) ≡ false → feeds (take (1 + prefix_len p (drop 1 text)) text) ≡ 0
all_clear p never [] e = take_nil (1 + prefix_len p (drop 1 []))
all_clear p never (b ∷ text) e = one_more b (prefix_len p text) text e (run_clear p never text)

no_feed : (b : ℕ) → is_layout b ≡ false → (b == 10) ≡ false
no_feed b e = grind arith

solo_clear : (text : Text) → (slice_index text 0 == 10) ≡ false → Clear text (solo_or_bad text (solo (slice_index text 0)))
solo_clear text e =
    let b = slice_index text 0 in
    let P : Option TokenKind → Type 0 = λ o. Clear text (solo_or_bad text o) in
    let one = one_clear text e in
    cond_both (b == 33) _ _ P (λ _. one) (λ _.
    cond_both (b == 59) _ _ P (λ _. one) (λ _.
    cond_both (b == 44) _ _ P (λ _. one) (λ _.
    cond_both (b == 124) _ _ P (λ _. one) (λ _.
    cond_both (b == 40) _ _ P (λ _. one) (λ _.
    cond_both (b == 41) _ _ P (λ _. one) (λ _.
    cond_both (b == 91) _ _ P (λ _. one) (λ _.
    cond_both (b == 93) _ _ P (λ _. one) (λ _. tt))))))))

plain_clear : (text : Text) → Clear text (plain text)
plain_clear text =
    let b = slice_index text 0 in
    cond_both (is_layout b) _ _ (Clear text) (λ _. tt) (λ other.
    let e = no_feed b other in
    cond_both (is_ascii_lowercase b) _ _ (Clear text) (λ _. all_clear (is_in class.Word) refl text e) (λ _.
    cond_both (is_ascii_uppercase b || b == 95) _ _ (Clear text) (λ _. all_clear (is_in class.Word) refl text e) (λ _.
    cond_both (is_ascii_digit b) _ _ (Clear text)
    (λ _. cond_both (nat_le (number (take (past class.Digit text 1) text)) 9223372036854775808) _ _ (Clear text) (λ _. all_clear (is_in class.Digit) refl text e) (λ _. tt)) (λ _.
    cond_both (is_symbol b) _ _ (Clear text)
    (λ _. cond_both (past class.Symbol text 1 == 1 && slice_index text 0 == 46 && (ends text 1 || slice_index text 1 == 37)) _ _ (Clear text) (λ _. one_clear text e) (λ _. all_clear (is_in class.Symbol) refl text e))
    (λ _. solo_clear text e)))))

comment_clear : (text : Text) (end : Option ℕ) → Clear text (comment text end)
comment_clear text None = tt
comment_clear text (Some end) = tt

no_escape : (b : ℕ) → (b == 39 || b == 92 || b == 110 || b == 116) ≡ true → (b == 10) ≡ false
no_escape b e = grind arith

closing_clear : (s : Quote) (at n : ℕ) (text : Text) → closing s at text ≡ Some (at + n) → feeds (take n text) ≡ 0
closing_clear s at zero text e = refl
closing_clear s at (suc n) [] e = refl
closing_clear quote.Plain at (suc n) (b ∷ text) e =
    let P : Option ℕ → Type 0 = λ o. o ≡ Some (at + suc n) → feeds (take (suc n) (b ∷ text)) ≡ 0 in
    let next : at + suc n ≡ at + 1 + n = omega arith in
    cond_both (b == 39) _ _ P (λ is h. more_clear b (take n text) (ap (λ x. x == 10) (eqb-true b 39 is)) (closing_clear quote.Quote (at + 1) n text (h ∙ ap Some next))) (λ _.
    cond_both (b == 92) _ _ P (λ is h. more_clear b (take n text) (ap (λ x. x == 10) (eqb-true b 92 is)) (closing_clear quote.Escape (at + 1) n text (h ∙ ap Some next))) (λ _.
    cond_both (b == 10) _ _ P (λ _ h. absurd (none-some (at + suc n) h)) (λ ten h. more_clear b (take n text) ten (closing_clear quote.Plain (at + 1) n text (h ∙ ap Some next))))) e
closing_clear quote.Quote at (suc n) (b ∷ text) e =
    let P : Option ℕ → Type 0 = λ o. o ≡ Some (at + suc n) → feeds (take (suc n) (b ∷ text)) ≡ 0 in
    let next : at + suc n ≡ at + 1 + n = omega arith in
    cond_both (b == 39) _ _ P (λ is h. more_clear b (take n text) (ap (λ x. x == 10) (eqb-true b 39 is)) (closing_clear quote.Plain (at + 1) n text (h ∙ ap Some next)))
    (λ _ h. absurd (omega (arith, same_Some at (at + suc n) h))) e
closing_clear quote.Escape at (suc n) (b ∷ text) e =
    let P : Option ℕ → Type 0 = λ o. o ≡ Some (at + suc n) → feeds (take (suc n) (b ∷ text)) ≡ 0 in
    let next : at + suc n ≡ at + 1 + n = omega arith in
    cond_both (b == 39 || b == 92 || b == 110 || b == 116) _ _ P (λ is h. more_clear b (take n text) (no_escape b is) (closing_clear quote.Plain (at + 1) n text (h ∙ ap Some next)))
    (λ _ h. absurd (none-some (at + suc n) h)) e

name_clear : (text : Text) (end : ℕ) → (slice_index text 0 == 39) ≡ true → closing quote.Plain 1 (drop 1 text) ≡ Some end → feeds (take end text) ≡ 0
name_clear text zero is e = refl
name_clear [] (suc n) is e = refl
name_clear (b ∷ text) (suc n) is e =
    let next : suc n ≡ 1 + n = omega arith in
    more_clear b (take n text) (ap (λ x. x == 10) (eqb-true b 39 is)) (closing_clear quote.Plain 1 n text (e ∙ ap Some next))

quoted_clear : (text : Text) (end : Option ℕ) → (slice_index text 0 == 39) ≡ true → closing quote.Plain 1 (drop 1 text) ≡ end → Clear text (quoted text end)
quoted_clear text None is e = tt
quoted_clear text (Some end) is e = cond_both (nat_le end (utf8_valid_len text)) _ _ (Clear text) (λ _. name_clear text end is e) (λ _. tt)

lexeme-clear : (text : Text) → HasNone (lexeme text).0 text (lexeme text).1
unfolding lexeme
lexeme-clear text =
    let b = slice_index text 0 in
    cond_both (b == 37) _ _ (Clear text) (λ _. tt) (λ _.
    cond_both (b == 47 && slice_index text 1 == 42) _ _ (Clear text) (λ _. comment_clear text (comment_end false 2 (drop 2 text))) (λ _.
    cond_both (b == 39) _ _ (Clear text) (λ is. quoted_clear text (closing quote.Plain 1 (drop 1 text)) is refl) (λ _. plain_clear text)))

pub token-feeds : (text : Text) (k : LexemeKind) (t : TokenKind) (n : ℕ) → (k, n) ≡ lexeme text → k ≡ kind.Token t → 0 ≡ feeds (take n text)
token-feeds text k t n is e = sym (subst (λ x. HasNone x text n) e (subst (λ x. HasNone x.0 text x.1) (sym is) (lexeme-clear text)))
