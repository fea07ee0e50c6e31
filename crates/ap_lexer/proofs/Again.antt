-- What is a row of the table is the token that stands there.
use Rattle.std.proofs.Common.{◌≡◌, ℕ, zero, suc, ◌+◌, ◌-◌, ◌<◌, ◌^◌, ◌==◌, ◌&&◌, ◌||◌, Bool, true, false, [], ◌∷◌, length, take, drop, refl, sym, ap, subst, ◌∙◌, arith}
use Rattle.std.specs.Prelude.{slice_index, nat_le, nat_lt, All}
use Rattle.std.specs.List.{prefix_len}
use Rattle.std.specs.Char.{is_ascii_digit, is_ascii_lowercase, is_ascii_uppercase}
use Rattle.std.specs.Str.Lossy.{utf8_valid_len}
use Rattle.std.proofs.lemmas.Bool.{cond-true, cond-false, le-leb, lt-ltb, agree_below, agree_below_at, and_left}
use Rattle.std.proofs.lemmas.List.Elements.{All-head, All-tail}
use Rattle.ap_lexer.specs.declared.bytes.Class.TheVariants as class
use Rattle.ap_lexer.specs.declared.kind.TokenKind.{TokenKind}
use Rattle.ap_lexer.specs.declared.kind.TokenKind.TheVariants as token
use Rattle.ap_lexer.specs.declared.kind.LexemeKind.TheVariants as kind
use Rattle.ap_lexer.specs.Lexeme.{Text, is_layout, is_symbol, is_in, past, ends, number, symbols, quoted, plain, lexeme}
use Rattle.ap_lexer.specs.Row.{IsRun, IsQuoted, IsSolo, IsToken}
use Rattle.ap_lexer.proofs.Rows.{quoted_closing}
use Rattle.ap_lexer.proofs.Spelling.{off}

-- a run that is as long as it can be has one length
run_len : (p : ℕ → Bool) (text : Text) (n : ℕ) → IsRun p text n → prefix_len p text ≡ n
run_len p [] n r = omega (arith, r.within)
run_len p (b ∷ text) zero r = cond-false (p b) (1 + prefix_len p text) 0 (r.stops (omega arith))
run_len p (b ∷ text) (suc n) r =
    let first : p b ≡ true = All-head (λ x. p x ≡ true) b (take n text) r.passes in
    let behind : IsRun p text n = record {
      within = omega (arith, r.within);
      passes = All-tail (λ x. p x ≡ true) b (take n text) r.passes;
      stops = λ h. r.stops (omega (arith, h));
    } in
    cond-true (p b) (1 + prefix_len p text) 0 first ∙ omega (arith, run_len p text n behind)

run_end : (p : ℕ → Bool) (text : Text) (n : ℕ) → 0 < n → IsRun p (drop 1 text) (n - 1) → 1 + prefix_len p (drop 1 text) ≡ n
run_end p text n h r = omega (arith, h, run_len p (drop 1 text) (n - 1) r)

-- no byte passes both tests
apart : (f g : ℕ → Bool) (b : ℕ) → agree_below (λ x. f x && g x) (λ _. false) 256 ≡ true → b < 256 → f b ≡ true → g b ≡ false
apart f g b table byte e = off (f b) (g b) (agree_below_at (λ x. f x && g x) (λ _. false) 256 b table byte) e

abbrev is_variable : ℕ → Bool
is_variable b = is_ascii_uppercase b || b == 95

to_plain : (text : Text) → (slice_index text 0 == 37) ≡ false → (slice_index text 0 == 47 && slice_index text 1 == 42) ≡ false → (slice_index text 0 == 39) ≡ false → lexeme text ≡ plain text
unfolding lexeme
to_plain text e f g = cond-false (slice_index text 0 == 37) _ _ e ∙ cond-false (slice_index text 0 == 47 && slice_index text 1 == 42) _ _ f ∙ cond-false (slice_index text 0 == 39) _ _ g

name_again : (text : Text) (n : ℕ) → slice_index text 0 < 256 → 0 < n → IsToken token.Name text n → lexeme text ≡ (kind.Token token.Name, n)
name_again text n byte some row =
    let b = slice_index text 0 in
    to_plain text (apart is_ascii_lowercase (λ x. x == 37) b refl byte row.0) (and_left (b == 47) (slice_index text 1 == 42) (apart is_ascii_lowercase (λ x. x == 47) b refl byte row.0)) (apart is_ascii_lowercase (λ x. x == 39) b refl byte row.0)
    ∙ cond-false (is_layout b) _ _ (apart is_ascii_lowercase is_layout b refl byte row.0)
    ∙ cond-true (is_ascii_lowercase b) _ _ row.0
    ∙ ap (λ k. (kind.Token token.Name, k)) (run_end (is_in class.Word) text n some row.1)

variable_again : (text : Text) (n : ℕ) → slice_index text 0 < 256 → 0 < n → IsToken token.Variable text n → lexeme text ≡ (kind.Token token.Variable, n)
variable_again text n byte some row =
    let b = slice_index text 0 in
    to_plain text (apart is_variable (λ x. x == 37) b refl byte row.0) (and_left (b == 47) (slice_index text 1 == 42) (apart is_variable (λ x. x == 47) b refl byte row.0)) (apart is_variable (λ x. x == 39) b refl byte row.0)
    ∙ cond-false (is_layout b) _ _ (apart is_variable is_layout b refl byte row.0)
    ∙ cond-false (is_ascii_lowercase b) _ _ (apart is_variable is_ascii_lowercase b refl byte row.0)
    ∙ cond-true (is_variable b) _ _ row.0
    ∙ ap (λ k. (kind.Token token.Variable, k)) (run_end (is_in class.Word) text n some row.1)

integer_again : (text : Text) (n : ℕ) → slice_index text 0 < 256 → 0 < n → IsToken token.Integer text n → lexeme text ≡ (kind.Token token.Integer, n)
integer_again text n byte some row =
    let b = slice_index text 0 in
    let len = run_end is_ascii_digit text n some row.1 in
    to_plain text (apart is_ascii_digit (λ x. x == 37) b refl byte row.0) (and_left (b == 47) (slice_index text 1 == 42) (apart is_ascii_digit (λ x. x == 47) b refl byte row.0)) (apart is_ascii_digit (λ x. x == 39) b refl byte row.0)
    ∙ cond-false (is_layout b) _ _ (apart is_ascii_digit is_layout b refl byte row.0)
    ∙ cond-false (is_ascii_lowercase b) _ _ (apart is_ascii_digit is_ascii_lowercase b refl byte row.0)
    ∙ cond-false (is_variable b) _ _ (apart is_ascii_digit is_variable b refl byte row.0)
    ∙ cond-true (is_ascii_digit b) _ _ row.0
    ∙ cond-true (nat_le (number (take (past class.Digit text 1) text)) (2 ^ 63)) _ _ (ap (λ k. nat_le (number (take k text)) (2 ^ 63)) len ∙ le-leb (number (take n text)) (2 ^ 63) row.2)
    ∙ ap (λ k. (kind.Token token.Integer, k)) len

to_symbols : (text : Text) → slice_index text 0 < 256 → is_symbol (slice_index text 0) ≡ true → (slice_index text 0 == 47 && slice_index text 1 == 42) ≡ false → lexeme text ≡ symbols text
to_symbols text byte is not_open =
    let b = slice_index text 0 in
    to_plain text (apart is_symbol (λ x. x == 37) b refl byte is) not_open (apart is_symbol (λ x. x == 39) b refl byte is)
    ∙ cond-false (is_layout b) _ _ (apart is_symbol is_layout b refl byte is)
    ∙ cond-false (is_ascii_lowercase b) _ _ (apart is_symbol is_ascii_lowercase b refl byte is)
    ∙ cond-false (is_variable b) _ _ (apart is_symbol is_variable b refl byte is)
    ∙ cond-false (is_ascii_digit b) _ _ (apart is_symbol is_ascii_digit b refl byte is)
    ∙ cond-true (is_symbol b) _ _ is

symbol_again : (text : Text) (n : ℕ) → slice_index text 0 < 256 → 0 < n → IsToken token.Symbol text n → lexeme text ≡ (kind.Token token.Symbol, n)
symbol_again text n byte some row =
    let len = run_end is_symbol text n some row.1 in
    let stop : ℕ → Bool = λ k. k == 1 && slice_index text 0 == 46 && (ends text 1 || slice_index text 1 == 37) in
    to_symbols text byte row.0 row.3
    ∙ cond-false (stop (past class.Symbol text 1)) _ _ (ap stop len ∙ row.2)
    ∙ ap (λ k. (kind.Token token.Symbol, k)) len

quoted_again : (text : Text) (n : ℕ) → IsQuoted text n → lexeme text ≡ (kind.Token token.Quoted, n)
unfolding lexeme
quoted_again text n q =
    let b = slice_index text 0 in
    let is : b ≡ 39 = ap (λ t. slice_index t 0) q.spelled in
    cond-false (b == 37) _ _ (ap (λ x. x == 37) is) ∙ cond-false (b == 47 && slice_index text 1 == 42) _ _ (and_left (b == 47) (slice_index text 1 == 42) (ap (λ x. x == 47) is)) ∙ cond-true (b == 39) _ _ (ap (λ x. x == 39) is)
    ∙ ap (quoted text) (quoted_closing text n q)
    ∙ cond-true (nat_le n (utf8_valid_len text)) _ _ (le-leb n (utf8_valid_len text) q.characters)

-- a solo character's code
solo_again : (text : Text) (n b : ℕ) (row : TokenKind) → ((rest : Text) → lexeme (b ∷ rest) ≡ (kind.Token row, 1)) → 0 < b → IsSolo b text n → lexeme text ≡ (kind.Token row, n)
solo_again [] n b row known some is = absurd (omega (arith, some, is.0))
solo_again (c ∷ text) n b row known some is = ap (λ x. lexeme (x ∷ text)) is.0 ∙ known text ∙ ap (λ k. (kind.Token row, k)) (sym is.1)

stops_run : (c : ℕ) (rest : Text) → c < 256 → (is_layout c || c == 37) ≡ true → prefix_len is_symbol (c ∷ rest) ≡ 0
stops_run c rest byte is = cond-false (is_symbol c) (1 + prefix_len is_symbol rest) 0 (apart (λ x. is_layout x || x == 37) is_symbol c refl byte is)

ends_next : (c : ℕ) (rest : Text) → ends (46 ∷ c ∷ rest) 1 ≡ is_layout c
ends_next c rest = cond-true (nat_lt 1 (length (46 ∷ c ∷ rest))) (is_layout c) true (lt-ltb 1 (length (46 ∷ c ∷ rest)) (omega arith))

stop_alone : (rest : Text) → All (λ b. b < 256) (46 ∷ rest) → (ends (46 ∷ rest) 1 || slice_index (46 ∷ rest) 1 == 37) ≡ true → prefix_len is_symbol rest ≡ 0
stop_alone [] bytes is = refl
stop_alone (c ∷ rest) bytes is =
    stops_run c rest (All-head (λ b. b < 256) c rest (All-tail (λ b. b < 256) 46 (c ∷ rest) bytes)) (ap (λ t. t || c == 37) (sym (ends_next c rest)) ∙ is)

end_here : (rest : Text) → All (λ b. b < 256) (46 ∷ rest) → (ends (46 ∷ rest) 1 || slice_index (46 ∷ rest) 1 == 37) ≡ true → symbols (46 ∷ rest) ≡ (kind.Token token.End, 1)
end_here rest bytes is =
    let stop : ℕ → Bool = λ k. k == 1 && true && (ends (46 ∷ rest) 1 || slice_index (46 ∷ rest) 1 == 37) in
    cond-true (stop (past class.Symbol (46 ∷ rest) 1)) _ _ (ap (λ k. stop (1 + k)) (stop_alone rest bytes is) ∙ is)

end_again : (text : Text) (n : ℕ) → All (λ b. b < 256) text → IsToken token.End text n → lexeme text ≡ (kind.Token token.End, n)
unfolding lexeme
end_again [] n bytes row = absurd (omega (arith, row.0.0))
end_again (c ∷ rest) n bytes row =
    let P : ℕ → Type 0 = λ x. All (λ b. b < 256) (x ∷ rest) × ((ends (x ∷ rest) 1 || slice_index (x ∷ rest) 1 == 37) ≡ true) in
    let facts : P 46 = subst P row.0.0 (bytes, row.1) in
    ap (λ x. lexeme (x ∷ rest)) row.0.0 ∙ end_here rest facts.0 facts.1 ∙ ap (λ k. (kind.Token token.End, k)) (sym row.0.1)

first_byte : (text : Text) → All (λ b. b < 256) text → slice_index text 0 < 256
first_byte [] bytes = omega arith
first_byte (b ∷ text) bytes = All-head (λ b. b < 256) b text bytes

cut_again : (rest : Text) → lexeme (33 ∷ rest) ≡ (kind.Token token.Cut, 1)
unfolding lexeme
cut_again rest = refl

semicolon_again : (rest : Text) → lexeme (59 ∷ rest) ≡ (kind.Token token.Semicolon, 1)
unfolding lexeme
semicolon_again rest = refl

comma_again : (rest : Text) → lexeme (44 ∷ rest) ≡ (kind.Token token.Comma, 1)
unfolding lexeme
comma_again rest = refl

bar_again : (rest : Text) → lexeme (124 ∷ rest) ≡ (kind.Token token.Bar, 1)
unfolding lexeme
bar_again rest = refl

open_again : (rest : Text) → lexeme (40 ∷ rest) ≡ (kind.Token token.Open, 1)
unfolding lexeme
open_again rest = refl

close_again : (rest : Text) → lexeme (41 ∷ rest) ≡ (kind.Token token.Close, 1)
unfolding lexeme
close_again rest = refl

open_list_again : (rest : Text) → lexeme (91 ∷ rest) ≡ (kind.Token token.OpenList, 1)
unfolding lexeme
open_list_again rest = refl

close_list_again : (rest : Text) → lexeme (93 ∷ rest) ≡ (kind.Token token.CloseList, 1)
unfolding lexeme
close_list_again rest = refl

pub again : (row : TokenKind) (text : Text) (n : ℕ) → All (λ b. b < 256) text → 0 < n → IsToken row text n → lexeme text ≡ (kind.Token row, n)
again token.Name text n bytes some row = name_again text n (first_byte text bytes) some row
again token.Variable text n bytes some row = variable_again text n (first_byte text bytes) some row
again token.Integer text n bytes some row = integer_again text n (first_byte text bytes) some row
again token.Symbol text n bytes some row = symbol_again text n (first_byte text bytes) some row
again token.Quoted text n bytes some row = quoted_again text n row
again token.Cut text n bytes some row = solo_again text n 33 token.Cut cut_again (omega arith) row
again token.Semicolon text n bytes some row = solo_again text n 59 token.Semicolon semicolon_again (omega arith) row
again token.Comma text n bytes some row = solo_again text n 44 token.Comma comma_again (omega arith) row
again token.Bar text n bytes some row = solo_again text n 124 token.Bar bar_again (omega arith) row
again token.Open text n bytes some row = solo_again text n 40 token.Open open_again (omega arith) row
again token.Close text n bytes some row = solo_again text n 41 token.Close close_again (omega arith) row
again token.OpenList text n bytes some row = solo_again text n 91 token.OpenList open_list_again (omega arith) row
again token.CloseList text n bytes some row = solo_again text n 93 token.CloseList close_list_again (omega arith) row
again token.End text n bytes some row = end_again text n bytes row
