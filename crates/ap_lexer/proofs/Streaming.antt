-- One turn of the loop over the lexemes of a stream of tokens, and its end.
use Rattle.std.proofs.Common.{◌≡◌, ℕ, ◌+◌, ◌<◌, ◌≤◌, ◌==◌, List, [], ◌∷◌, ◌++◌, length, take, drop, cond, refl, sym, ap, ◌∙◌, arith, length-drop}
use Rattle.std.specs.Prelude.{count_by, nat_lt}
use Rattle.std.proofs.lemmas.List.{drop-drop}
use Rattle.std.proofs.lemmas.Bool.{lt-ltb, le-ltb}
use Rattle.std.proofs.lemmas.Bool.Decides.{nat_tests}
use Rattle.ap_lexer.specs.declared.kind.TokenKind.{TokenKind}
use Rattle.ap_lexer.specs.declared.kind.LexemeKind.{LexemeKind}
use Rattle.ap_lexer.specs.declared.kind.LexemeKind.TheVariants as kind
use Rattle.ap_lexer.specs.declared.split.Token.{Token}
use Rattle.ap_lexer.specs.declared.stream.Tokens.{Tokens}
use Rattle.ap_lexer.specs.Lexeme.{Text, Lexeme, lexeme, lexemes}
use Rattle.ap_lexer.specs.Piece.{line_at}
use Rattle.ap_lexer.specs.Token.{Placed, view, token_of, tokens_from}
use Rattle.ap_lexer.specs.Stream.{Gives, token_in, tokens_in}
use Rattle.ap_lexer.proofs.Lexemes.{lexemes-cons}
use Rattle.ap_lexer.proofs.NextPiece.{seen}
use Rattle.ap_lexer.proofs.Turn.{line_more}

-- a stream went over the lexeme at its place
pub record Turn (old new : Tokens) (x : Lexeme) : Type 0 where
  pub text : new.text.now ≡ old.text.now
  pub before : new.before ≡ old.before
  pub to : new.to ≡ old.to
  pub at : new.at ≡ old.at + x.1
  pub line : new.line ≡ old.line + count_by (λ b. b == 10) (take x.1 (drop old.at old.text.now))
  pub inside : old.at < old.to
  pub end : old.to ≤ length old.text.now
  pub some : 0 < x.1
  pub is : x ≡ lexeme (drop old.at old.text.now)

abbrev given : Text → ℕ → ℕ → ℕ → ℕ → List Placed
given text before at to line = tokens_in text before at to line (lexemes (drop at text))

same_given : (text text' : Text) (before before' at at' to to' line line' : ℕ) → text' ≡ text → before' ≡ before → at' ≡ at → to' ≡ to → line' ≡ line → given text before at to line ≡ given text' before' at' to' line'
same_given text text' before before' at at' to to' line line' a b c d e = cc

pub turned : (old new : Tokens) (x : Lexeme) (ts : List Placed) → Turn old new x → Gives old ts → (rest : List Placed) × (ts ≡ token_in x.0 old.text.now old.before old.at old.line x.1 ++ rest) × Gives new rest
turned old new x ts t g =
    let text = old.text.now in
    let at = old.at in
    let some : 0 < length (drop at text) = omega (arith, length-drop at text, t.inside, t.end) in
    let long : 0 < (lexeme (drop at text)).1 = omega (arith, t.some, ap (λ y. y.1) t.is) in
    let line = old.line + count_by (λ b. b == 10) (take x.1 (drop at text)) in
    let rest = given text old.before (at + x.1) old.to line in
    let here = token_in x.0 text old.before at old.line x.1 in
    let cons : lexemes (drop at text) ≡ x ∷ lexemes (drop (at + x.1) text) = lexemes-cons (drop at text) some long ∙ ap (λ y. y ∷ lexemes (drop y.1 (drop at text))) (sym t.is) ∙ ap (λ xs. x ∷ lexemes xs) (drop-drop x.1 at text) in
    let step = ap (tokens_in text old.before at old.to old.line) cons ∙ ap (λ b. cond b (here ++ rest) []) (lt-ltb at old.to t.inside) in
    (rest, g.are ∙ step, record { are = same_given text new.text.now old.before new.before (at + x.1) new.at old.to new.to line new.line t.text t.before t.at t.to t.line })

-- a lexeme that is no token
none_in : (k : LexemeKind) (text : Text) (before at line n : ℕ) → ((row : TokenKind) → k ≡ kind.Token row → ⊥) → token_in k text before at line n ≡ []
none_in (kind.Token row) text before at line n h = absurd (h row refl)
none_in kind.Layout text before at line n h = refl
none_in kind.Comment text before at line n h = refl
none_in (kind.Bad ended) text before at line n h = refl

pub passed : (old new : Tokens) (x : Lexeme) (ts : List Placed) → Turn old new x → ((row : TokenKind) → x.0 ≡ kind.Token row → ⊥) → Gives old ts → Gives new ts
passed old new x ts t other g =
    let next = turned old new x ts t g in
    record { are = next.1 ∙ ap (λ l. l ++ next.0) (none_in x.0 old.text.now old.before old.at old.line x.1 other) ∙ next.2.are }

-- a lexeme that is one
pub record IsFound (old : Tokens) (x : Lexeme) (t : Token) : Type 0 where
  pub kind : x.0 ≡ kind.Token t.kind
  pub text : t.text.now ≡ take x.1 (drop old.at old.text.now)
  pub from : t.from ≡ old.before + old.at
  pub to : t.to ≡ old.before + old.at + x.1
  pub line : t.line ≡ old.line

abbrev placed : TokenKind → Text → ℕ → ℕ → ℕ → Placed
placed k text from to line = record { kind = k; text = text; from = from; to = to; line = line }

same_view : (k : TokenKind) (text text' : Text) (from from' to to' line line' : ℕ) → text ≡ text' → from ≡ from' → to ≡ to' → line ≡ line' → placed k text from to line ≡ placed k text' from' to' line'
same_view k text text' from from' to to' line line' a b c d = cc

pub found : (old new : Tokens) (x : Lexeme) (t : Token) (ts : List Placed) → Turn old new x → IsFound old x t → Gives old ts → (rest : List Placed) × (ts ≡ view t ∷ rest) × Gives new rest
found old new x t ts turn f g =
    let next = turned old new x ts turn g in
    let same = same_view t.kind t.text.now (take x.1 (drop old.at old.text.now)) t.from (old.before + old.at) t.to (old.before + old.at + x.1) t.line old.line f.text f.from f.to f.line in
    (next.0, next.1 ∙ ap (λ k. token_in k old.text.now old.before old.at old.line x.1 ++ next.0) f.kind ∙ ap (λ v. v ∷ next.0) (sym same), next.2)

past_end : (text : Text) (before at to line : ℕ) (xs : List Lexeme) → to ≤ at → tokens_in text before at to line xs ≡ []
past_end text before at to line [] h = refl
past_end text before at to line (x ∷ xs) h =
    ap (λ b. cond b (token_in x.0 text before at line x.1 ++ tokens_in text before (at + x.1) to (line + count_by (λ b. b == 10) (take x.1 (drop at text))) xs) []) (le-ltb at to h)

-- past its end there is none
pub none_left : (s : Tokens) (ts : List Placed) → s.to ≤ s.at → Gives s ts → ts ≡ []
none_left s ts h g = g.are ∙ past_end s.text.now s.before s.at s.to s.line (lexemes (drop s.at s.text.now)) h

-- ---- the tokens of what is left of a text are those of the text

token_same : (k : LexemeKind) (text whole : Text) (before at line n : ℕ) → drop at text ≡ drop (before + at) whole → line ≡ line_at whole (before + at) → token_in k text before at line n ≡ token_of k whole (before + at) n
token_same (kind.Token row) text whole before at line n e l =
    ap (λ v. v ∷ []) (same_view row (take n (drop at text)) (take n (drop (before + at) whole)) (before + at) (before + at) (before + at + n) (before + at + n) line (line_at whole (before + at)) (ap (take n) e) refl refl l)
token_same kind.Layout text whole before at line n e l = refl
token_same kind.Comment text whole before at line n e l = refl
token_same (kind.Bad ended) text whole before at line n e l = refl

test_same : (before at to : ℕ) → nat_lt at to ≡ nat_lt (before + at) (before + to)
test_same before at to = grind (arith, nat_tests)

pub whole_tokens : (text whole : Text) (before at to line : ℕ) (xs : List Lexeme) → text ≡ drop before whole → line ≡ line_at whole (before + at) → tokens_in text before at to line xs ≡ tokens_from whole (before + at) (before + to) xs
whole_tokens text whole before at to line [] e l = refl
whole_tokens text whole before at to line (x ∷ xs) e l =
    let there = seen text whole before at e in
    let more = line + count_by (λ b. b == 10) (take x.1 (drop at text)) in
    let further : before + (at + x.1) ≡ before + at + x.1 = omega arith in
    let line_is : more ≡ line_at whole (before + (at + x.1)) =
    ap (λ n. n + count_by (λ b. b == 10) (take x.1 (drop at text))) l ∙ ap (λ r. line_at whole (before + at) + count_by (λ b. b == 10) (take x.1 r)) there ∙ sym (line_more whole (before + at) x.1) ∙ ap (line_at whole) (sym further) in
    let rest = whole_tokens text whole before (at + x.1) to more xs e line_is ∙ ap (λ n. tokens_from whole n (before + to) xs) further in
    ap (λ b. cond b (token_in x.0 text before at line x.1 ++ tokens_in text before (at + x.1) to more xs) []) (test_same before at to)
    ∙ ap (λ l. cond (nat_lt (before + at) (before + to)) (l ++ tokens_in text before (at + x.1) to more xs) []) (token_same x.0 text whole before at line x.1 there l)
    ∙ ap (λ l. cond (nat_lt (before + at) (before + to)) (token_of x.0 whole (before + at) x.1 ++ l) []) rest
