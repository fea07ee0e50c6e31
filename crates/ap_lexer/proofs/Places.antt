-- The tokens of a piece without a bad token are known by the bytes from its first on.
use Rattle.std.proofs.Common.{◌≡◌, ℕ, ◌+◌, ◌<◌, ◌≤◌, Bool, true, false, cond, List, [], ◌∷◌, ◌++◌, take, drop, None, refl, sym, ap, ◌∙◌, arith}
use Rattle.std.specs.Prelude.{nat_lt, Contains}
use Rattle.std.proofs.lemmas.List.{drop-drop}
use Rattle.std.proofs.lemmas.Bool.{lt-ltb, ne_eqb, eq-eqb}
use Rattle.std.proofs.lemmas.Option.{none-some}
use Rattle.ap_lexer.specs.declared.kind.TokenKind.{TokenKind}
use Rattle.ap_lexer.specs.declared.kind.TokenKind.TheVariants as token
use Rattle.ap_lexer.specs.declared.kind.LexemeKind.{LexemeKind}
use Rattle.ap_lexer.specs.declared.kind.LexemeKind.TheVariants as kind
use Rattle.ap_lexer.specs.declared.cut.Piece.{Piece}
use Rattle.ap_lexer.specs.Lexeme.{Text, Lexeme, lexemes}
use Rattle.ap_lexer.specs.Piece.{Role, Gap, Part, Last, Fault, role, pieces, line_at}
use Rattle.ap_lexer.specs.Token.{Placed, token_of, tokens_from}
use Rattle.ap_lexer.specs.Law.{IsCutting, piece_by, piece_of, Spelled, touches_next, unplaced, is_token, begins_token, spelled_by, spelled, ReadsWithoutPlaces}
use Rattle.ap_lexer.proofs.Cutting.{cut}
use Rattle.ap_lexer.proofs.Order.{cut_after, is_piece}
use Rattle.ap_lexer.proofs.Toks.{past_end}

-- a piece ends behind the lexemes that it has
reach_step : (r : Role) (text : Text) (from at to : ℕ) (longer : Piece) → at < to → to ≤ longer.to → to ≤ (piece_by r text from at to longer).to
reach_step Gap text from at to longer h k = k
reach_step Part text from at to longer h k = k
reach_step Last text from at to longer h k = omega arith
reach_step (Fault ended) text from at to longer h k = omega arith

reach : (text : Text) (from at : ℕ) (xs : List Lexeme) → IsCutting (drop at text) xs → at ≤ (piece_of text from at xs).to
reach text from at [] c = omega arith
reach text from at (x ∷ xs) c =
    let step = reach_step (role x.0) text from at (at + x.1) (piece_of text from (at + x.1) xs) (omega (arith, c.0)) (reach text from (at + x.1) xs (cut_after text at x xs c)) in
    omega (arith, step)

reach_first : (text : Text) (from at : ℕ) (x : Lexeme) (xs : List Lexeme) → IsCutting (drop at text) (x ∷ xs) → at < (piece_of text from at (x ∷ xs)).to
reach_first text from at x xs c =
    let step = reach_step (role x.0) text from at (at + x.1) (piece_of text from (at + x.1) xs) (omega (arith, c.0)) (reach text from (at + x.1) xs (cut_after text at x xs c)) in
    omega (arith, step, c.0)

-- the tokens from a place where one lexeme at least is in the piece
first_tokens : (text : Text) (at to : ℕ) (x : Lexeme) (xs : List Lexeme) → at < to → tokens_from text at to (x ∷ xs) ≡ token_of x.0 text at x.1 ++ tokens_from text (at + x.1) to xs
first_tokens text at to x xs h = ap (λ b. cond b (token_of x.0 text at x.1 ++ tokens_from text (at + x.1) to xs) []) (lt-ltb at to h)

behind_from : (k : LexemeKind) (text : Text) (at n lo : ℕ) (rest : List Placed) → lo < at → touches_next lo rest ≡ false → touches_next lo (token_of k text at n ++ rest) ≡ false
behind_from kind.Layout text at n lo rest h e = e
behind_from kind.Comment text at n lo rest h e = e
behind_from (kind.Bad ended) text at n lo rest h e = e
behind_from (kind.Token row) text at n lo rest h e = ne_eqb lo at (λ same. below lo at h same)
  where
    below : (a b : ℕ) → a < b → a ≡ b → ⊥
    below a b h e = omega (arith, h, e)

none_or : (b : Bool) (lo : ℕ) (ts : List Placed) → touches_next lo ts ≡ false → touches_next lo (cond b ts []) ≡ false
none_or true lo ts e = e
none_or false lo ts e = refl

-- no token from a place on touches an earlier one
apart : (text : Text) (at to lo : ℕ) (xs : List Lexeme) → IsCutting (drop at text) xs → lo < at → touches_next lo (tokens_from text at to xs) ≡ false
apart text at to lo [] c h = refl
apart text at to lo (x ∷ xs) c h =
    none_or (nat_lt at to) lo (token_of x.0 text at x.1 ++ tokens_from text (at + x.1) to xs)
    (behind_from x.0 text at x.1 lo (tokens_from text (at + x.1) to xs) h (apart text (at + x.1) to lo xs (cut_after text at x xs c) (omega (arith, h))))

touch_first : (k : LexemeKind) (text : Text) (at n : ℕ) (rest : List Placed) → touches_next at rest ≡ false → touches_next at (token_of k text at n ++ rest) ≡ is_token k
touch_first kind.Layout text at n rest e = e
touch_first kind.Comment text at n rest e = e
touch_first (kind.Bad ended) text at n rest e = e
touch_first (kind.Token row) text at n rest e = eq-eqb at at refl

-- the next token touches where the next lexeme is one
touched : (text : Text) (from at : ℕ) (xs : List Lexeme) → IsCutting (drop at text) xs → touches_next at (tokens_from text at (piece_of text from at xs).to xs) ≡ begins_token xs
touched text from at [] c = refl
touched text from at (x ∷ xs) c =
    ap (touches_next at) (first_tokens text at (piece_of text from at (x ∷ xs)).to x xs (reach_first text from at x xs c))
    ∙ touch_first x.0 text at x.1 (tokens_from text (at + x.1) (piece_of text from at (x ∷ xs)).to xs) (apart text (at + x.1) (piece_of text from at (x ∷ xs)).to at xs (cut_after text at x xs c) (omega (arith, c.0)))

one_more : (row : TokenKind) (text : Text) (from at n : ℕ) (xs : List Lexeme) → IsCutting (drop (at + n) text) xs → unplaced (tokens_from text (at + n) (piece_of text from (at + n) xs).to xs) ≡ spelled (drop (at + n) text) xs → unplaced (token_of (kind.Token row) text at n ++ tokens_from text (at + n) (piece_of text from (at + n) xs).to xs) ≡ record { kind = row; text = take n (drop at text); touches = begins_token xs } ∷ spelled (drop (at + n) text) xs
one_more row text from at n xs c next =
    let rest = tokens_from text (at + n) (piece_of text from (at + n) xs).to xs in
    let with : Bool → Spelled = λ b. record { kind = row; text = take n (drop at text); touches = b } in
    ap (λ b. with b ∷ unplaced rest) (touched text from (at + n) xs c) ∙ ap (λ l. with (begins_token xs) ∷ l) next

one_step : (k : LexemeKind) (text : Text) (from at n : ℕ) (xs : List Lexeme) → IsCutting (drop (at + n) text) xs → ((piece_of text from (at + n) xs).bad ≡ None → unplaced (tokens_from text (at + n) (piece_of text from (at + n) xs).to xs) ≡ spelled (drop (at + n) text) xs) → (piece_by (role k) text from at (at + n) (piece_of text from (at + n) xs)).bad ≡ None → unplaced (token_of k text at n ++ tokens_from text (at + n) (piece_by (role k) text from at (at + n) (piece_of text from (at + n) xs)).to xs) ≡ spelled_by k (drop at text) n (begins_token xs) (spelled (drop (at + n) text) xs)
one_step kind.Layout text from at n xs c next good = next good
one_step kind.Comment text from at n xs c next good = next good
one_step (kind.Bad ended) text from at n xs c next good = absurd (none-some (line_at text at) (sym good))
one_step (kind.Token token.Name) text from at n xs c next good = one_more token.Name text from at n xs c (next good)
one_step (kind.Token token.Variable) text from at n xs c next good = one_more token.Variable text from at n xs c (next good)
one_step (kind.Token token.Integer) text from at n xs c next good = one_more token.Integer text from at n xs c (next good)
one_step (kind.Token token.Symbol) text from at n xs c next good = one_more token.Symbol text from at n xs c (next good)
one_step (kind.Token token.Quoted) text from at n xs c next good = one_more token.Quoted text from at n xs c (next good)
one_step (kind.Token token.Cut) text from at n xs c next good = one_more token.Cut text from at n xs c (next good)
one_step (kind.Token token.Semicolon) text from at n xs c next good = one_more token.Semicolon text from at n xs c (next good)
one_step (kind.Token token.Comma) text from at n xs c next good = one_more token.Comma text from at n xs c (next good)
one_step (kind.Token token.Bar) text from at n xs c next good = one_more token.Bar text from at n xs c (next good)
one_step (kind.Token token.Open) text from at n xs c next good = one_more token.Open text from at n xs c (next good)
one_step (kind.Token token.Close) text from at n xs c next good = one_more token.Close text from at n xs c (next good)
one_step (kind.Token token.OpenList) text from at n xs c next good = one_more token.OpenList text from at n xs c (next good)
one_step (kind.Token token.CloseList) text from at n xs c next good = one_more token.CloseList text from at n xs c (next good)
one_step (kind.Token token.End) text from at n xs c next good =
    ap (λ l. unplaced (token_of (kind.Token token.End) text at n ++ l)) (past_end text (at + n) (at + n) xs (omega arith))

-- the tokens of a piece that has begun, from a later place on
rest_unplaced : (text : Text) (from at : ℕ) (xs : List Lexeme) → IsCutting (drop at text) xs → (piece_of text from at xs).bad ≡ None → unplaced (tokens_from text at (piece_of text from at xs).to xs) ≡ spelled (drop at text) xs
rest_unplaced text from at [] c good = refl
rest_unplaced text from at (x ∷ xs) c good =
    let after = cut_after text at x xs c in
    ap unplaced (first_tokens text at (piece_of text from at (x ∷ xs)).to x xs (reach_first text from at x xs c))
    ∙ one_step x.0 text from at x.1 xs after (rest_unplaced text from (at + x.1) xs after) good
    ∙ ap (λ t. spelled_by x.0 (drop at text) x.1 (begins_token xs) (spelled t xs)) (sym (drop-drop x.1 at text))

pub reads_without_places : (text : Text) (p : Piece) → Contains (pieces text) p → ReadsWithoutPlaces text p
reads_without_places text p h good =
    let xs = lexemes (drop p.from text) in
    let ends = (is_piece text p h).ends in
    ap (λ q. unplaced (tokens_from text p.from q.to xs)) ends ∙ rest_unplaced text p.from p.from xs (cut (drop p.from text)) (sym (ap (λ q. q.bad) ends) ∙ good)
