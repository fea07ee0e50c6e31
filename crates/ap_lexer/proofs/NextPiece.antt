-- One turn of the loop over the lexemes of one piece, and its end.
use Rattle.std.proofs.Common.{◌≡◌, ℕ, ◌+◌, ◌<◌, ◌≤◌, Bool, true, false, List, [], ◌∷◌, ◌++◌, length, drop, Option, Some, None, refl, sym, ap, subst, ◌∙◌, ◌^◌, length-drop, arith}
use Rattle.std.specs.Prelude.{option_to_list, is_some, IfSome}
use Rattle.std.proofs.lemmas.Bool.{false≢true}
use Rattle.std.proofs.Math.ListN.{drop_of_length-le}
use Rattle.ap_lexer.specs.declared.kind.TokenKind.{TokenKind}
use Rattle.ap_lexer.specs.declared.kind.TokenKind.TheVariants as token
use Rattle.ap_lexer.specs.declared.kind.LexemeKind.{LexemeKind}
use Rattle.ap_lexer.specs.declared.kind.LexemeKind.TheVariants as kind
use Rattle.ap_lexer.specs.declared.cut.Piece.{Piece}
use Rattle.ap_lexer.specs.declared.cutter.Cutter.{Cutter}
use Rattle.ap_lexer.specs.Lexeme.{Text, Lexeme, lexeme, lexemes}
use Rattle.ap_lexer.specs.Piece.{Role, Gap, Part, Last, Fault, role, start, begun_after, ended_by, unended, piece, line_at, pieces_from, Begins, BeganIn}
use Rattle.ap_lexer.specs.Stream.{IsIn}
use Rattle.ap_lexer.specs.Token.{Placed, token_of, tokens_from, tokens}
use Rattle.ap_lexer.specs.Ahead.{IsSound}
use Rattle.ap_lexer.specs.Cutter.{Stands, Cuts, IsNext, HasTokens, left, place}
use Rattle.std.proofs.lemmas.List.{drop-drop}
use Rattle.ap_lexer.proofs.Lexemes.{lexemes-nil}
use Rattle.ap_lexer.proofs.Toks as toks
use Rattle.ap_lexer.proofs.Turn as turn

-- The tokens so far, ts, of a piece that goes on at a place. Before its first token there are none.
abbrev pub Held : Text → Option ℕ → ℕ → List Placed → Type 0
Held text None at ts = ts ≡ []
Held text (Some from) at ts = (to : ℕ) → at ≤ to → ts ++ tokens_from text at to (lexemes (drop at text)) ≡ tokens_from text from to (lexemes (drop from text))

held_start : (text : Text) (b : Option ℕ) (at : ℕ) (ts : List Placed) → Held text b at ts → (to : ℕ) → at ≤ to → ts ++ tokens_from text at to (lexemes (drop at text)) ≡ tokens_from text (start b at) to (lexemes (drop (start b at) text))
held_start text None at ts h to k = ap (λ l. l ++ tokens_from text at to (lexemes (drop at text))) h
held_start text (Some from) at ts h to k = h to k

abbrev is_gap : Role → Bool
is_gap Gap = true
is_gap Part = false
is_gap Last = false
is_gap (Fault ended) = false

no_gap : (row : TokenKind) → is_gap (role (kind.Token row)) ≡ false
no_gap token.Name = refl
no_gap token.Variable = refl
no_gap token.Integer = refl
no_gap token.Symbol = refl
no_gap token.Quoted = refl
no_gap token.Cut = refl
no_gap token.Semicolon = refl
no_gap token.Comma = refl
no_gap token.Bar = refl
no_gap token.Open = refl
no_gap token.Close = refl
no_gap token.OpenList = refl
no_gap token.CloseList = refl
no_gap token.End = refl

gap_token : (k : LexemeKind) (text : Text) (at n : ℕ) → role k ≡ Gap → token_of k text at n ≡ []
gap_token kind.Layout text at n e = refl
gap_token kind.Comment text at n e = refl
gap_token (kind.Token row) text at n e = absurd (false≢true (sym (no_gap row) ∙ ap is_gap e))
gap_token (kind.Bad ended) text at n e = refl

-- what a turn is about: a lexeme at a place, and the tokens before it and behind it
pub record Turn (text : Text) (b : Option ℕ) (at : ℕ) (x : Lexeme) (ts new : List Placed) : Type 0 where
  pub inside : at < length text
  pub some : 0 < x.1
  pub is : x ≡ lexeme (drop at text)
  pub put : new ≡ ts ++ token_of x.0 text at x.1
  pub held : Held text b at ts

turned_to : (text : Text) (b : Option ℕ) (at : ℕ) (x : Lexeme) (ts new : List Placed) → Turn text b at x ts new → (to : ℕ) → at + x.1 ≤ to → new ++ tokens_from text (at + x.1) to (lexemes (drop (at + x.1) text)) ≡ tokens_from text (start b at) to (lexemes (drop (start b at) text))
turned_to text b at x ts new t to h =
    toks.turned text at to ts new (tokens_from text (start b at) to (lexemes (drop (start b at) text))) x t.inside (omega (arith, h, t.some)) t.some t.is t.put (held_start text b at ts t.held to (omega (arith, h)))

gap_held : (text : Text) (b : Option ℕ) (at : ℕ) (x : Lexeme) (ts new : List Placed) → role x.0 ≡ Gap → Turn text b at x ts new → Held text b (at + x.1) new
gap_held text None at x ts new e t = t.put ∙ ap (λ l. l ++ token_of x.0 text at x.1) t.held ∙ gap_token x.0 text at x.1 e
gap_held text (Some from) at x ts new e t = turned_to text (Some from) at x ts new t

no_item : (A : Type 0) (x : A) (xs : List A) → [] ≡ x ∷ xs → ⊥
no_item A x xs e = omega (arith, ap length e)

held_by : (r : Role) (text : Text) (b : Option ℕ) (at : ℕ) (x : Lexeme) (ts new : List Placed) → role x.0 ≡ r → [] ≡ ended_by r text (start b at) at (at + x.1) → Turn text b at x ts new → Held text (begun_after r b at) (at + x.1) new
held_by Gap text b at x ts new e f t = gap_held text b at x ts new e t
held_by Part text b at x ts new e f t = turned_to text b at x ts new t
held_by Last text b at x ts new e f t = absurd (no_item Piece (piece text (start b at) (at + x.1) true None) [] f)
held_by (Fault ended) text b at x ts new e f t = absurd (no_item Piece (piece text (start b at) (at + x.1) ended (Some (line_at text at))) [] f)

-- the tokens behind a lexeme that doesn't end its piece
pub held_on : (text : Text) (b : Option ℕ) (at : ℕ) (x : Lexeme) (ts new : List Placed) → [] ≡ ended_by (role x.0) text (start b at) at (at + x.1) → Turn text b at x ts new → Held text (begun_after (role x.0) b at) (at + x.1) new
held_on text b at x ts new f t = held_by (role x.0) text b at x ts new refl f t

-- where a piece that a lexeme ends lies, and that none has begun behind it
record Closes (r : Role) (b : Option ℕ) (from at to : ℕ) (p : Piece) : Type 0 where
  from_is : p.from ≡ from
  to_is : p.to ≡ to
  fresh : begun_after r b at ≡ None

same_first : (p q : Piece) → p ∷ [] ≡ q ∷ [] → p ≡ q
same_first p q e = ap (first_or p) e
  where
    first_or : Piece → List Piece → Piece
    first_or d [] = d
    first_or d (x ∷ xs) = x

closes : (r : Role) (text : Text) (b : Option ℕ) (from at to : ℕ) (p : Piece) → p ∷ [] ≡ ended_by r text from at to → Closes r b from at to p
closes Gap text b from at to p e = absurd (no_item Piece p [] (sym e))
closes Part text b from at to p e = absurd (no_item Piece p [] (sym e))
closes Last text b from at to p e =
    let same = same_first p (piece text from to true None) e in
    record { from_is = ap (λ q. q.from) same; to_is = ap (λ q. q.to) same; fresh = refl }
closes (Fault ended) text b from at to p e =
    let same = same_first p (piece text from to ended (Some (line_at text at))) e in
    record { from_is = ap (λ q. q.from) same; to_is = ap (λ q. q.to) same; fresh = refl }

-- ts are the tokens from `from` to `to`, which are a piece's
tokens_of_piece : (text : Text) (ts : List Placed) (from to : ℕ) (p : Piece) → p.from ≡ from → p.to ≡ to → ts ≡ tokens_from text from to (lexemes (drop from text)) → ts ≡ tokens text p
tokens_of_piece text ts from to p e f h = h ∙ ap (λ a. tokens_from text a to (lexemes (drop a text))) (sym e) ∙ ap (λ z. tokens_from text p.from z (lexemes (drop p.from text))) (sym f)

-- the tokens of a piece that a lexeme ends
closed_tokens : (text : Text) (b : Option ℕ) (at : ℕ) (x : Lexeme) (ts new : List Placed) (p : Piece) → p ∷ [] ≡ ended_by (role x.0) text (start b at) at (at + x.1) → Turn text b at x ts new → new ≡ tokens text p
closed_tokens text b at x ts new p e t =
    let to = at + x.1 in
    let c = closes (role x.0) text b (start b at) at to p e in
    tokens_of_piece text new (start b at) to p c.from_is c.to_is
    (toks.ended_past text to to new (tokens_from text (start b at) to (lexemes (drop (start b at) text))) (omega arith) (turned_to text b at x ts new t to (omega arith)))

-- the pieces behind one that a lexeme ends
closed_next : (text : Text) (b : Option ℕ) (at : ℕ) (x : Lexeme) (p : Piece) (all : List Piece) → at < length text → 0 < x.1 → x ≡ lexeme (drop at text) → p ∷ [] ≡ ended_by (role x.0) text (start b at) at (at + x.1) → pieces_from text at b (lexemes (drop at text)) ≡ all → all ≡ p ∷ pieces_from text (at + x.1) None (lexemes (drop (at + x.1) text))
closed_next text b at x p all h k is e before =
    let c = closes (role x.0) text b (start b at) at (at + x.1) p e in
    sym (turn.turned text at b [] (p ∷ []) all x h k is e before) ∙ ap (λ f. p ∷ pieces_from text (at + x.1) f (lexemes (drop (at + x.1) text))) c.fresh

-- the pieces behind a lexeme that ends none
pub open_next : (text : Text) (b : Option ℕ) (at : ℕ) (x : Lexeme) (all : List Piece) → at < length text → 0 < x.1 → x ≡ lexeme (drop at text) → [] ≡ ended_by (role x.0) text (start b at) at (at + x.1) → pieces_from text at b (lexemes (drop at text)) ≡ all → pieces_from text (at + x.1) (begun_after (role x.0) b at) (lexemes (drop (at + x.1) text)) ≡ all
open_next text b at x all h k is e before = turn.turned text at b [] [] all x h k is e before

-- ---- the same for what the code has

-- what stands at a place of what is left of a text stands in the text behind what is let go
pub seen : (text whole : Text) (before at : ℕ) → text ≡ drop before whole → drop at text ≡ drop (before + at) whole
seen text whole before at e = ap (drop at) e ∙ drop-drop at before whole

pub inside : (text whole : Text) (before at : ℕ) → text ≡ drop before whole → at < length text → before + at < length whole
inside text whole before at e h = omega (arith, h, ap length e, length-drop before whole)

pub outside : (text whole : Text) (before at : ℕ) → text ≡ drop before whole → length text ≤ at → length whole ≤ before + at
outside text whole before at e h = omega (arith, h, ap length e, length-drop before whole)

pub stands : (c : Cutter) (text : Text) (before : ℕ) → c.text.now ≡ text → c.before ≡ before → c.at ≤ length text → IsSound text c.ahead → c.line ≤ before + c.at + 1 → before + length text < 2 ^ 63 → Stands c
stands c text before same there h s l f = record {
  within = subst (λ t. c.at ≤ length t) (sym same) h;
  sound = subst (λ t. IsSound t c.ahead) (sym same) s;
  line_low = omega (arith, there, l);
  fits = omega (arith, there, ap length same, f);
}

-- A piece of the whole text that goes on at a place in a line, with its tokens so far where they are few.
pub record Goes (whole : Text) (old : Cutter) (at line : ℕ) (b : Option (ℕ × ℕ)) (few : Type 0) (ts : List Placed) : Type 0 where
  pub line_is : line ≡ line_at whole at
  pub begun : Option ℕ
  pub begins : Begins whole b begun
  pub left_is : pieces_from whole at begun (lexemes (drop at whole)) ≡ left whole old
  pub held : few → Held whole begun at ts

pub not_ended : (p : Option Piece) (ps : List Piece) → is_some p ≡ false → option_to_list p ≡ ps → [] ≡ ps
not_ended None ps s e = e
not_ended (Some p) ps s e = absurd (false≢true (sym s))

pub next_closed : (p : Option Piece) (whole : Text) (b : Option ℕ) (at : ℕ) (x : Lexeme) (old new : Cutter) → is_some p ≡ true → option_to_list p ≡ ended_by (role x.0) whole (start b at) at (at + x.1) → place new ≡ at + x.1 → at < length whole → 0 < x.1 → x ≡ lexeme (drop at whole) → pieces_from whole at b (lexemes (drop at whole)) ≡ left whole old → IsNext whole p old new
next_closed None whole b at x old new some e there h k is before = absurd (false≢true some)
next_closed (Some p) whole b at x old new some e there h k is before =
    closed_next whole b at x p (left whole old) h k is e before ∙ ap (λ n. p ∷ pieces_from whole n None (lexemes (drop n whole))) (sym there)

pub tokens_closed : (p : Option Piece) (text : Text) (b : Option ℕ) (at : ℕ) (x : Lexeme) (ts new : List Placed) → option_to_list p ≡ ended_by (role x.0) text (start b at) at (at + x.1) → Turn text b at x ts new → IfSome p (HasTokens text new)
tokens_closed None text b at x ts new e t = tt
tokens_closed (Some p) text b at x ts new e t = closed_tokens text b at x ts new p e t

-- tokens that are a piece's in each text that is cut, where they are few
pub of_each : (few : Type 0) (c : Cutter) (ts : List Placed) (p : Option Piece) → ((whole : Text) → Cuts whole c → few → IfSome p (HasTokens whole ts)) → IfSome p (λ q. (whole : Text) → Cuts whole c → few → HasTokens whole ts q)
of_each few c ts None f = tt
of_each few c ts (Some q) f = f

-- the line of a piece's first byte, in each text that is cut
pub lines_of : (c : Cutter) (p : Option Piece) → ((whole : Text) → Cuts whole c → IfSome p (λ q. q.line ≡ line_at whole q.from)) → IfSome p (λ q. (whole : Text) → Cuts whole c → q.line ≡ line_at whole q.from)
lines_of c None f = tt
lines_of c (Some q) f = f

line_by : (r : Role) (text : Text) (from at to : ℕ) (p : Piece) → p ∷ [] ≡ ended_by r text from at to → p.line ≡ line_at text p.from
line_by Gap text from at to p e = absurd (no_item Piece p [] (sym e))
line_by Part text from at to p e = absurd (no_item Piece p [] (sym e))
line_by Last text from at to p e =
    let same = same_first p (piece text from to true None) e in
    ap (λ q. q.line) same ∙ ap (λ q. line_at text q.from) (sym same)
line_by (Fault ended) text from at to p e =
    let same = same_first p (piece text from to ended (Some (line_at text at))) e in
    ap (λ q. q.line) same ∙ ap (λ q. line_at text q.from) (sym same)

pub line_closed : (p : Option Piece) (r : Role) (text : Text) (from at to : ℕ) → option_to_list p ≡ ended_by r text from at to → IfSome p (λ q. q.line ≡ line_at text q.from)
line_closed None r text from at to e = tt
line_closed (Some p) r text from at to e = line_by r text from at to p e

pub line_last : (p : Option Piece) (text : Text) (b : Option ℕ) (at : ℕ) → option_to_list p ≡ unended text at b → IfSome p (λ q. q.line ≡ line_at text q.from)
line_last None text b at e = tt
line_last (Some p) text None at e = absurd (no_item Piece p [] (sym e))
line_last (Some p) text (Some from) at e =
    let same = same_first p (piece text from at false None) e in
    ap (λ q. q.line) same ∙ ap (λ q. line_at text q.from) (sym same)

-- a piece lies in the text that is cut
pub begun_later : (lo at to : ℕ) (b : Option (ℕ × ℕ)) → at ≤ to → BeganIn lo at b → BeganIn lo to b
begun_later lo at to None h k = tt
begun_later lo at to (Some p) h k = (k.0, omega (arith, k.1, h), k.2)

pub ended_within : (text : Text) (before from line to : ℕ) (p : Option Piece) → before ≤ from → from ≤ to → to ≤ before + length text → line ≤ from + 1 → IfSome p (λ q. (q.from ≡ from) × (q.to ≡ to) × (q.line ≡ line)) → IfSome p (IsIn text before)
ended_within text before from line to None lo some hi low h = tt
ended_within text before from line to (Some p) lo some hi low h = record {
  low = omega (arith, lo, h.0);
  some = omega (arith, some, h.0, h.1);
  high = omega (arith, hi, h.1);
  line_low = omega (arith, low, h.0, h.2);
}

pub unended_within : (text : Text) (before to : ℕ) (p : Option Piece) → to ≤ before + length text → IfSome p (λ q. (before ≤ q.from) × (q.from ≤ q.to) × (q.to ≡ to) × (q.line ≤ q.from + 1)) → IfSome p (IsIn text before)
unended_within text before to None hi h = tt
unended_within text before to (Some p) hi h = record { low = h.0; some = h.1; high = omega (arith, hi, h.2); line_low = h.3 }

-- ---- at the end of the text

none_left : (text : Text) (at : ℕ) → length text ≤ at → pieces_from text at None (lexemes (drop at text)) ≡ []
none_left text at h = ap (pieces_from text at None) (ap lexemes (drop_of_length-le text h) ∙ lexemes-nil)

pub last_next : (p : Option Piece) (whole : Text) (b : Option ℕ) (at : ℕ) (old new : Cutter) → place new ≡ at → length whole ≤ at → option_to_list p ≡ unended whole at b → pieces_from whole at b (lexemes (drop at whole)) ≡ left whole old → IsNext whole p old new
last_next None whole b at old new there h e before = sym (turn.ended_at whole at b [] [] (left whole old) h e before)
last_next (Some p) whole b at old new there h e before =
    sym (turn.ended_at whole at b [] (p ∷ []) (left whole old) h e before) ∙ ap (λ l. p ∷ l) (sym (ap (λ n. pieces_from whole n None (lexemes (drop n whole))) there ∙ none_left whole at h))

pub last_tokens : (text : Text) (p : Option Piece) (b : Option ℕ) (at : ℕ) (ts : List Placed) → option_to_list p ≡ unended text at b → Held text b at ts → IfSome p (HasTokens text ts)
last_tokens text None b at ts e h = tt
last_tokens text (Some p) None at ts e h = absurd (no_item Piece p [] (sym e))
last_tokens text (Some p) (Some from) at ts e h =
    let same = same_first p (piece text from at false None) e in
    tokens_of_piece text ts from at p (ap (λ q. q.from) same) (ap (λ q. q.to) same)
    (toks.ended_past text at at ts (tokens_from text from at (lexemes (drop from text))) (omega arith) (h at (omega arith)))
