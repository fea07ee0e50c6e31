-- Where the pieces of a text lie.
use Rattle.std.proofs.Common.{◌≡◌, ℕ, ◌+◌, ◌<◌, ◌≤◌, List, [], ◌∷◌, ◌++◌, true, false, length, drop, Option, Some, None, refl, sym, ap, subst, ◌∙◌, arith, length-drop}
use Rattle.std.specs.Prelude.{MatchOption, ⊤, All, Contains}
use Rattle.std.proofs.lemmas.List.{drop-drop}
use Rattle.std.proofs.lemmas.List.Elements.{All-nil, All-cons, All-contains}
use Rattle.ap_lexer.specs.declared.cut.Piece.{Piece}
use Rattle.ap_lexer.specs.Lexeme.{Text, Lexeme, lexemes}
use Rattle.ap_lexer.specs.Piece.{Role, Gap, Part, Last, Fault, role, start, begun_after, ended_by, unended, piece, pieces_from, pieces, line_at}
use Rattle.ap_lexer.specs.Law.{IsCutting, LieInOrder, piece_by, piece_of, IsPieceOf}
use Rattle.ap_lexer.proofs.Cutting.{cut, one}

-- the cutting behind a lexeme
pub cut_after : (text : Text) (at : ℕ) (x : Lexeme) (xs : List Lexeme) → IsCutting (drop at text) (x ∷ xs) → IsCutting (drop (at + x.1) text) xs
cut_after text at x xs c = subst (λ t. IsCutting t xs) (drop-drop x.1 at text) c.3

pub after_within : (text : Text) (at : ℕ) (x : Lexeme) (xs : List Lexeme) → IsCutting (drop at text) (x ∷ xs) → at + x.1 ≤ length text
after_within text at x xs c = omega (arith, c.0, c.1, length-drop at text)

-- no piece has begun before lo
abbrev pub Since : ℕ → Option ℕ → ℕ → Type 0
Since lo begun at = MatchOption begun (lo ≤ at) (λ f. (lo ≤ f) × (f < at))

later : (lo at n : ℕ) (begun : Option ℕ) → Since lo begun at → Since lo begun (at + n)
later lo at n None s = omega (arith, s)
later lo at n (Some f) s = (s.0, omega (arith, s.1))

started : (lo at : ℕ) (begun : Option ℕ) → Since lo begun at → (lo ≤ start begun at) × (start begun at ≤ at)
started lo at None s = (s, omega arith)
started lo at (Some f) s = (s.0, omega (arith, s.1))

order_step : (r : Role) (text : Text) (at n lo : ℕ) (begun : Option ℕ) (xs : List Lexeme) → 0 < n → ((b : Option ℕ) (l : ℕ) → Since l b (at + n) → LieInOrder l (pieces_from text (at + n) b xs)) → Since lo begun at → LieInOrder lo (ended_by r text (start begun at) at (at + n) ++ pieces_from text (at + n) (begun_after r begun at) xs)
order_step Gap text at n lo begun xs h next s = next begun lo (later lo at n begun s)
order_step Part text at n lo begun xs h next s = let st = started lo at begun s in next (Some (start begun at)) lo (st.0, omega (arith, st.1, h))
order_step Last text at n lo begun xs h next s = let st = started lo at begun s in (st.0, omega (arith, st.1, h), next None (at + n) (omega arith))
order_step (Fault ended) text at n lo begun xs h next s = let st = started lo at begun s in (st.0, omega (arith, st.1, h), next None (at + n) (omega arith))

last_in_order : (text : Text) (at lo : ℕ) (begun : Option ℕ) → Since lo begun at → LieInOrder lo (unended text at begun)
last_in_order text at lo None s = tt
last_in_order text at lo (Some f) s = (s.0, s.1, tt)

in_order_from : (text : Text) (xs : List Lexeme) (at lo : ℕ) (begun : Option ℕ) → IsCutting (drop at text) xs → Since lo begun at → LieInOrder lo (pieces_from text at begun xs)
in_order_from text [] at lo begun c s = last_in_order text at lo begun s
in_order_from text (x ∷ xs) at lo begun c s = order_step (role x.0) text at x.1 lo begun xs c.0 (λ b l. in_order_from text xs (at + x.1) l b (cut_after text at x xs c)) s

pub in_order : (text : Text) → LieInOrder 0 (pieces text)
in_order text = in_order_from text (lexemes text) 0 0 None (cut text) (omega arith)

-- what is known of a piece that has begun
abbrev pub IsOpen : Text → Option ℕ → ℕ → List Lexeme → Type 0
IsOpen text begun at xs = MatchOption begun ⊤ (λ f. (f < at) × (piece_of text f f (lexemes (drop f text)) ≡ piece_of text f at xs))

-- a piece, seen from where it began
from_start : (text : Text) (at : ℕ) (begun : Option ℕ) (xs : List Lexeme) → IsCutting (drop at text) xs → IsOpen text begun at xs → (start begun at ≤ at) × (piece_of text (start begun at) (start begun at) (lexemes (drop (start begun at) text)) ≡ piece_of text (start begun at) at xs)
from_start text at None xs c o = (omega arith, ap (piece_of text at at) (sym (one (drop at text) xs c)))
from_start text at (Some f) xs c o = (omega (arith, o.0), o.1)

still_open : (text : Text) (at n : ℕ) (begun : Option ℕ) (x : Lexeme) (xs : List Lexeme) → n ≡ x.1 → role x.0 ≡ Gap → IsOpen text begun at (x ∷ xs) → IsOpen text begun (at + x.1) xs
still_open text at n None x xs e r o = o
still_open text at n (Some f) x xs e r o = (omega (arith, o.0), o.1 ∙ ap (λ y. piece_by y text f at (at + x.1) (piece_of text f (at + x.1) xs)) r)

place_step : (r : Role) (text : Text) (at : ℕ) (begun : Option ℕ) (x : Lexeme) (xs : List Lexeme) → role x.0 ≡ r → IsCutting (drop at text) (x ∷ xs) → ((b : Option ℕ) → IsOpen text b (at + x.1) xs → All (IsPieceOf text) (pieces_from text (at + x.1) b xs)) → IsOpen text begun at (x ∷ xs) → All (IsPieceOf text) (ended_by r text (start begun at) at (at + x.1) ++ pieces_from text (at + x.1) (begun_after r begun at) xs)
place_step Gap text at begun x xs e c next o = next begun (still_open text at x.1 begun x xs refl e o)
place_step Part text at begun x xs e c next o =
    let f = start begun at in
    let began = from_start text at begun (x ∷ xs) c o in
    next (Some f) (omega (arith, began.0, c.0), began.1 ∙ ap (λ y. piece_by y text f at (at + x.1) (piece_of text f (at + x.1) xs)) e)
place_step Last text at begun x xs e c next o =
    let f = start begun at in
    let began = from_start text at begun (x ∷ xs) c o in
    All-cons (IsPieceOf text) (piece text f (at + x.1) true None) (pieces_from text (at + x.1) None xs)
    record { some = omega (arith, began.0, c.0); within = after_within text at x xs c; line_is = refl; ends = sym (began.1 ∙ ap (λ y. piece_by y text f at (at + x.1) (piece_of text f (at + x.1) xs)) e) }
    (next None tt)
place_step (Fault ended) text at begun x xs e c next o =
    let f = start begun at in
    let began = from_start text at begun (x ∷ xs) c o in
    All-cons (IsPieceOf text) (piece text f (at + x.1) ended (Some (line_at text at))) (pieces_from text (at + x.1) None xs)
    record { some = omega (arith, began.0, c.0); within = after_within text at x xs c; line_is = refl; ends = sym (began.1 ∙ ap (λ y. piece_by y text f at (at + x.1) (piece_of text f (at + x.1) xs)) e) }
    (next None tt)

last_placed : (text : Text) (at : ℕ) (begun : Option ℕ) → at ≤ length text → IsOpen text begun at [] → All (IsPieceOf text) (unended text at begun)
last_placed text at None h o = All-nil (IsPieceOf text)
last_placed text at (Some f) h o = All-cons (IsPieceOf text) (piece text f at false None) [] record { some = o.0; within = h; line_is = refl; ends = sym o.1 } (All-nil (IsPieceOf text))

placed_from : (text : Text) (xs : List Lexeme) (at : ℕ) (begun : Option ℕ) → at ≤ length text → IsCutting (drop at text) xs → IsOpen text begun at xs → All (IsPieceOf text) (pieces_from text at begun xs)
placed_from text [] at begun h c o = last_placed text at begun h o
placed_from text (x ∷ xs) at begun h c o = place_step (role x.0) text at begun x xs refl c (λ b. placed_from text xs (at + x.1) b (after_within text at x xs c) (cut_after text at x xs c)) o

pub placed : (text : Text) → All (IsPieceOf text) (pieces text)
placed text = placed_from text (lexemes text) 0 None (omega arith) (cut text) tt

pub is_piece : (text : Text) (p : Piece) → Contains (pieces text) p → IsPieceOf text p
is_piece text p h = All-contains (IsPieceOf text) (pieces text) p (placed text) h
