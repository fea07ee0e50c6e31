-- How a line grows by a piece.
use Rattle.std.proofs.Common.{◌≡◌, ℕ, ◌+◌, ◌<◌, List, [], ◌∷◌, ◌++◌, codes, map, take, drop, get_or, length, arith, refl, ap, sym, ◌∙◌, append_assoc, append-nil, subst}
use Rattle.std.proofs.lemmas.Grind.{flat_map-append}
use Rattle.std.proofs.lemmas.List.{map_more}
use Rattle.std.proofs.lemmas.List.Folds.{flat_map-map}
use Rattle.ap_term.specs.declared.clauses.Part.{Part}
use Rattle.ap_term.specs.declared.terms.Term as code
use Rattle.ap_term.specs.Tree.{Tree}
use Rattle.ap_term.specs.TermView.{tree_of, trees_of}
use Rattle.ap_term.specs.GoalView.{part_of}
use Rattle.ap_term.specs.Goals as goals
use Rattle.ap_term.specs.Blocks.{IsPrefix}
use Rattle.ap_term.proofs.Lists.{prefix-refl, prefix-trans}
use Rattle.ap_writer.proofs.Numbering.{add_vars-prefix}
use Rattle.ap_cge.specs.declared.pieces.Piece as source
use Rattle.ap_cge.specs.PieceView.{piece_of}
use Rattle.ap_cge.specs.Printed.{Piece, word, term, add_piece_vars, add_pieces_vars, piece_text, pieces_text, behind, parted, list_of, part_pieces, body_pieces, clause_pieces, line_of}

add_pieces_vars-push : (ps : List Piece) (p : Piece) (found : List ℕ) → add_pieces_vars (ps ++ p ∷ []) found ≡ add_piece_vars p (add_pieces_vars ps found)
add_pieces_vars-push [] p found = refl
add_pieces_vars-push (q ∷ ps) p found = add_pieces_vars-push ps p (add_piece_vars q found)

pub add_piece_vars-prefix : (p : Piece) (found : List ℕ) → IsPrefix found (add_piece_vars p found)
add_piece_vars-prefix (word bytes) found = prefix-refl found
add_piece_vars-prefix (term t) found = add_vars-prefix t found

pieces_text-push : (names : List (List ℕ)) (found : List ℕ) (ps : List Piece) (p : Piece) → pieces_text names found (ps ++ p ∷ []) ≡ pieces_text names found ps ++ piece_text names found p
pieces_text-push names found ps p =
    flat_map-append (piece_text names found) ps (p ∷ []) ∙ ap (λ l. pieces_text names found ps ++ l) (append-nil (piece_text names found p))

-- the variables behind one more piece
pub variables-more : (ps : List source.Piece) (i : ℕ) (p : source.Piece) (start before after : List ℕ) → i < length ps → p ≡ get_or ps i p
    → before ≡ add_pieces_vars (map piece_of (take i ps)) start → after ≡ add_piece_vars (piece_of p) before
    → after ≡ add_pieces_vars (map piece_of (take (i + 1) ps)) start
variables-more ps i p start before after lt is h k =
    k ∙ ap (add_piece_vars (piece_of p)) h
    ∙ sym (add_pieces_vars-push (map piece_of (take i ps)) (piece_of p) start)
    ∙ ap (λ q. add_pieces_vars (map piece_of (take i ps) ++ piece_of q ∷ []) start) is
    ∙ ap (λ l. add_pieces_vars l start) (sym (map_more piece_of ps i p lt))

-- the text with one more piece
pub text-more : (names : List (List ℕ)) (ps : List source.Piece) (i : ℕ) (p : source.Piece) (found start before after : List ℕ) → i < length ps → p ≡ get_or ps i p
    → before ≡ start ++ pieces_text names found (map piece_of (take i ps)) → after ≡ before ++ piece_text names found (piece_of p)
    → after ≡ start ++ pieces_text names found (map piece_of (take (i + 1) ps))
text-more names ps i p found start before after lt is h k =
    k ∙ ap (λ l. l ++ piece_text names found (piece_of p)) h
    ∙ append_assoc start (pieces_text names found (map piece_of (take i ps))) (piece_text names found (piece_of p))
    ∙ ap (λ l. start ++ l) (sym (pieces_text-push names found (map piece_of (take i ps)) (piece_of p))
    ∙ ap (λ q. pieces_text names found (map piece_of (take i ps) ++ piece_of q ∷ [])) is
    ∙ ap (pieces_text names found) (sym (map_more piece_of ps i p lt)))

-- what was found before a piece is in front of all that comes after it
pub prefix-before : (p : Piece) (before after found : List ℕ) → after ≡ add_piece_vars p before → IsPrefix after found → IsPrefix before found
prefix-before p before after found e h = prefix-trans before after found (subst (IsPrefix before) (sym e) (add_piece_vars-prefix p before)) h

-- ---- lists of terms and of parts

pub list-of : (ts : List code.Term) → list_of (trees_of ts) ≡ map tree_of ts
list-of [] = refl
list-of (t ∷ ts) = ap (λ us. tree_of t ∷ us) (list-of ts)

pub goals-behind : (sign : List ℕ) (f : Tree → List Piece) (ts : List code.Term) → behind sign f (list_of (trees_of ts)) ≡ behind sign (λ t. f (tree_of t)) ts
goals-behind sign f ts = ap (behind sign f) (list-of ts) ∙ flat_map-map (λ x. word sign ∷ f x) tree_of ts

split_first : {X : Type 0} (xs : List X) (x : X) → 0 < length xs → x ≡ get_or xs 0 x → xs ≡ x ∷ drop 1 xs
split_first [] x lt is = absurd (omega arith)
split_first (y ∷ ys) x lt is = ap (λ z. z ∷ ys) (sym is)

pub goals_from : (f : Tree → List Piece) (sign : List ℕ) (ts : List code.Term) (t : code.Term) → 0 < length ts → t ≡ get_or ts 0 t
    → f (tree_of t) ++ behind sign (λ u. f (tree_of u)) (drop 1 ts) ≡ parted sign f (list_of (trees_of ts))
goals_from f sign ts t lt is =
    ap (λ l. f (tree_of t) ++ l) (sym (goals-behind sign f (drop 1 ts))) ∙ ap (λ us. parted sign f (list_of (trees_of us))) (sym (split_first ts t lt is))

pub parts_from : (f : goals.Part → List Piece) (sign : List ℕ) (ps : List Part) (p : Part) → 0 < length ps → p ≡ get_or ps 0 p
    → f (part_of p) ++ behind sign (λ q. f (part_of q)) (drop 1 ps) ≡ parted sign f (map part_of ps)
parts_from f sign ps p lt is =
    ap (λ l. f (part_of p) ++ l) (sym (flat_map-map (λ x. word sign ∷ f x) part_of (drop 1 ps))) ∙ ap (λ qs. parted sign f (map part_of qs)) (sym (split_first ps p lt is))

pub body_from : (names : List (List ℕ)) (ps : List Part) (p : Part) → 0 < length ps → p ≡ get_or ps 0 p
    → word (codes " :- ") ∷ (part_pieces names (part_of p) ++ behind (codes ", ") (λ q. part_pieces names (part_of q)) (drop 1 ps)) ≡ body_pieces names (map part_of ps)
body_from names ps p lt is =
    ap (λ l. word (codes " :- ") ∷ l) (parts_from (part_pieces names) (codes ", ") ps p lt is) ∙ go ps lt
  where
    go : (qs : List Part) → 0 < length qs → word (codes " :- ") ∷ parted (codes ", ") (part_pieces names) (map part_of qs) ≡ body_pieces names (map part_of qs)
    go [] lt = absurd (omega arith)
    go (q ∷ qs) lt = refl

pub line-is : (names : List (List ℕ)) (c : goals.Clause) (ps : List Piece) (found start : List ℕ) (bytes before : List ℕ) → ps ≡ clause_pieces names c → start ≡ [] → before ≡ []
    → found ≡ add_pieces_vars ps start → ((later : List ℕ) → IsPrefix found later → bytes ≡ before ++ pieces_text names later ps) → bytes ≡ line_of names c
line-is names c ps found start bytes before e s b v t =
    t found (prefix-refl found)
    ∙ ap (λ l. l ++ pieces_text names found ps) b
    ∙ ap (λ f. pieces_text names f ps) (v ∙ ap (add_pieces_vars ps) s)
    ∙ ap (λ qs. pieces_text names (add_pieces_vars qs []) qs) e
