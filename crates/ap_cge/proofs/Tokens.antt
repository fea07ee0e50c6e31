-- A printed name or number before a rest is read as its tokens.
use Rattle.std.proofs.Common.{◌≡◌, ℕ, suc, ℤ, pos, negsuc, ◌+◌, ◌-◌, ◌*◌, ◌%◌, ◌<◌, ◌≤◌, ◌^◌, ◌==◌, ◌&&◌, ◌||◌, not, Bool, true, false, if◌then◌else◌, List, [], ◌∷◌, ◌++◌, codes, flat_map, length, length-append, take, drop, bytes_eq, Some, refl, ap, sym, subst, ◌∙◌, append_assoc, arith}
use Rattle.std.specs.Prelude.{All}
use Rattle.std.specs.Char.{is_ascii_digit}
use Rattle.std.specs.List.{list_all}
use Rattle.std.specs.Fmt.{decimal, signed_decimal}
use Rattle.std.specs.Str.{IsUtf8}
use Rattle.std.proofs.lemmas.Bool.{false≢true, and_parts, ltb-true}
use Rattle.std.proofs.lemmas.Bool.Decides.{nat_tests}
use Rattle.std.proofs.lemmas.Fmt.{decimal_by_steps}
use Rattle.std.proofs.lemmas.List.Folds.{list_all-append}
use Rattle.std.proofs.lemmas.Slice.Eq.{bytes_eq-Decides}
use Rattle.std.proofs.lemmas.List.{take_at, drop_at}
use Rattle.ap_term.specs.Arithmetic.{fits}
use Rattle.ap_lexer.specs.declared.kind.TokenKind.{TokenKind}
use Rattle.ap_lexer.specs.declared.kind.TokenKind.TheVariants as token
use Rattle.ap_lexer.specs.declared.kind.LexemeKind.TheVariants as kind
use Rattle.ap_lexer.specs.Lexeme.{Text, Lexeme, number, number_from, lexeme, lexemes}
use Rattle.ap_lexer.specs.declared.cut.Piece.{Piece}
use Rattle.ap_lexer.specs.Piece.{Role, Part, role, start, begun_after, ended_by, pieces_from}
use Rattle.ap_lexer.specs.Law.{Spelled, spelled, spelled_by, begins_token}
use Rattle.ap_lexer.proofs.Lexemes.{lexemes-cons}
use Rattle.ap_writer.specs.Quoted.{is_word, is_symbol, is_name, is_symbols, escaped, name_text}
use Rattle.ap_writer.proofs.Fronts.{stops}
use Rattle.ap_cge.specs.Again.{is_apart, one_token, name_tokens, integer_tokens, variable_tokens, IsReadAs}
use Rattle.ap_cge.proofs.Lexing.{word_again, variable_again, integer_again, symbols_again, quoted_again}

-- the token at the front, and what is behind it
at_front : (row : TokenKind) (tok rest : List ℕ) → 0 < length tok → lexeme (tok ++ rest) ≡ (kind.Token row, length tok)
    → spelled (tok ++ rest) (lexemes (tok ++ rest)) ≡ spelled_by (kind.Token row) (tok ++ rest) (length tok) (begins_token (lexemes rest)) (spelled rest (lexemes rest))
at_front row tok rest some is =
    let text = tok ++ rest in
    let F : Lexeme → List Spelled = λ x. spelled text (x ∷ lexemes (drop x.1 text)) in
    let G : Text → List Spelled = λ r. spelled_by (kind.Token row) text (length tok) (begins_token (lexemes r)) (spelled r (lexemes r)) in
    let one : 0 < (lexeme text).1 = subst (λ (x : Lexeme). 0 < x.1) (sym is) some in
    ap (spelled text) (lexemes-cons text (omega (arith, length-append tok rest)) one) ∙ ap F is ∙ ap G (drop_at tok rest (length tok) refl)

-- ---- numbers

number_from-push : (a : ℕ) (ds : List ℕ) (d : ℕ) → number_from a (ds ++ d ∷ []) ≡ 10 * number_from a ds + (d - 48)
number_from-push a [] d = refl
number_from-push a (e ∷ ds) d = number_from-push (10 * a + (e - 48)) ds d

-- digits that stand for a number
pub record IsNumeral (n : ℕ) (ds : List ℕ) : Type 0 where
  pub digits : list_all is_ascii_digit ds ≡ true
  pub value : number ds ≡ n
  pub some : 0 < length ds

last_digit : (n : ℕ) → n < 10 → is_ascii_digit (48 + n) ≡ true
last_digit n h = grind (arith, nat_tests)

pub numeral : (n : ℕ) → n < 2 ^ 64 → IsNumeral n (decimal n)
numeral = decimal_by_steps IsNumeral
    (λ n small. record { digits = let d = last_digit n small in rw d refl; value = omega arith; some = omega arith })
    (λ n ds large h. record {
      digits = let d = last_digit (n % 10) (omega arith) in let e = h.digits in list_all-append is_ascii_digit ds ((48 + n % 10) ∷ []) ∙ rw (e, d) refl;
      value = number_from-push 0 ds (48 + n % 10) ∙ omega (arith, h.value);
      some = omega (arith, length-append ds ((48 + n % 10) ∷ []));
    })

-- ---- what follows

-- neither of two tests
pub not_parts : (a b : Bool) → not (a || b) ≡ true → (not a ≡ true) × (not b ≡ true)
not_parts true b h = absurd (false≢true h)
not_parts false b h = (refl, h)

apart-word : (rest : List ℕ) → is_apart rest ≡ true → stops is_word rest ≡ true
apart-word [] h = refl
apart-word (b ∷ rest) h = (not_parts (is_word b) (is_symbol b || b == 39) h).0

apart-symbol : (rest : List ℕ) → is_apart rest ≡ true → stops is_symbol rest ≡ true
apart-symbol [] h = refl
apart-symbol (b ∷ rest) h = (not_parts (is_symbol b) (b == 39) (not_parts (is_word b) (is_symbol b || b == 39) h).1).0

apart-quote : (rest : List ℕ) → is_apart rest ≡ true → stops (λ b. b == 39) rest ≡ true
apart-quote [] h = refl
apart-quote (b ∷ rest) h = (not_parts (is_symbol b) (b == 39) (not_parts (is_word b) (is_symbol b || b == 39) h).1).1

no_word_digit : (b : ℕ) → not (is_word b) ≡ true → not (is_ascii_digit b) ≡ true
no_word_digit b h = grind (arith, nat_tests)

apart-digit : (rest : List ℕ) → is_apart rest ≡ true → stops is_ascii_digit rest ≡ true
apart-digit [] h = refl
apart-digit (b ∷ rest) h = no_word_digit b (not_parts (is_word b) (is_symbol b || b == 39) h).0

-- ---- one token

begins_front : (row : TokenKind) (tok rest : List ℕ) → 0 < length tok → lexeme (tok ++ rest) ≡ (kind.Token row, length tok) → begins_token (lexemes (tok ++ rest)) ≡ true
begins_front row tok rest some is =
    let text = tok ++ rest in
    let F : Lexeme → Bool = λ x. begins_token (x ∷ lexemes (drop x.1 text)) in
    let one : 0 < (lexeme text).1 = subst (λ (x : Lexeme). 0 < x.1) (sym is) some in
    ap begins_token (lexemes-cons text (omega (arith, length-append tok rest)) one) ∙ ap F is

-- all rows but the end token's
abbrev pub is_inner : TokenKind → Bool
is_inner token.End = false
is_inner _ = true

by-row : (row : TokenKind) (text : Text) (n : ℕ) (touches : Bool) (more : List Spelled) → is_inner row ≡ true → spelled_by (kind.Token row) text n touches more ≡ one_token row (take n text) touches ++ more
by-row token.End text n touches more h = absurd (false≢true h)
by-row token.Name text n touches more h = refl
by-row token.Variable text n touches more h = refl
by-row token.Integer text n touches more h = refl
by-row token.Symbol text n touches more h = refl
by-row token.Quoted text n touches more h = refl
by-row token.Cut text n touches more h = refl
by-row token.Semicolon text n touches more h = refl
by-row token.Comma text n touches more h = refl
by-row token.Bar text n touches more h = refl
by-row token.Open text n touches more h = refl
by-row token.Close text n touches more h = refl
by-row token.OpenList text n touches more h = refl
by-row token.CloseList text n touches more h = refl

one_read : (row : TokenKind) (tok rest : List ℕ) → is_inner row ≡ true → 0 < length tok → lexeme (tok ++ rest) ≡ (kind.Token row, length tok) → IsReadAs tok (one_token row tok) rest
one_read row tok rest inner some is =
    at_front row tok rest some is
    ∙ by-row row (tok ++ rest) (length tok) (begins_token (lexemes rest)) (spelled rest (lexemes rest)) inner
    ∙ ap (λ t. one_token row t (begins_token (lexemes rest)) ++ spelled rest (lexemes rest)) (take_at tok rest (length tok) refl)

inner-role : (row : TokenKind) → is_inner row ≡ true → role (kind.Token row) ≡ Part
inner-role token.End h = absurd (false≢true h)
inner-role row h = refl

one_passes : (row : TokenKind) (tok rest : List ℕ) → is_inner row ≡ true → 0 < length tok → lexeme (tok ++ rest) ≡ (kind.Token row, length tok)
    → (whole : Text) (at from : ℕ) → pieces_from whole at (Some from) (lexemes (tok ++ rest)) ≡ pieces_from whole (at + length tok) (Some from) (lexemes rest)
one_passes row tok rest inner some is whole at from =
    let text = tok ++ rest in
    let F : Lexeme → List Piece = λ x. pieces_from whole at (Some from) (x ∷ lexemes (drop x.1 text)) in
    let G : Role → List Piece = λ r. ended_by r whole (start (Some from) at) at (at + length tok) ++ pieces_from whole (at + length tok) (begun_after r (Some from) at) (lexemes (drop (length tok) text)) in
    let one : 0 < (lexeme text).1 = subst (λ (x : Lexeme). 0 < x.1) (sym is) some in
    ap (pieces_from whole at (Some from)) (lexemes-cons text (omega (arith, length-append tok rest)) one) ∙ ap F is ∙ ap G (inner-role row inner)
    ∙ ap (λ r. pieces_from whole (at + length tok) (Some from) (lexemes r)) (drop_at tok rest (length tok) refl)

-- A text before a rest is read as these tokens, the first byte of a token stands in front or doesn't, and a piece goes on
-- behind it.
pub record Front (v : Bool) (text : Text) (tokens : Bool → List Spelled) (rest : Text) : Type 0 where
  pub read : IsReadAs text tokens rest
  pub begins : begins_token (lexemes (text ++ rest)) ≡ v
  pub passes : (whole : Text) (at from : ℕ) → pieces_from whole at (Some from) (lexemes (text ++ rest)) ≡ pieces_from whole (at + length text) (Some from) (lexemes rest)

pub one_front : (row : TokenKind) (tok rest : List ℕ) → is_inner row ≡ true → 0 < length tok → lexeme (tok ++ rest) ≡ (kind.Token row, length tok) → Front true tok (one_token row tok) rest
one_front row tok rest inner some is = record {
  read = one_read row tok rest inner some is;
  begins = begins_front row tok rest some is;
  passes = one_passes row tok rest inner some is;
}

joined_read : (v : Bool) (a b : List ℕ) (f g : Bool → List Spelled) (rest : List ℕ) → IsReadAs a f (b ++ rest) → begins_token (lexemes (b ++ rest)) ≡ v → IsReadAs b g rest → IsReadAs (a ++ b) (λ t. f v ++ g t) rest
joined_read v a b f g rest p e q =
    let last : Bool = begins_token (lexemes rest) in
    let after : List Spelled = spelled rest (lexemes rest) in
    subst (λ x. spelled x (lexemes x) ≡ (f v ++ g last) ++ after) (sym (append_assoc a b rest))
    (p ∙ ap (λ t. f t ++ spelled (b ++ rest) (lexemes (b ++ rest))) e ∙ ap (λ l. f v ++ l) q ∙ sym (append_assoc (f v) (g last) after))

-- one text behind another
pub joined_front : (v u : Bool) (a b : List ℕ) (f g : Bool → List Spelled) (rest : List ℕ) → Front v a f (b ++ rest) → Front u b g rest → Front v (a ++ b) (λ t. f u ++ g t) rest
joined_front v u a b f g rest p q = record {
  read = joined_read u a b f g rest p.read q.begins q.read;
  begins = ap (λ x. begins_token (lexemes x)) (append_assoc a b rest) ∙ p.begins;
  passes = λ whole at from.
      let place : (at + length a) + length b ≡ at + length (a ++ b) = omega (arith, length-append a b) in
      ap (λ x. pieces_from whole at (Some from) (lexemes x)) (append_assoc a b rest) ∙ p.passes whole at from ∙ q.passes whole (at + length a) from
      ∙ ap (λ n. pieces_from whole n (Some from) (lexemes rest)) place;
}

-- ---- names

some_word : (name : List ℕ) → is_name name ≡ true → 0 < length name
some_word [] h = absurd (false≢true h)
some_word (b ∷ bs) h = omega arith

some_symbol : (name : List ℕ) → is_symbols name ≡ true → 0 < length name
some_symbol [] h = absurd (false≢true h)
some_symbol (b ∷ bs) h = omega arith

pub open_list : (rest : List ℕ) → lexeme (91 ∷ rest) ≡ (kind.Token token.OpenList, 1)
unfolding lexeme
open_list rest = refl

pub close_list : (rest : List ℕ) → lexeme (93 ∷ rest) ≡ (kind.Token token.CloseList, 1)
unfolding lexeme
close_list rest = refl

semicolon : (rest : List ℕ) → lexeme (59 ∷ rest) ≡ (kind.Token token.Semicolon, 1)
unfolding lexeme
semicolon rest = refl

cut : (rest : List ℕ) → lexeme (33 ∷ rest) ≡ (kind.Token token.Cut, 1)
unfolding lexeme
cut rest = refl

-- a name before what can't go on with it
pub name_front : (name rest : List ℕ) → IsUtf8 name → All (λ b. b < 256) (name_text name ++ rest) → stops is_word rest ≡ true → (is_symbols name ≡ true → stops is_symbol rest ≡ true)
    → stops (λ b. b == 39) rest ≡ true → Front true (name_text name) (name_tokens name) rest
name_front name rest u bytes word symbol quote = go (is_name name) refl (is_symbols name) refl (bytes_eq name (codes "[]")) refl (bytes_eq name (codes ";")) refl (bytes_eq name (codes "!")) refl bytes
  where
    go : (n : Bool) → is_name name ≡ n → (s : Bool) → is_symbols name ≡ s → (l : Bool) → bytes_eq name (codes "[]") ≡ l → (o : Bool) → bytes_eq name (codes ";") ≡ o → (c : Bool) → bytes_eq name (codes "!") ≡ c
        → All (λ b. b < 256) ((if n || s || l || o || c then name else 39 ∷ (flat_map escaped name ++ 39 ∷ [])) ++ rest)
        → Front true (if n || s || l || o || c then name else 39 ∷ (flat_map escaped name ++ 39 ∷ []))
        (λ touches. if n then one_token token.Name name touches
        else (if s then one_token token.Symbol name touches
        else (if l then one_token token.OpenList (codes "[") true ++ one_token token.CloseList (codes "]") touches
        else (if o then one_token token.Semicolon (codes ";") touches
        else (if c then one_token token.Cut (codes "!") touches
        else one_token token.Quoted (name_text name) touches))))) rest
    go true e s f l g o h c i b = one_front token.Name name rest refl (some_word name e) (word_again name rest e word)
    go false e true f l g o h c i b = one_front token.Symbol name rest refl (some_symbol name f) (symbols_again name rest f (symbol f))
    go false e false f true g o h c i b =
        subst (λ t. Front true t (λ touches. one_token token.OpenList (codes "[") true ++ one_token token.CloseList (codes "]") touches) rest) (sym ((bytes_eq-Decides name (codes "[]")).0 g))
        (joined_front true true (codes "[") (codes "]") (one_token token.OpenList (codes "[")) (one_token token.CloseList (codes "]")) rest
        (one_front token.OpenList (codes "[") (codes "]" ++ rest) refl (omega arith) (open_list (codes "]" ++ rest)))
        (one_front token.CloseList (codes "]") rest refl (omega arith) (close_list rest)))
    go false e false f false g true h c i b =
        subst (λ t. Front true t (one_token token.Semicolon (codes ";")) rest) (sym ((bytes_eq-Decides name (codes ";")).0 h)) (one_front token.Semicolon (codes ";") rest refl (omega arith) (semicolon rest))
    go false e false f false g false h true i b =
        subst (λ t. Front true t (one_token token.Cut (codes "!")) rest) (sym ((bytes_eq-Decides name (codes "!")).0 i)) (one_front token.Cut (codes "!") rest refl (omega arith) (cut rest))
    go false e false f false g false h false i b =
        let quoted : name_text name ≡ 39 ∷ (flat_map escaped name ++ 39 ∷ []) = rw (e, f, g, h, i) refl in
        subst (λ t. Front true (39 ∷ (flat_map escaped name ++ 39 ∷ [])) (one_token token.Quoted t) rest) (sym quoted)
        (one_front token.Quoted (39 ∷ (flat_map escaped name ++ 39 ∷ [])) rest refl (omega arith) (quoted_again name rest u quote b))

pub name_apart : (name rest : List ℕ) → IsUtf8 name → All (λ b. b < 256) (name_text name ++ rest) → is_apart rest ≡ true → Front true (name_text name) (name_tokens name) rest
name_apart name rest u bytes apart = name_front name rest u bytes (apart-word rest apart) (λ symbols. apart-symbol rest apart) (apart-quote rest apart)

-- ---- numbers

digits_lexeme : (ds rest : List ℕ) → 0 < length ds → list_all is_ascii_digit ds ≡ true → number ds ≤ 2 ^ 63 → is_apart rest ≡ true → lexeme (ds ++ rest) ≡ (kind.Token token.Integer, length ds)
digits_lexeme [] rest some h small apart = absurd (omega arith)
digits_lexeme (d ∷ ds) rest some h small apart = integer_again d ds rest h small (apart-digit rest apart)

no_symbol_digit : (b : ℕ) → is_ascii_digit b ≡ true → not (is_symbol b) ≡ true
no_symbol_digit b h = grind (arith, nat_tests)

digits-symbol : (ds rest : List ℕ) → 0 < length ds → list_all is_ascii_digit ds ≡ true → stops is_symbol (ds ++ rest) ≡ true
digits-symbol [] rest some h = absurd (omega arith)
digits-symbol (d ∷ ds) rest some h = no_symbol_digit d (and_parts (is_ascii_digit d) (list_all is_ascii_digit ds) h).0

pub integer_front : (z : ℤ) (rest : List ℕ) → fits z ≡ true → is_apart rest ≡ true → Front true (signed_decimal z) (integer_tokens z) rest
integer_front (pos n) rest h apart =
    let small : n < 2 ^ 63 = ltb-true n (2 ^ 63) h in
    let ds = numeral n (omega arith) in
    one_front token.Integer (decimal n) rest refl ds.some (digits_lexeme (decimal n) rest ds.some ds.digits (omega (arith, ds.value)) apart)
integer_front (negsuc n) rest h apart =
    let small : n < 2 ^ 63 = ltb-true n (2 ^ 63) h in
    let ds = numeral (suc n) (omega arith) in
    let is = digits_lexeme (decimal (suc n)) rest ds.some ds.digits (omega (arith, ds.value)) apart in
    joined_front true true (codes "-") (decimal (suc n)) (one_token token.Symbol (codes "-")) (one_token token.Integer (decimal (suc n))) rest
    (one_front token.Symbol (codes "-") (decimal (suc n) ++ rest) refl (omega arith) (symbols_again (codes "-") (decimal (suc n) ++ rest) refl (digits-symbol (decimal (suc n)) rest ds.some ds.digits)))
    (one_front token.Integer (decimal (suc n)) rest refl ds.some is)

digits_words : (ds : List ℕ) → list_all is_ascii_digit ds ≡ true → list_all is_word ds ≡ true
digits_words [] h = refl
digits_words (d ∷ ds) h = go (is_ascii_digit d) refl h (digits_words ds)
  where
    word : is_ascii_digit d ≡ true → is_word d ≡ true
    word e = grind (arith, nat_tests)

    go : (t : Bool) → is_ascii_digit d ≡ t → (t && list_all is_ascii_digit ds) ≡ true → (list_all is_ascii_digit ds ≡ true → list_all is_word ds ≡ true) → (is_word d && list_all is_word ds) ≡ true
    go true e h ih = let w = word e in let v = ih h in rw (w, v) refl
    go false e h ih = absurd (false≢true h)

pub variable_front : (n : ℕ) (rest : List ℕ) → n < 2 ^ 64 → is_apart rest ≡ true → Front true (codes "_" ++ decimal n) (variable_tokens n) rest
variable_front n rest small apart =
    let ds = numeral n small in
    one_front token.Variable (codes "_" ++ decimal n) rest refl (omega arith) (variable_again (decimal n) rest (digits_words (decimal n) ds.digits) (apart-word rest apart))
