-- A printed phrase is read as its tokens.
use Rattle.std.proofs.Common.{◌≡◌, ℕ, ◌+◌, ◌<◌, ◌==◌, ◌||◌, not, Bool, true, false, List, [], ◌∷◌, ◌++◌, length, drop, codes, Some, None, refl, sym, ap, subst, ◌∙◌, append_assoc, arith}
use Rattle.std.specs.Prelude.{nat_lt}
use Rattle.std.specs.Str.{IsUtf8}
use Rattle.std.proofs.lemmas.Bool.{false≢true, or_parts}
use Rattle.std.proofs.lemmas.Bool.Decides.{nat_tests}
use Rattle.ap_lexer.specs.declared.kind.TokenKind.TheVariants as token
use Rattle.ap_lexer.specs.declared.kind.LexemeKind.TheVariants as kind
use Rattle.ap_lexer.specs.declared.kind.LexemeKind.{LexemeKind}
use Rattle.ap_lexer.specs.Lexeme.{Text, Lexeme, lexeme, lexemes}
use Rattle.ap_lexer.specs.Piece.{piece, pieces_from}
use Rattle.ap_lexer.specs.Law.{Spelled, spelled, is_token, begins_token}
use Rattle.ap_lexer.proofs.Lexemes.{lexemes-cons}
use Rattle.ap_term.specs.Tree as term
use Rattle.ap_term.specs.Tree.{var, int, atom, node}
use Rattle.ap_term.specs.WellFormed.{callable}
use Rattle.ap_writer.specs.Quoted.{is_word, is_symbol, is_symbols}
use Rattle.ap_writer.specs.Text as text
use Rattle.ap_writer.specs.Writable.{IsWritable}
use Rattle.ap_writer.proofs.Fronts.{stops}
use Rattle.ap_cge.specs.Again.{is_apart, one_token}
use Rattle.ap_cge.specs.Printed.{is_operator, is_enclosed}
use Rattle.ap_cge.specs.TermTokens.{term_tokens}
use Rattle.ap_cge.proofs.Lexing.{symbols_again}
use Rattle.ap_cge.proofs.Tokens.{Front, one_front, joined_front, not_parts}
use Rattle.ap_cge.proofs.Terms.{AreBytes, bytes-behind, Reads, joined, sign_then, behind_close, comma, open_args, term_reads, compound_reads, atom_reads}
use Rattle.ap_readback.specs.Phrase.{Sign, Neck, Comma, Par, Cond, Phrase, Simple, InParens, Enclosed, Joined, sign_text, sign_touches, sign_tokens, IsPhrase, phrase_text, phrase_tokens}

-- ---- a blank

blank : (rest : List ℕ) → lexeme (32 ∷ rest) ≡ (kind.Layout, 1)
unfolding lexeme
blank rest = refl

blank-lexemes : (rest : List ℕ) → lexemes (32 ∷ rest) ≡ (kind.Layout, 1) ∷ lexemes rest
blank-lexemes rest =
    let F : Lexeme → List Lexeme = λ x. x ∷ lexemes (drop x.1 (32 ∷ rest)) in
    lexemes-cons (32 ∷ rest) (omega arith) (subst (λ (x : Lexeme). 0 < x.1) (sym (blank rest)) (omega arith)) ∙ ap F (blank rest)

blank-spelled : (rest : List ℕ) → spelled (32 ∷ rest) (lexemes (32 ∷ rest)) ≡ spelled rest (lexemes rest)
blank-spelled rest = ap (spelled (32 ∷ rest)) (blank-lexemes rest)

blank-begins : (rest : List ℕ) → begins_token (lexemes (32 ∷ rest)) ≡ false
blank-begins rest = ap begins_token (blank-lexemes rest)

blank-passes : (whole rest : List ℕ) (at from : ℕ) → pieces_from whole at (Some from) (lexemes (32 ∷ rest)) ≡ pieces_from whole (at + 1) (Some from) (lexemes rest)
blank-passes whole rest at from = ap (pieces_from whole at (Some from)) (blank-lexemes rest)

-- a blank before or behind a text
before-front : (v : Bool) (a : List ℕ) (f : Bool → List Spelled) (rest : List ℕ) → Front v a f rest → Front false (32 ∷ a) f rest
before-front v a f rest h = record {
  read = blank-spelled (a ++ rest) ∙ h.read;
  begins = blank-begins (a ++ rest);
  passes = λ whole at from. let place : (at + 1) + length a ≡ at + length (32 ∷ a) = omega arith in blank-passes whole (a ++ rest) at from ∙ h.passes whole (at + 1) from ∙ ap (λ n. pieces_from whole n (Some from) (lexemes rest)) place;
}

-- ---- signs

-- a sign's own token and the blank behind it
symbol-front : (name rest : List ℕ) → is_symbols name ≡ true → 0 < length name → Front true name (one_token token.Symbol name) (32 ∷ rest)
symbol-front name rest h some = one_front token.Symbol name (32 ∷ rest) refl some (symbols_again name (32 ∷ rest) h refl)

behind-sign : (a q : List ℕ) (f g : Bool → List Spelled) (rest : List ℕ) → Front true a f (32 ∷ (q ++ rest)) → Front true q g rest → Front true (a ++ 32 ∷ q) (λ t. f false ++ g t) rest
behind-sign a q f g rest h k = joined_front true false a (32 ∷ q) f g rest h (before-front true q g rest k)

sign-front : (s : Sign) (q : List ℕ) (g : Bool → List Spelled) (rest : List ℕ) → Front true q g rest → Front (sign_touches s) (sign_text s ++ q) (λ t. sign_tokens s ++ g t) rest
sign-front Neck q g rest h = before-front true (codes ":- " ++ q) (λ t. sign_tokens Neck ++ g t) rest (behind-sign (codes ":-") q (one_token token.Symbol (codes ":-")) g rest (symbol-front (codes ":-") (q ++ rest) refl (omega arith)) h)
sign-front Par q g rest h = before-front true (codes "& " ++ q) (λ t. sign_tokens Par ++ g t) rest (behind-sign (codes "&") q (one_token token.Symbol (codes "&")) g rest (symbol-front (codes "&") (q ++ rest) refl (omega arith)) h)
sign-front Cond q g rest h = before-front true (codes "=> " ++ q) (λ t. sign_tokens Cond ++ g t) rest (behind-sign (codes "=>") q (one_token token.Symbol (codes "=>")) g rest (symbol-front (codes "=>") (q ++ rest) refl (omega arith)) h)
sign-front Comma q g rest h = behind-sign (codes ",") q (one_token token.Comma (codes ",")) g rest (one_front token.Comma (codes ",") (32 ∷ (q ++ rest)) refl (omega arith) (comma (32 ∷ (q ++ rest)))) h

sign-apart : (s : Sign) (rest : List ℕ) → is_apart (sign_text s ++ rest) ≡ true
sign-apart Neck rest = refl
sign-apart Comma rest = refl
sign-apart Par rest = refl
sign-apart Cond rest = refl

-- ---- phrases

-- what no name goes on with, and a full stop
abbrev pub Ends : (Text → Bool) → Type 0
Ends test = (rest : Text) → test rest ≡ true → (stops is_word rest ≡ true) × (stops (λ b. b == 39) rest ≡ true)

module _ (names : List Text) (are_text : (a : ℕ) → IsUtf8 (text.name_at names a)) (test : Text → Bool) (ends : Ends test) where
  goal-reads : (t : term.Tree) → IsWritable names t → callable t ≡ true → is_enclosed names t ≡ false → Reads test (text.text names t) (term_tokens names t)
  goal-reads (var x) h c e = absurd (false≢true c)
  goal-reads (int z) h c e = absurd (false≢true c)
  goal-reads (atom a) h c e = atom_reads names are_text test a (or_parts (is_operator (text.name_at names a)) (is_symbols (text.name_at names a)) e).1 ends
  goal-reads (node a ts) h c e = compound_reads names are_text test a ts h

enclosed-reads : (test : Text → Bool) (a : Text) (f : Bool → List Spelled) → Reads is_apart a f → Reads test (codes "(" ++ (a ++ codes ")")) (λ t. one_token token.Open (codes "(") true ++ (f true ++ one_token token.Close (codes ")") t))
enclosed-reads test a f h = sign_then test token.Open 40 (a ++ codes ")") (λ t. f true ++ one_token token.Close (codes ")") t) refl open_args (joined test a (codes ")") f (one_token token.Close (codes ")")) h (behind_close test))

joined-reads : (test : Text → Bool) (s : Sign) (a b : Text) (f g : Bool → List Spelled) → Reads is_apart a f → Reads test b g → Reads test (a ++ (sign_text s ++ b)) (λ t. f (sign_touches s) ++ (sign_tokens s ++ g t))
joined-reads test s a b f g h k = record {
  front = λ rest e bytes.
      let all : AreBytes (a ++ ((sign_text s ++ b) ++ rest)) = subst AreBytes (append_assoc a (sign_text s ++ b) rest) bytes in
      let later : AreBytes (sign_text s ++ (b ++ rest)) = subst AreBytes (append_assoc (sign_text s) b rest) (bytes-behind a ((sign_text s ++ b) ++ rest) all) in
      let apart : is_apart ((sign_text s ++ b) ++ rest) ≡ true = ap is_apart (append_assoc (sign_text s) b rest) ∙ sign-apart s (b ++ rest) in
      joined_front true (sign_touches s) a (sign_text s ++ b) f (λ t. sign_tokens s ++ g t) rest (h.front ((sign_text s ++ b) ++ rest) apart all)
      (sign-front s b g rest (k.front rest e (bytes-behind (sign_text s) (b ++ rest) later)));
}

-- what stands apart ends each goal
apart-ends : Ends is_apart
apart-ends [] h = (refl, refl)
apart-ends (b ∷ rest) h = let two = not_parts (is_word b) (is_symbol b || b == 39) h in (two.0, (not_parts (is_symbol b) (b == 39) two.1).1)

module _ (names : List Text) (are_text : (a : ℕ) → IsUtf8 (text.name_at names a)) where
  pub phrase-reads : (test : Text → Bool) → Ends test → (p : Phrase) → IsPhrase names p → Reads test (phrase_text names p) (phrase_tokens names p)
  phrase-reads test ends (Simple t) h = goal-reads names are_text test ends t h.0 h.2 h.3
  phrase-reads test ends (InParens t) h = enclosed-reads test (text.text names t) (term_tokens names t) (term_reads names are_text t h.0)
  phrase-reads test ends (Enclosed p) h = enclosed-reads test (phrase_text names p) (phrase_tokens names p) (phrase-reads is_apart apart-ends p h)
  phrase-reads test ends (Joined p s q) h = joined-reads test s (phrase_text names p) (phrase_text names q) (phrase_tokens names p) (phrase_tokens names q) (phrase-reads is_apart apart-ends p h.2) (phrase-reads test ends q h.3)

-- ---- the full stop and the line feed

pub is_stop : Text → Bool
is_stop [] = false
is_stop (b ∷ rest) = b == 46

stop-ends : Ends is_stop
unfolding is_stop
stop-ends [] h = absurd (false≢true h)
stop-ends (b ∷ rest) h = (no_word b h, no_quote b h)
  where
    no_word : (c : ℕ) → (c == 46) ≡ true → not (is_word c) ≡ true
    no_word c e = grind (arith, nat_tests)

    no_quote : (c : ℕ) → (c == 46) ≡ true → not (c == 39) ≡ true
    no_quote c e = grind (arith, nat_tests)

full_stop : (rest : List ℕ) → lexeme (46 ∷ 10 ∷ rest) ≡ (kind.Token token.End, 1)
unfolding lexeme
full_stop rest = let long : nat_lt 1 (length (46 ∷ 10 ∷ rest)) ≡ true = grind (arith, nat_tests) in rw long refl

stop-lexemes : (rest : List ℕ) → lexemes (46 ∷ 10 ∷ rest) ≡ (kind.Token token.End, 1) ∷ lexemes (10 ∷ rest)
stop-lexemes rest =
    let F : Lexeme → List Lexeme = λ x. x ∷ lexemes (drop x.1 (46 ∷ 10 ∷ rest)) in
    lexemes-cons (46 ∷ 10 ∷ rest) (omega arith) (subst (λ (x : Lexeme). 0 < x.1) (sym (full_stop rest)) (omega arith)) ∙ ap F (full_stop rest)

line_feed : (rest : List ℕ) → lexeme (10 ∷ rest) ≡ (kind.Layout, 1)
unfolding lexeme
line_feed rest = refl

feed-lexemes : (rest : List ℕ) → lexemes (10 ∷ rest) ≡ (kind.Layout, 1) ∷ lexemes rest
feed-lexemes rest =
    let F : Lexeme → List Lexeme = λ x. x ∷ lexemes (drop x.1 (10 ∷ rest)) in
    lexemes-cons (10 ∷ rest) (omega arith) (subst (λ (x : Lexeme). 0 < x.1) (sym (line_feed rest)) (omega arith)) ∙ ap F (line_feed rest)

abbrev pub end_token : Spelled
end_token = record { kind = token.End; text = codes "."; touches = false }

-- the tokens of a phrase and its full stop
pub sentence-spelled : (a : Text) (f : Bool → List Spelled) (rest : Text) → Reads is_stop a f → AreBytes (a ++ (codes ".\n" ++ rest))
    → spelled (a ++ (codes ".\n" ++ rest)) (lexemes (a ++ (codes ".\n" ++ rest))) ≡ f true ++ end_token ∷ []
unfolding is_stop
sentence-spelled a f rest h bytes =
    let front = h.front (codes ".\n" ++ rest) refl bytes in
    front.read ∙ ap (λ b. f b ++ spelled (46 ∷ 10 ∷ rest) (lexemes (46 ∷ 10 ∷ rest))) (ap begins_token (stop-lexemes rest)) ∙ ap (λ l. f true ++ l) (ap (spelled (46 ∷ 10 ∷ rest)) (stop-lexemes rest))

pub stop-phrase : (names : List Text) → ((a : ℕ) → IsUtf8 (text.name_at names a)) → (p : Phrase) → IsPhrase names p → Reads is_stop (phrase_text names p) (phrase_tokens names p)
stop-phrase names are_text p h = phrase-reads names are_text is_stop stop-ends p h

-- ---- the piece of a sentence

-- a token that begins a piece belongs to it
begins-piece : (whole : Text) (at : ℕ) (xs : List Lexeme) → begins_token xs ≡ true → pieces_from whole at None xs ≡ pieces_from whole at (Some at) xs
begins-piece whole at [] h = absurd (false≢true h)
begins-piece whole at (x ∷ xs) h = go x.0 x.1 h
  where
    go : (k : LexemeKind) (n : ℕ) → is_token k ≡ true → pieces_from whole at None ((k, n) ∷ xs) ≡ pieces_from whole at (Some at) ((k, n) ∷ xs)
    go kind.Layout n h = absurd (false≢true h)
    go kind.Comment n h = absurd (false≢true h)
    go (kind.Bad ended) n h = absurd (false≢true h)
    go (kind.Token token.End) n h = refl
    go (kind.Token row) n h = refl

-- a phrase and its full stop are a piece, and the next one begins behind the line feed
pub sentence-piece : (whole : Text) (at : ℕ) (a : Text) (f : Bool → List Spelled) (rest : Text) → Reads is_stop a f → AreBytes (a ++ (codes ".\n" ++ rest))
    → pieces_from whole at None (lexemes (a ++ (codes ".\n" ++ rest))) ≡ piece whole at ((at + length a) + 1) true None ∷ pieces_from whole (((at + length a) + 1) + 1) None (lexemes rest)
unfolding is_stop
sentence-piece whole at a f rest h bytes =
    let front = h.front (codes ".\n" ++ rest) refl bytes in
    begins-piece whole at (lexemes (a ++ (codes ".\n" ++ rest))) front.begins
    ∙ front.passes whole at at
    ∙ ap (pieces_from whole (at + length a) (Some at)) (stop-lexemes rest)
    ∙ ap (λ l. piece whole at ((at + length a) + 1) true None ∷ pieces_from whole ((at + length a) + 1) None l) (feed-lexemes rest)
