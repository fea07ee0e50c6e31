-- A printed term before a rest is read as its tokens.
use Rattle.std.proofs.Common.{◌≡◌, ℕ, ◌<◌, ◌==◌, Bool, true, false, if◌then◌else◌, List, [], ◌∷◌, ◌++◌, codes, bytes_eq, refl, sym, subst, ◌∙◌, append_assoc, arith}
use Rattle.std.specs.Prelude.{All}
use Rattle.std.specs.Fmt.{decimal, signed_decimal}
use Rattle.std.specs.Str.{IsUtf8}
use Rattle.std.proofs.lemmas.Bool.{false≢true}
use Rattle.std.proofs.lemmas.Slice.Eq.{bytes_eq-Decides}
use Rattle.std.proofs.lemmas.List.Elements.{All-tail}
use Rattle.std.proofs.lemmas.Str.{IsUtf8-append}
use Rattle.ap_lexer.specs.declared.kind.TokenKind.{TokenKind}
use Rattle.ap_lexer.specs.declared.kind.TokenKind.TheVariants as token
use Rattle.ap_lexer.specs.declared.kind.LexemeKind.TheVariants as kind
use Rattle.ap_lexer.specs.Lexeme.{lexeme}
use Rattle.ap_lexer.specs.Law.{Spelled}
use Rattle.ap_term.specs.Tree.{Tree, Trees, var, int, atom, node, none, more}
use Rattle.ap_writer.specs.Quoted.{is_word, is_symbols, name_text}
use Rattle.ap_writer.specs.Text.{Shown, by_itself, behind_commas, arguments, compound, cell, shown_node, shown_atom, shown, all_shown, name_at, text}
use Rattle.ap_writer.specs.Writable.{IsWritable, AreWritable}
use Rattle.ap_writer.proofs.Fronts.{stops}
use Rattle.ap_cge.specs.Again.{is_apart, one_token, name_tokens, integer_tokens, variable_tokens}
use Rattle.ap_cge.specs.TermTokens.{Told, told_alone, told_later, told_arguments, told_compound, told_cell, told_node, told_atom, told, all_told, term_tokens}
use Rattle.ap_cge.proofs.Lexing.{one_ascii}
use Rattle.ap_cge.proofs.Tokens.{is_inner, Front, one_front, joined_front, name_front, name_apart, integer_front, variable_front, open_list, close_list}

abbrev pub AreBytes : List ℕ → Type 0
AreBytes text = All (λ b. b < 256) text

pub bytes-behind : (a b : List ℕ) → AreBytes (a ++ b) → AreBytes b
bytes-behind [] b h = h
bytes-behind (x ∷ a) b h = bytes-behind a b (All-tail (λ c. c < 256) x (a ++ b) h)

-- before what passes a test, a text is read so
pub record Reads (test : List ℕ → Bool) (text : List ℕ) (tokens : Bool → List Spelled) : Type 0 where
  pub front : (rest : List ℕ) → test rest ≡ true → AreBytes (text ++ rest) → Front true text tokens rest

-- the same of a text that no token goes on with
pub record ReadsBehind (test : List ℕ → Bool) (text : List ℕ) (tokens : Bool → List Spelled) : Type 0 where
  pub reads : Reads test text tokens
  pub apart : (rest : List ℕ) → is_apart (text ++ rest) ≡ true

pub joined : (test : List ℕ → Bool) (a b : List ℕ) (f g : Bool → List Spelled) → Reads is_apart a f → ReadsBehind test b g → Reads test (a ++ b) (λ t. f true ++ g t)
joined test a b f g p q = record {
  front = λ rest h bytes.
      let all : AreBytes (a ++ (b ++ rest)) = subst AreBytes (append_assoc a b rest) bytes in
      let later : AreBytes (b ++ rest) = bytes-behind a (b ++ rest) all in
      joined_front true true a b f g rest (p.front (b ++ rest) (q.apart rest) all) (q.reads.front rest h later);
}

-- ---- signs

pub sign : (test : List ℕ → Bool) (row : TokenKind) (c : ℕ) → is_inner row ≡ true → ((rest : List ℕ) → lexeme (c ∷ rest) ≡ (kind.Token row, 1)) → Reads test (c ∷ []) (one_token row (c ∷ []))
sign test row c inner known = record { front = λ rest h bytes. one_front row (c ∷ []) rest inner (omega arith) (known rest) }

pub sign_then : (test : List ℕ → Bool) (row : TokenKind) (c : ℕ) (b : List ℕ) (g : Bool → List Spelled) → is_inner row ≡ true → ((rest : List ℕ) → lexeme (c ∷ rest) ≡ (kind.Token row, 1)) → Reads test b g
    → Reads test (c ∷ b) (λ t. one_token row (c ∷ []) true ++ g t)
sign_then test row c b g inner known q = record {
  front = λ rest h bytes.
      joined_front true true (c ∷ []) b (one_token row (c ∷ [])) g rest (one_front row (c ∷ []) (b ++ rest) inner (omega arith) (known (b ++ rest))) (q.front rest h (bytes-behind (c ∷ []) (b ++ rest) bytes));
}

pub comma : (rest : List ℕ) → lexeme (44 ∷ rest) ≡ (kind.Token token.Comma, 1)
unfolding lexeme
comma rest = refl

bar : (rest : List ℕ) → lexeme (124 ∷ rest) ≡ (kind.Token token.Bar, 1)
unfolding lexeme
bar rest = refl

pub open_args : (rest : List ℕ) → lexeme (40 ∷ rest) ≡ (kind.Token token.Open, 1)
unfolding lexeme
open_args rest = refl

pub close : (rest : List ℕ) → lexeme (41 ∷ rest) ≡ (kind.Token token.Close, 1)
unfolding lexeme
close rest = refl

pub behind_close : (test : List ℕ → Bool) → ReadsBehind test (codes ")") (one_token token.Close (codes ")"))
behind_close test = record { reads = sign test token.Close 41 refl close; apart = λ rest. refl }

behind_close_list : (test : List ℕ → Bool) → ReadsBehind test (codes "]") (one_token token.CloseList (codes "]"))
behind_close_list test = record { reads = sign test token.CloseList 93 refl close_list; apart = λ rest. refl }

-- ---- terms

record IsTold (s : Shown) (t : Told) : Type 0 where
  own : Reads is_apart s.own t.own
  tail : (test : List ℕ → Bool) → ReadsBehind test s.tail t.tail

abbrev AreTold : List Shown → List Told → Type 0
AreTold [] [] = Unit {0}
AreTold (s ∷ ss) (t ∷ ts) = IsTold s t × AreTold ss ts
AreTold [] (t ∷ ts) = ⊥
AreTold (s ∷ ss) [] = ⊥

told-alone : (own : List ℕ) (tokens : Bool → List Spelled) → Reads is_apart own tokens → IsTold (by_itself own) (told_alone tokens)
told-alone own tokens h = record {
  own = h;
  tail = λ test. record {
    reads = sign_then test token.Bar 124 (own ++ codes "]") (λ t. tokens true ++ one_token token.CloseList (codes "]") t) refl bar
        (joined test own (codes "]") tokens (one_token token.CloseList (codes "]")) h (behind_close_list test));
    apart = λ rest. refl;
  };
}

told-later : (test : List ℕ → Bool) (ss : List Shown) (ts : List Told) → AreTold ss ts → ReadsBehind test (behind_commas ss) (told_later ts)
told-later test [] [] h = behind_close test
told-later test [] (t ∷ ts) h = absurd h
told-later test (s ∷ ss) [] h = absurd h
told-later test (s ∷ ss) (t ∷ ts) h = record {
  reads = sign_then test token.Comma 44 (s.own ++ behind_commas ss) (λ b. t.own true ++ told_later ts b) refl comma
      (joined test s.own (behind_commas ss) t.own (told_later ts) h.0.own (told-later test ss ts h.1));
  apart = λ rest. refl;
}

told-arguments : (test : List ℕ → Bool) (ss : List Shown) (ts : List Told) → AreTold ss ts → Reads test (arguments ss) (told_arguments ts)
told-arguments test [] [] h = (behind_close test).reads
told-arguments test [] (t ∷ ts) h = absurd h
told-arguments test (s ∷ ss) [] h = absurd h
told-arguments test (s ∷ ss) (t ∷ ts) h = joined test s.own (behind_commas ss) t.own (told_later ts) h.0.own (told-later test ss ts h.1)

name-told : (name : List ℕ) → IsUtf8 name → Reads is_apart (name_text name) (name_tokens name)
name-told name u = record { front = λ rest h bytes. name_apart name rest u bytes h }

-- a compound or a list, whatever follows
compound-reads : (test : List ℕ → Bool) (name : List ℕ) (ss : List Shown) (ts : List Told) → IsUtf8 name → AreTold ss ts → Reads test (compound name ss).own (told_compound name ts).own
compound-reads test name ss ts u h =
    joined test (name_text name) (codes "(" ++ arguments ss) (name_tokens name) (λ b. one_token token.Open (codes "(") true ++ told_arguments ts b) (name-told name u)
    (record { reads = sign_then test token.Open 40 (arguments ss) (told_arguments ts) refl open_args (told-arguments test ss ts h); apart = λ rest. refl })

told-compound : (name : List ℕ) (ss : List Shown) (ts : List Told) → IsUtf8 name → AreTold ss ts → IsTold (compound name ss) (told_compound name ts)
told-compound name ss ts u h = told-alone _ _ (compound-reads is_apart name ss ts u h)

cell-reads : (test : List ℕ → Bool) (x y : Shown) (m n : Told) → IsTold x m → IsTold y n → Reads test (x.own ++ y.tail) (λ b. m.own true ++ n.tail b)
cell-reads test x y m n h k = joined test x.own y.tail m.own n.tail h.own (k.tail test)

told-cell : (x y : Shown) (m n : Told) → IsTold x m → IsTold y n → IsTold (cell x y) (told_cell m n)
told-cell x y m n h k = record {
  own = sign_then is_apart token.OpenList 91 (x.own ++ y.tail) (λ b. m.own true ++ n.tail b) refl open_list (cell-reads is_apart x y m n h k);
  tail = λ test. record { reads = sign_then test token.Comma 44 (x.own ++ y.tail) (λ b. m.own true ++ n.tail b) refl comma (cell-reads test x y m n h k); apart = λ rest. refl };
}

told-node : (name : List ℕ) (ss : List Shown) (ts : List Told) → IsUtf8 name → AreTold ss ts → IsTold (shown_node name ss) (told_node name ts)
told-node name [] [] u h = told-compound name [] [] u h
told-node name [] (t ∷ ts) u h = absurd h
told-node name (s ∷ ss) [] u h = absurd h
told-node name (s ∷ []) (t ∷ []) u h = told-compound name (s ∷ []) (t ∷ []) u h
told-node name (s ∷ []) (t ∷ v ∷ ts) u h = absurd h.1
told-node name (s ∷ r ∷ ss) (t ∷ []) u h = absurd h.1
told-node name (s ∷ r ∷ []) (t ∷ v ∷ []) u h = go (bytes_eq name (codes "."))
  where
    go : (b : Bool) → IsTold (if b then cell s r else compound name (s ∷ r ∷ [])) (if b then told_cell t v else told_compound name (t ∷ v ∷ []))
    go true = told-cell s r t v h.0 h.1.0
    go false = told-compound name (s ∷ r ∷ []) (t ∷ v ∷ []) u h
told-node name (s ∷ r ∷ []) (t ∷ v ∷ w ∷ ts) u h = absurd h.1.1
told-node name (s ∷ r ∷ q ∷ ss) (t ∷ v ∷ []) u h = absurd h.1.1
told-node name (s ∷ r ∷ q ∷ ss) (t ∷ v ∷ w ∷ ts) u h = told-compound name (s ∷ r ∷ q ∷ ss) (t ∷ v ∷ w ∷ ts) u h

node-reads : (test : List ℕ → Bool) (name : List ℕ) (ss : List Shown) (ts : List Told) → IsUtf8 name → AreTold ss ts → Reads test (shown_node name ss).own (told_node name ts).own
node-reads test name [] [] u h = compound-reads test name [] [] u h
node-reads test name [] (t ∷ ts) u h = absurd h
node-reads test name (s ∷ ss) [] u h = absurd h
node-reads test name (s ∷ []) (t ∷ []) u h = compound-reads test name (s ∷ []) (t ∷ []) u h
node-reads test name (s ∷ []) (t ∷ v ∷ ts) u h = absurd h.1
node-reads test name (s ∷ r ∷ ss) (t ∷ []) u h = absurd h.1
node-reads test name (s ∷ r ∷ []) (t ∷ v ∷ []) u h = go (bytes_eq name (codes "."))
  where
    go : (b : Bool) → Reads test (if b then cell s r else compound name (s ∷ r ∷ [])).own (if b then told_cell t v else told_compound name (t ∷ v ∷ [])).own
    go true = sign_then test token.OpenList 91 (s.own ++ r.tail) (λ b. t.own true ++ v.tail b) refl open_list (cell-reads test s r t v h.0 h.1.0)
    go false = compound-reads test name (s ∷ r ∷ []) (t ∷ v ∷ []) u h
node-reads test name (s ∷ r ∷ []) (t ∷ v ∷ w ∷ ts) u h = absurd h.1.1
node-reads test name (s ∷ r ∷ q ∷ ss) (t ∷ v ∷ []) u h = absurd h.1.1
node-reads test name (s ∷ r ∷ q ∷ ss) (t ∷ v ∷ w ∷ ts) u h = compound-reads test name (s ∷ r ∷ q ∷ ss) (t ∷ v ∷ w ∷ ts) u h

nil-utf8 : IsUtf8 (codes "[]")
nil-utf8 = IsUtf8-append (91 ∷ []) (93 ∷ []) (one_ascii 91 (omega arith)) (one_ascii 93 (omega arith))

told-atom : (name : List ℕ) → IsUtf8 name → IsTold (shown_atom name) (told_atom name)
told-atom name u = go (bytes_eq name (codes "[]"))
  where
    go : (b : Bool) → IsTold (if b then record { own = codes "[]"; tail = codes "]" } else by_itself (name_text name))
        (if b then record { own = name_tokens (codes "[]"); tail = λ touches. one_token token.CloseList (codes "]") touches } else told_alone (name_tokens name))
    go true = record { own = name-told (codes "[]") nil-utf8; tail = behind_close_list }
    go false = told-alone (name_text name) (name_tokens name) (name-told name u)

module _ (names : List (List ℕ)) (are_text : (a : ℕ) → IsUtf8 (name_at names a)) where
  mutual
    term-told : (t : Tree) → IsWritable names t → IsTold (shown names t) (told names t)
    term-told (var x) h = told-alone (codes "_" ++ decimal x) (variable_tokens x) (record { front = λ rest p bytes. variable_front x rest h p })
    term-told (int z) h = told-alone (signed_decimal z) (integer_tokens z) (record { front = λ rest p bytes. integer_front z rest h p })
    term-told (atom a) h = told-atom (name_at names a) (are_text a)
    term-told (node a ts) h = told-node (name_at names a) (all_shown names ts) (all_told names ts) (are_text a) (terms-told ts h.1)

    terms-told : (ts : Trees) → AreWritable names ts → AreTold (all_shown names ts) (all_told names ts)
    terms-told none h = tt
    terms-told (more t ts) h = (term-told t h.0, terms-told ts h.1)

  pub term_reads : (t : Tree) → IsWritable names t → Reads is_apart (text names t) (term_tokens names t)
  term_reads t h = (term-told t h).own

  pub compound_reads : (test : List ℕ → Bool) (a : ℕ) (ts : Trees) → IsWritable names (node a ts) → Reads test (text names (node a ts)) (term_tokens names (node a ts))
  compound_reads test a ts h = node-reads test (name_at names a) (all_shown names ts) (all_told names ts) (are_text a) (terms-told ts h.1)

  -- an atom that is no run of symbol characters, before what no name goes on with
  pub atom_reads : (test : List ℕ → Bool) (a : ℕ) → is_symbols (name_at names a) ≡ false → ((rest : List ℕ) → test rest ≡ true → (stops is_word rest ≡ true) × (stops (λ b. b == 39) rest ≡ true))
      → Reads test (text names (atom a)) (term_tokens names (atom a))
  atom_reads test a plain parts = go (bytes_eq (name_at names a) (codes "[]")) refl
    where
      name : List ℕ
      name = name_at names a

      named : Reads test (name_text name) (name_tokens name)
      named = record { front = λ rest h bytes. name_front name rest (are_text a) bytes (parts rest h).0 (λ symbols. absurd (false≢true (sym plain ∙ symbols))) (parts rest h).1 }

      go : (b : Bool) → bytes_eq name (codes "[]") ≡ b
          → Reads test (if b then record { own = codes "[]"; tail = codes "]" } else by_itself (name_text name)).own
          (if b then record { own = name_tokens (codes "[]"); tail = λ touches. one_token token.CloseList (codes "]") touches } else told_alone (name_tokens name)).own
      go true e = subst (λ n. Reads test (name_text n) (name_tokens n)) ((bytes_eq-Decides name (codes "[]")).0 e) named
      go false e = named
