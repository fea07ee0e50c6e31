-- Each printed term is read as the term, its variables by first occurrence.
use Rattle.std.proofs.Common.{◌≡◌, ℕ, suc, ℤ, pos, negsuc, ◌+◌, ◌<◌, ◌≤◌, ◌^◌, ◌==◌, ◌&&◌, ◌||◌, Bool, true, false, cond, if◌then◌else◌, List, [], ◌∷◌, codes, bytes_eq, Option, Some, None, refl, sym, ap, subst, ◌∙◌, le-leb, arith}
use Rattle.std.specs.Fmt.{decimal}
use Rattle.std.proofs.lemmas.Bool.{false≢true, and_parts, ltb-true}
use Rattle.std.proofs.lemmas.Slice.Eq.{bytes_eq-Decides}
use Rattle.std.proofs.Math.Bool.{or-true}
use Rattle.ap_lexer.specs.declared.kind.TokenKind.{TokenKind}
use Rattle.ap_lexer.specs.declared.kind.TokenKind.TheVariants as token
use Rattle.ap_lexer.specs.Lexeme.{Text, number}
use Rattle.ap_lexer.specs.Law.{Spelled}
use Rattle.ap_term.specs.Arithmetic.{fits}
use Rattle.ap_term.specs.Tree as term
use Rattle.ap_term.specs.Tree.{Trees, var, int, atom, node, none, more}
use Rattle.ap_term.specs.Vars.{add_vars, add_all_vars}
use Rattle.ap_term.specs.UpToNames.{place}
use Rattle.ap_term.specs.Blocks.{IsPrefix}
use Rattle.ap_term.proofs.Lists.{prefix-trans}
use Rattle.ap_writer.specs.Text as text
use Rattle.ap_writer.specs.Writable.{IsWritable, AreWritable}
use Rattle.ap_writer.proofs.Numbering.{add_all_vars-prefix}
use Rattle.ap_reader.specs.declared.word.Word.TheVariants as w
use Rattle.ap_reader.specs.Operator.{priority_of}
use Rattle.ap_reader.specs.Grammar.{Single, Positive, Negative, Empty}
use Rattle.ap_reader.specs.Word.{starts, stops, is_open, number_word}
use Rattle.ap_reader.specs.Written.{Written, Variable, Integer, Atom, Node, Writtens, Nil, Cons, cell, leaf_at, leaf_by}
use Rattle.ap_cge.specs.Again.{one_token, name_tokens, integer_tokens, variable_tokens}
use Rattle.ap_cge.specs.TermTokens.{Told, told_alone, told_compound, told_cell, told_node, told_atom, told, all_told}
use Rattle.ap_cge.proofs.Tokens.{numeral}
use Rattle.ap_readback.specs.Unplaced.{next_is, first_kind, named_of, word_of, words_of, variables_of}
use Rattle.ap_readback.specs.Printable.{is_functor, has_functors, have_functors, variable_name, written, all_written}
use Rattle.ap_readback.proofs.Unplaced.{get-drop}
use Rattle.ap_readback.proofs.Variables.{AreSmall, names_of, seen-variable, variable-leaf, small-vars}
use Rattle.ap_readback.proofs.Atoms.{atom-token, functor-token}
use Rattle.ap_readback.proofs.Trees.{Stands, IsParsed, AreParsed, row-end, parsed-alone, parsed-compound, parsed-cell}

-- ---- one token, and two

one-stands : (kind : TokenKind) (bytes : Text) (touches : Bool) (seen : List Text) (x : Written) (before : Option TokenKind) (at : ℕ) (after : List Spelled)
    → word_of kind at before bytes (first_kind after) touches ≡ w.Operand at → leaf_by kind seen bytes ≡ x → starts (Some kind) ≡ false → Stands 0 seen (one_token kind bytes touches) x before at after
one-stands kind bytes touches seen x before at after word leaf quiet = record {
  tree = Single at;
  rules = tt;
  small = omega arith;
  last = kind;
  quiet = quiet;
  spelling = ap (λ o. o ∷ words_of (Some kind) (at + 1) after) word;
  means = λ all behind h. ap leaf_at (get-drop all at _ behind h) ∙ leaf;
}

number-is : (n m : ℕ) → m ≡ n → n ≤ 2 ^ 63 → number_word m ≡ w.Number n
number-is n m e h = ap number_word e ∙ ap (λ b. cond b (w.Number n) w.Other) (le-leb n (2 ^ 63) h)

sign-is : (at : ℕ) (before : Option TokenKind) → starts before ≡ true → named_of at before (codes "-") (Some token.Integer) true ≡ w.Sign at 500
unfolding priority_of
sign-is at before h = rw h refl

integer-stands : (z : ℤ) (touches : Bool) (seen : List Text) (before : Option TokenKind) (at : ℕ) (after : List Spelled) → fits z ≡ true → starts before ≡ true → Stands 0 seen (integer_tokens z touches) (Integer z) before at after
integer-stands (pos n) touches seen before at after h begins =
    let small : n < 2 ^ 63 = ltb-true n (2 ^ 63) h in
    let value = (numeral n (omega arith)).value in
    record {
      tree = Positive n;
      rules = small;
      small = omega arith;
      last = token.Integer;
      quiet = refl;
      spelling = ap (λ o. o ∷ words_of (Some token.Integer) (at + 1) after) (number-is n (number (decimal n)) value (omega arith));
      means = λ all behind h. refl;
    }
integer-stands (negsuc n) touches seen before at after h begins =
    let small : n < 2 ^ 63 = ltb-true n (2 ^ 63) h in
    let value = (numeral (suc n) (omega arith)).value in
    let next : (at + 1) + 1 ≡ at + 2 = omega arith in
    record {
      tree = Negative at 500 (suc n);
      rules = omega arith;
      small = omega arith;
      last = token.Integer;
      quiet = refl;
      spelling = ap (λ o. o ∷ number_word (number (decimal (suc n))) ∷ words_of (Some token.Integer) ((at + 1) + 1) after) (sign-is at before begins)
          ∙ ap (λ o. w.Sign at 500 ∷ o ∷ words_of (Some token.Integer) ((at + 1) + 1) after) (number-is (suc n) (number (decimal (suc n))) value (omega arith))
          ∙ ap (λ k. w.Sign at 500 ∷ w.Number (suc n) ∷ words_of (Some token.Integer) k after) next;
      means = λ all behind h. refl;
    }

integer-seen : (z : ℤ) (touches : Bool) (seen : List Text) → variables_of seen (integer_tokens z touches) ≡ seen
integer-seen (pos n) touches seen = refl
integer-seen (negsuc n) touches seen = refl

-- ---- atoms

stops-open : (o : Option TokenKind) → next_is stops o ≡ true → next_is is_open o ≡ false
stops-open None h = refl
stops-open (Some token.Open) h = absurd (false≢true h)
stops-open (Some kind) h = refl

pub nil-anywhere : (seen : List Text) (touches : Bool) (before : Option TokenKind) (at : ℕ) (after : List Spelled) → Stands 0 seen (name_tokens (codes "[]") touches) (Atom (codes "[]")) before at after
nil-anywhere seen touches before at after = record {
  tree = Empty;
  rules = tt;
  small = omega arith;
  last = token.CloseList;
  quiet = refl;
  spelling = let next : (at + 1) + 1 ≡ at + 2 = omega arith in ap (λ k. w.OpenList ∷ w.CloseList ∷ words_of (Some token.CloseList) k after) next;
  means = λ all behind h. refl;
}

nil-parsed : (seen : List Text) → IsParsed seen seen (record { own = name_tokens (codes "[]"); tail = λ touches. one_token token.CloseList (codes "]") touches }) (Atom (codes "[]"))
nil-parsed seen = record {
  own = λ touches before at after begins ends. nil-anywhere seen touches before at after;
  own_seen = λ touches. refl;
  tail = λ touches after. row-end seen touches after;
  tail_seen = λ touches. refl;
}

pub atom-stands : (name : Text) (touches : Bool) (seen : List Text) (before : Option TokenKind) (at : ℕ) (after : List Spelled) → bytes_eq name (codes "[]") ≡ false → next_is is_open (first_kind after) ≡ false
    → (priority_of false name == 0 && priority_of true name == 0 || starts before && next_is stops (first_kind after)) ≡ true → Stands 0 seen (name_tokens name touches) (Atom name) before at after
atom-stands name touches seen before at after no_list free fits =
    let tok = atom-token name touches no_list in
    subst (λ l. Stands 0 seen l (Atom name) before at after) (sym tok.tokens) (one-stands tok.kind tok.text touches seen (Atom name) before at after (tok.operand at before (first_kind after) free fits) (tok.leaf seen) tok.quiet)

atom-seen : (name : Text) (touches : Bool) (seen : List Text) → bytes_eq name (codes "[]") ≡ false → variables_of seen (name_tokens name touches) ≡ seen
atom-seen name touches seen no_list = let tok = atom-token name touches no_list in ap (variables_of seen) tok.tokens ∙ tok.seen seen

atom-parsed : (name : Text) (seen : List Text) → IsParsed seen seen (told_atom name) (Atom name)
atom-parsed name seen = go (bytes_eq name (codes "[]")) refl
  where
    go : (b : Bool) → bytes_eq name (codes "[]") ≡ b
        → IsParsed seen seen (if b then record { own = name_tokens (codes "[]"); tail = λ touches. one_token token.CloseList (codes "]") touches } else told_alone (name_tokens name)) (Atom name)
    go true e = subst (λ n. IsParsed seen seen (record { own = name_tokens (codes "[]"); tail = λ touches. one_token token.CloseList (codes "]") touches }) (Atom n)) (sym ((bytes_eq-Decides name (codes "[]")).0 e)) (nil-parsed seen)
    go false e =
        parsed-alone seen seen (name_tokens name) (Atom name)
        (λ touches before at after begins ends.
        atom-stands name touches seen before at after e (stops-open (first_kind after) ends) (rw (begins, ends) (or-true (priority_of false name == 0 && priority_of true name == 0))))
        (λ touches. atom-seen name touches seen e)

-- ---- terms

module _ (names : List Text) (later : List ℕ) where
  abbrev Parsed : term.Tree → List ℕ → Type 0
  Parsed t found = IsParsed (names_of found) (names_of (add_vars t found)) (told names t) (written names later t)

  node-parsed : (name : Text) (seen after : List Text) (d : Told) (ds : List Told) (x : Written) (xs : Writtens) → is_functor name ≡ true → AreParsed seen after (d ∷ ds) (Cons x xs)
      → IsParsed seen after (told_node name (d ∷ ds)) (Node name (Cons x xs))
  node-parsed name seen after d [] x xs f h = parsed-compound name seen after d [] x xs (functor-token name f) h
  node-parsed name seen after d (e ∷ c ∷ ds) x xs f h = parsed-compound name seen after d (e ∷ c ∷ ds) x xs (functor-token name f) h
  node-parsed name seen after d (e ∷ []) x Nil f h = absurd h.2
  node-parsed name seen after d (e ∷ []) x (Cons y (Cons z xs)) f h = absurd h.2.2
  node-parsed name seen after d (e ∷ []) x (Cons y Nil) f h = go (bytes_eq name (codes ".")) refl
    where
      go : (b : Bool) → bytes_eq name (codes ".") ≡ b → IsParsed seen after (if b then told_cell d e else told_compound name (d ∷ e ∷ [])) (Node name (Cons x (Cons y Nil)))
      go true p =
          subst (λ n. IsParsed seen after (told_cell d e) (Node n (Cons x (Cons y Nil)))) (sym ((bytes_eq-Decides name (codes ".")).0 p))
          (subst (λ s. IsParsed seen s (told_cell d e) (cell x y)) h.2.2 (parsed-cell seen h.0 h.2.0 d e x y h.1 h.2.1))
      go false p = parsed-compound name seen after d (e ∷ []) x (Cons y Nil) (functor-token name f) h

  mutual
    pub term-parsed : (t : term.Tree) (found : List ℕ) → IsWritable names t → has_functors names t ≡ true → AreSmall found → IsPrefix (add_vars t found) later → Parsed t found
    term-parsed (var x) found h f s p =
        parsed-alone (names_of found) (names_of (add_vars (var x) found)) (variable_tokens x) (Variable (place later x))
        (λ touches before at after begins ends. one-stands token.Variable (variable_name x) touches (names_of found) (Variable (place later x)) before at after refl (variable-leaf found later x s h p) refl)
        (λ touches. seen-variable found x s h)
    term-parsed (int z) found h f s p =
        parsed-alone (names_of found) (names_of found) (integer_tokens z) (Integer z)
        (λ touches before at after begins ends. integer-stands z touches (names_of found) before at after h begins)
        (λ touches. integer-seen z touches (names_of found))
    term-parsed (atom a) found h f s p = atom-parsed (text.name_at names a) (names_of found)
    term-parsed (node a none) found h f s p = absurd (false≢true f)
    term-parsed (node a (more t ts)) found h f s p =
        node-parsed (text.name_at names a) (names_of found) (names_of (add_all_vars (more t ts) found)) (told names t) (all_told names ts) (written names later t) (all_written names later ts)
        (and_parts (is_functor (text.name_at names a)) (has_functors names t && have_functors names ts) f).0
        (terms-parsed (more t ts) found h.1 (and_parts (is_functor (text.name_at names a)) (has_functors names t && have_functors names ts) f).1 s p)

    pub terms-parsed : (ts : Trees) (found : List ℕ) → AreWritable names ts → have_functors names ts ≡ true → AreSmall found → IsPrefix (add_all_vars ts found) later
        → AreParsed (names_of found) (names_of (add_all_vars ts found)) (all_told names ts) (all_written names later ts)
    terms-parsed none found h f s p = refl
    terms-parsed (more t ts) found h f s p =
        let before = prefix-trans (add_vars t found) (add_all_vars ts (add_vars t found)) later (add_all_vars-prefix ts (add_vars t found)) p in (
          names_of (add_vars t found),
          term-parsed t found h.0 (and_parts (has_functors names t) (have_functors names ts) f).0 s before,
          terms-parsed ts (add_vars t found) h.1 (and_parts (has_functors names t) (have_functors names ts) f).1 (small-vars names t found h.0 s) p,
        )
