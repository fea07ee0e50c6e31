-- The tokens of a printed phrase spell a tree, and it means the phrase.
use Rattle.std.proofs.Common.{◌≡◌, ℕ, ◌+◌, ◌<◌, ◌≤◌, ◌==◌, ◌&&◌, ◌||◌, Bool, true, false, if◌then◌else◌, List, [], ◌∷◌, ◌++◌, length, length-append, drop, codes, bytes_eq, Option, Some, refl, sym, ap, subst, ◌∙◌, append_assoc, arith}
use Rattle.std.proofs.lemmas.Bool.{false≢true, or_left, or_parts, and_parts}
use Rattle.std.proofs.lemmas.Slice.Eq.{bytes_eq-Decides}
use Rattle.ap_lexer.specs.declared.kind.TokenKind.{TokenKind}
use Rattle.ap_lexer.specs.declared.kind.TokenKind.TheVariants as token
use Rattle.ap_lexer.specs.Lexeme.{Text}
use Rattle.ap_lexer.specs.Law.{Spelled}
use Rattle.ap_term.specs.Tree as term
use Rattle.ap_term.specs.Tree.{Trees, var, int, atom, node, none, more}
use Rattle.ap_term.specs.Vars.{add_vars, add_all_vars}
use Rattle.ap_term.specs.Blocks.{IsPrefix}
use Rattle.ap_term.specs.WellFormed.{callable}
use Rattle.ap_term.proofs.Lists.{prefix-refl, prefix-trans}
use Rattle.ap_writer.specs.Text as text
use Rattle.ap_writer.specs.Writable.{IsWritable}
use Rattle.ap_writer.proofs.Numbering.{add_vars-prefix}
use Rattle.ap_reader.specs.declared.word.Word.{Word}
use Rattle.ap_reader.specs.declared.word.Word.TheVariants as w
use Rattle.ap_reader.specs.Operator.{Row, table, priority_of, priority_in, same, is_prefix, left_max, right_max}
use Rattle.std.specs.List.{list_any}
use Rattle.std.proofs.Math.Bool.{and-false}
use Rattle.ap_writer.specs.Quoted.{is_symbols}
use Rattle.ap_cge.specs.Printed.{is_operator, is_enclosed}
use Rattle.ap_reader.specs.Grammar.{Group, Infix, spelled, priority, infix_rank}
use Rattle.ap_reader.specs.Step.{place}
use Rattle.ap_reader.specs.Word.{starts, stops, is_open}
use Rattle.ap_reader.specs.Written.{Written, Atom, Node, Paren, Writtens, Nil, Cons, leaf_at, leaf_by, seen_by, name_of, name_at, meaning}
use Rattle.ap_cge.specs.Again.{one_token, name_tokens}
use Rattle.ap_cge.specs.TermTokens.{Told, told_alone, told_atom, told_compound, told_cell, told_node, told, all_told, term_tokens}
use Rattle.ap_readback.specs.Unplaced.{next_is, first_kind, named_of, word_of, words_of, leaves_of, variables_of}
use Rattle.ap_readback.specs.Printable.{is_functor, has_functors, have_functors, written, all_written}
use Rattle.ap_readback.specs.Phrase.{Sign, Neck, Comma, Par, Cond, Phrase, Simple, InParens, Enclosed, Joined, sign_name, sign_touches, sign_tokens, sign_rank, left_room, right_room, rank, IsPhrase, phrase_tokens, phrase_vars, phrase_written}
use Rattle.ap_readback.proofs.Unplaced.{variables-append, leaves_there, get-drop, drop-one}
use Rattle.ap_readback.proofs.Variables.{AreSmall, names_of, small-vars}
use Rattle.ap_readback.proofs.Atoms.{functor-token}
use Rattle.ap_readback.proofs.Trees.{Stands, AreParsed, compound-own, cell-own}
use Rattle.ap_readback.proofs.Terms.{atom-stands, nil-anywhere, term-parsed, terms-parsed}

-- ---- goals stand anywhere

node-anywhere : (name : Text) (seen after : List Text) (d : Told) (ds : List Told) (x : Written) (xs : Writtens) → is_functor name ≡ true → AreParsed seen after (d ∷ ds) (Cons x xs)
    → (touches : Bool) (before : Option TokenKind) (at : ℕ) (rest : List Spelled) → Stands 0 seen ((told_node name (d ∷ ds)).own touches) (Node name (Cons x xs)) before at rest
node-anywhere name seen after d [] x xs f h = compound-own name seen after d [] x xs (functor-token name f) h
node-anywhere name seen after d (e ∷ c ∷ ds) x xs f h = compound-own name seen after d (e ∷ c ∷ ds) x xs (functor-token name f) h
node-anywhere name seen after d (e ∷ []) x Nil f h = absurd h.2
node-anywhere name seen after d (e ∷ []) x (Cons y (Cons z xs)) f h = absurd h.2.2
node-anywhere name seen after d (e ∷ []) x (Cons y Nil) f h = λ touches before at rest. go (bytes_eq name (codes ".")) refl touches before at rest
  where
    go : (b : Bool) → bytes_eq name (codes ".") ≡ b → (touches : Bool) (before : Option TokenKind) (at : ℕ) (rest : List Spelled)
        → Stands 0 seen ((if b then told_cell d e else told_compound name (d ∷ e ∷ [])).own touches) (Node name (Cons x (Cons y Nil))) before at rest
    go true p touches before at rest =
        subst (λ n. Stands 0 seen ((told_cell d e).own touches) (Node n (Cons x (Cons y Nil))) before at rest) (sym ((bytes_eq-Decides name (codes ".")).0 p)) (cell-own seen h.0 h.2.0 d e x y h.1 h.2.1 touches before at rest)
    go false p touches before at rest = compound-own name seen after d (e ∷ []) x (Cons y Nil) (functor-token name f) h touches before at rest

atom-anywhere : (name : Text) (seen : List Text) → (priority_of false name == 0 && priority_of true name == 0) ≡ true
    → (touches : Bool) (before : Option TokenKind) (at : ℕ) (rest : List Spelled) → next_is is_open (first_kind rest) ≡ false
    → Stands 0 seen ((told_atom name).own touches) (Atom name) before at rest
atom-anywhere name seen free touches before at rest no_open = go (bytes_eq name (codes "[]")) refl
  where
    go : (b : Bool) → bytes_eq name (codes "[]") ≡ b
        → Stands 0 seen ((if b then record { own = name_tokens (codes "[]"); tail = λ touches. one_token token.CloseList (codes "]") touches } else told_alone (name_tokens name)).own touches) (Atom name) before at rest
    go true e = subst (λ n. Stands 0 seen (name_tokens (codes "[]") touches) (Atom n) before at rest) (sym ((bytes_eq-Decides name (codes "[]")).0 e)) (nil-anywhere seen touches before at rest)
    go false e = atom-stands name touches seen before at rest e no_open (or_left _ (starts before && next_is stops (first_kind rest)) free)

no-operator-in : (prefix_one : Bool) (name : Text) (rows : List Row) → list_any (λ row. bytes_eq row.2 name) rows ≡ false → priority_in prefix_one rows name ≡ 0
no-operator-in b name [] h = refl
no-operator-in b name (row ∷ rows) h = go (bytes_eq row.2 name) (same (is_prefix row.1) b) h (no-operator-in b name rows)
  where
    go : (p q : Bool) → (p || list_any (λ r. bytes_eq r.2 name) rows) ≡ false → (list_any (λ r. bytes_eq r.2 name) rows ≡ false → priority_in b rows name ≡ 0) → (if q && p then row.0 else priority_in b rows name) ≡ 0
    go true q e ih = absurd (false≢true (sym e))
    go false true e ih = ih e
    go false false e ih = ih e

-- what is printed without parentheses is no operator
no-operator : (name : Text) → is_operator name ≡ false → (priority_of false name == 0 && priority_of true name == 0) ≡ true
unfolding is_operator priority_of
no-operator name h = let e : priority_in false table name ≡ 0 = no-operator-in false name table h in let f : priority_in true table name ≡ 0 = no-operator-in true name table h in rw (e, f) refl

module _ (names : List Text) (later : List ℕ) where
  goal-stands : (t : term.Tree) (found : List ℕ) → IsWritable names t → has_functors names t ≡ true → callable t ≡ true → is_enclosed names t ≡ false → AreSmall found → IsPrefix (add_vars t found) later
      → (touches : Bool) (before : Option TokenKind) (at : ℕ) (rest : List Spelled) → next_is is_open (first_kind rest) ≡ false → Stands 0 (names_of found) (term_tokens names t touches) (written names later t) before at rest
  goal-stands (var x) found h f c r s p touches before at rest no_open = absurd (false≢true c)
  goal-stands (int z) found h f c r s p touches before at rest no_open = absurd (false≢true c)
  goal-stands (atom a) found h f c r s p touches before at rest no_open = atom-anywhere (text.name_at names a) (names_of found) (no-operator (text.name_at names a) (or_parts (is_operator (text.name_at names a)) (is_symbols (text.name_at names a)) r).0) touches before at rest no_open
  goal-stands (node a none) found h f c r s p touches before at rest no_open = absurd (false≢true f)
  goal-stands (node a (more t ts)) found h f c r s p touches before at rest no_open =
      node-anywhere (text.name_at names a) (names_of found) (names_of (add_all_vars (more t ts) found)) (told names t) (all_told names ts) (written names later t) (all_written names later ts)
      (and_parts (is_functor (text.name_at names a)) (has_functors names t && have_functors names ts) f).0
      (terms-parsed names later (more t ts) found h.1 (and_parts (is_functor (text.name_at names a)) (has_functors names t && have_functors names ts) f).1 s p)
      touches before at rest

-- ---- signs

abbrev sign_word : Sign → ℕ → Word
sign_word Neck at = w.Operator at 1200 1200
sign_word Comma at = w.Comma at
sign_word Par at = w.Operator at 950 0
sign_word Cond at = w.Operator at 975 0

record SignStands (s : Sign) : Type 0 where
  kind : TokenKind
  bytes : Text
  tokens : sign_tokens s ≡ one_token kind bytes false
  closed : is_open kind ≡ false
  word : (last : TokenKind) (at : ℕ) (after : Option TokenKind) → starts (Some last) ≡ false → word_of kind at (Some last) bytes after false ≡ sign_word s at
  level : (at : ℕ) → infix_rank (sign_word s at) ≡ sign_rank s
  spot : (at : ℕ) → place (sign_word s at) ≡ at
  leaf : (seen : List Text) → leaf_by kind seen bytes ≡ Atom (sign_name s)
  seen : (names : List Text) → seen_by kind names bytes ≡ names

operator-word : (i p at : ℕ) (name : Text) (last : TokenKind) (after : Option TokenKind) → priority_of false name ≡ i → priority_of true name ≡ p
    → (i == 0 && p == 0) ≡ false → bytes_eq name (codes "-") ≡ false → starts (Some last) ≡ false → named_of at (Some last) name after false ≡ w.Operator at i p
operator-word i p at name last after e f some other quiet = rw (and-false (next_is is_open after), e, f, some, quiet, other) refl

sign-stands : (s : Sign) → SignStands s
unfolding priority_of
sign-stands Neck = record {
  kind = token.Symbol;
  bytes = codes ":-";
  tokens = refl;
  closed = refl;
  word = λ last at after quiet. operator-word 1200 1200 at (codes ":-") last after refl refl refl refl quiet;
  level = λ at. refl;
  spot = λ at. refl;
  leaf = λ seen. refl;
  seen = λ names. refl;
}
sign-stands Par = record {
  kind = token.Symbol;
  bytes = codes "&";
  tokens = refl;
  closed = refl;
  word = λ last at after quiet. operator-word 950 0 at (codes "&") last after refl refl refl refl quiet;
  level = λ at. refl;
  spot = λ at. refl;
  leaf = λ seen. refl;
  seen = λ names. refl;
}
sign-stands Cond = record {
  kind = token.Symbol;
  bytes = codes "=>";
  tokens = refl;
  closed = refl;
  word = λ last at after quiet. operator-word 975 0 at (codes "=>") last after refl refl refl refl quiet;
  level = λ at. refl;
  spot = λ at. refl;
  leaf = λ seen. refl;
  seen = λ names. refl;
}
sign-stands Comma = record {
  kind = token.Comma;
  bytes = codes ",";
  tokens = refl;
  closed = refl;
  word = λ last at after quiet. rw quiet refl;
  level = λ at. refl;
  spot = λ at. refl;
  leaf = λ seen. refl;
  seen = λ names. refl;
}

left-room : (s : Sign) → left_max (sign_rank s) ≡ left_room s
unfolding left_max
left-room Neck = refl
left-room Comma = refl
left-room Par = refl
left-room Cond = refl

right-room : (s : Sign) → right_max (sign_rank s) ≡ right_room s
unfolding right_max
right-room Neck = refl
right-room Comma = refl
right-room Par = refl
right-room Cond = refl

some-rank : (s : Sign) → 0 < sign_rank s
some-rank Neck = omega arith
some-rank Comma = omega arith
some-rank Par = omega arith
some-rank Cond = omega arith

-- ---- two phrases with a sign between

abbrev Anywhere : ℕ → List Text → (Bool → List Spelled) → Written → Type 0
Anywhere most seen tokens x = (touches : Bool) (before : Option TokenKind) (at : ℕ) (rest : List Spelled) → next_is is_open (first_kind rest) ≡ false → Stands most seen (tokens touches) x before at rest

joined-stands : (s : Sign) (m n : ℕ) (seen between : List Text) (f g : Bool → List Spelled) (x y : Written) → m ≤ left_room s → n ≤ right_room s
    → Anywhere m seen f x → ((touches : Bool) → variables_of seen (f touches) ≡ between) → Anywhere n between g y
    → Anywhere (sign_rank s) seen (λ touches. f (sign_touches s) ++ (sign_tokens s ++ g touches)) (Node (sign_name s) (Cons x (Cons y Nil)))
joined-stands s m n seen between f g x y low_l low_r h f_seen k touches before at rest no_open =
    let sign = sign-stands s in
    let left : List Spelled = f (sign_touches s) in
    let right : List Spelled = g touches in
    subst (λ l. Stands (sign_rank s) seen (left ++ (l ++ right)) (Node (sign_name s) (Cons x (Cons y Nil))) before at rest) (sym sign.tokens)
    (of sign.kind sign.bytes sign.closed sign.word sign.leaf sign.seen left right (f_seen (sign_touches s))
    (h (sign_touches s) before at ((one_token sign.kind sign.bytes false ++ right) ++ rest) sign.closed)
    (k touches (Some sign.kind) ((at + length left) + 1) rest no_open))
  where
    of : (kind : TokenKind) (bytes : Text) → is_open kind ≡ false
        → ((last : TokenKind) (at : ℕ) (after : Option TokenKind) → starts (Some last) ≡ false → word_of kind at (Some last) bytes after false ≡ sign_word s at)
        → ((names : List Text) → leaf_by kind names bytes ≡ Atom (sign_name s)) → ((names : List Text) → seen_by kind names bytes ≡ names)
        → (left right : List Spelled) → variables_of seen left ≡ between
        → Stands m seen left x before at ((one_token kind bytes false ++ right) ++ rest) → Stands n between right y (Some kind) ((at + length left) + 1) rest
        → Stands (sign_rank s) seen (left ++ (one_token kind bytes false ++ right)) (Node (sign_name s) (Cons x (Cons y Nil))) before at rest
    of kind bytes closed word leaf none_new left right seen_left l r =
        let sign : List Spelled = one_token kind bytes false in
        let spot : ℕ = at + length left in
        let o : Word = sign_word s spot in
        let is = sign-stands s in
        let some : 0 < infix_rank o = omega (arith, is.level spot, some-rank s) in
        let low : priority l.tree ≤ left_max (infix_rank o) = subst (λ q. priority l.tree ≤ left_max q) (sym (is.level spot)) (omega (arith, left-room s, l.small, low_l)) in
        let low_right : priority r.tree ≤ right_max (infix_rank o) = subst (λ q. priority r.tree ≤ right_max q) (sym (is.level spot)) (omega (arith, right-room s, r.small, low_r)) in
        let whole : (spot + 1) + length right ≡ at + length (left ++ (sign ++ right)) = omega (arith, length-append left (sign ++ right)) in
        record {
          tree = Infix l.tree o r.tree;
          rules = (some, low, low_right, l.rules, r.rules);
          small = omega (arith, is.level spot);
          last = r.last;
          quiet = r.quiet;
          spelling = ap (words_of before at) (append_assoc left (sign ++ right) rest)
              ∙ l.spelling
              ∙ ap (λ v. spelled l.tree ++ v ∷ words_of (Some kind) (spot + 1) (right ++ rest)) (word l.last spot (first_kind (right ++ rest)) l.quiet)
              ∙ ap (λ v. spelled l.tree ++ o ∷ v) r.spelling
              ∙ sym (append_assoc (spelled l.tree) (o ∷ spelled r.tree) (words_of (Some r.last) ((spot + 1) + length right) rest))
              ∙ ap (λ k. spelled (Infix l.tree o r.tree) ++ words_of (Some r.last) k rest) whole;
          means = λ all behind h.
              let both = leaves_there all at seen left (sign ++ right) behind h in
              let there : drop spot all ≡ Atom (sign_name s) ∷ (leaves_of between right ++ behind) =
              both.1
              ∙ ap (λ v. leaves_of v (sign ++ right) ++ behind) seen_left
              ∙ ap (λ v. v ∷ (leaves_of (seen_by kind between bytes) right ++ behind)) (leaf between)
              ∙ ap (λ v. Atom (sign_name s) ∷ (leaves_of v right ++ behind)) (none_new between) in
              let name : name_at all (place o) ≡ sign_name s = ap (name_at all) (is.spot spot) ∙ ap (λ v. name_of (leaf_at v)) (get-drop all spot _ _ there) in
              ap (λ v. Node v (Cons (meaning all l.tree) (Cons (meaning all r.tree) Nil))) name
              ∙ ap (λ v. Node (sign_name s) (Cons v (Cons (meaning all r.tree) Nil))) (l.means all _ both.0)
              ∙ ap (λ v. Node (sign_name s) (Cons x (Cons v Nil))) (r.means all behind (drop-one all spot _ _ there));
        }

enclosed-stands : (m : ℕ) (seen : List Text) (inner : List Spelled) (x : Written) (touches : Bool) (before : Option TokenKind) (at : ℕ) (rest : List Spelled) → m ≤ 1200
    → Stands m seen inner x (Some token.Open) (at + 1) (one_token token.Close (codes ")") touches ++ rest)
    → Stands 0 seen (one_token token.Open (codes "(") true ++ (inner ++ one_token token.Close (codes ")") touches)) (Paren x) before at rest
enclosed-stands m seen inner x touches before at rest few h =
    let close : List Spelled = one_token token.Close (codes ")") touches in
    let low : priority h.tree ≤ 1200 = omega (arith, h.small) in
    let more_words : List Word = words_of (Some token.Close) (((at + 1) + length inner) + 1) rest in
    let whole : ((at + 1) + length inner) + 1 ≡ at + length (one_token token.Open (codes "(") true ++ (inner ++ close)) = omega (arith, length-append inner close) in
    record {
      tree = Group h.tree;
      rules = (low, h.rules);
      small = omega arith;
      last = token.Close;
      quiet = refl;
      spelling = ap (λ l. w.Open ∷ words_of (Some token.Open) (at + 1) l) (append_assoc inner close rest)
          ∙ ap (λ l. w.Open ∷ l) (h.spelling ∙ sym (append_assoc (spelled h.tree) (w.Close ∷ []) more_words))
          ∙ ap (λ k. spelled (Group h.tree) ++ words_of (Some token.Close) k rest) whole;
      means = λ all behind g. ap Paren (h.means all _ (leaves_there all (at + 1) seen inner close behind (drop-one all at _ _ g)).0);
    }

few-rank : (s : Sign) → sign_rank s ≤ 1200
few-rank Neck = omega arith
few-rank Comma = omega arith
few-rank Par = omega arith
few-rank Cond = omega arith

pub rank-few : (p : Phrase) → rank p ≤ 1200
rank-few (Simple t) = omega arith
rank-few (InParens t) = omega arith
rank-few (Enclosed p) = omega arith
rank-few (Joined p s q) = few-rank s

sign-seen : (s : Sign) (seen : List Text) (tokens : List Spelled) → variables_of seen (sign_tokens s ++ tokens) ≡ variables_of seen tokens
sign-seen Neck seen tokens = refl
sign-seen Comma seen tokens = refl
sign-seen Par seen tokens = refl
sign-seen Cond seen tokens = refl

module _ (names : List Text) (later : List ℕ) where
  pub phrase_vars-prefix : (p : Phrase) (found : List ℕ) → IsPrefix found (phrase_vars names p found)
  phrase_vars-prefix (Simple t) found = add_vars-prefix t found
  phrase_vars-prefix (InParens t) found = add_vars-prefix t found
  phrase_vars-prefix (Enclosed p) found = phrase_vars-prefix p found
  phrase_vars-prefix (Joined p s q) found = prefix-trans found (phrase_vars names p found) (phrase_vars names q (phrase_vars names p found)) (phrase_vars-prefix p found) (phrase_vars-prefix q (phrase_vars names p found))

  small-phrase : (p : Phrase) (found : List ℕ) → IsPhrase names p → AreSmall found → AreSmall (phrase_vars names p found)
  small-phrase (Simple t) found h s = small-vars names t found h.0 s
  small-phrase (InParens t) found h s = small-vars names t found h.0 s
  small-phrase (Enclosed p) found h s = small-phrase p found h s
  small-phrase (Joined p o q) found h s = small-phrase q (phrase_vars names p found) h.3 (small-phrase p found h.2 s)

  term-seen : (t : term.Tree) (found : List ℕ) (touches : Bool) → IsWritable names t → has_functors names t ≡ true → AreSmall found → variables_of (names_of found) (term_tokens names t touches) ≡ names_of (add_vars t found)
  term-seen t found touches h f s = (term-parsed names (add_vars t found) t found h f s (prefix-refl (add_vars t found))).own_seen touches

  pub phrase-seen : (p : Phrase) (found : List ℕ) (touches : Bool) → IsPhrase names p → AreSmall found → variables_of (names_of found) (phrase_tokens names p touches) ≡ names_of (phrase_vars names p found)
  phrase-seen (Simple t) found touches h s = term-seen t found touches h.0 h.1 s
  phrase-seen (InParens t) found touches h s = variables-append (names_of found) (term_tokens names t true) (one_token token.Close (codes ")") touches) ∙ term-seen t found true h.0 h.1 s
  phrase-seen (Enclosed p) found touches h s = variables-append (names_of found) (phrase_tokens names p true) (one_token token.Close (codes ")") touches) ∙ phrase-seen p found true h s
  phrase-seen (Joined p o q) found touches h s =
      variables-append (names_of found) (phrase_tokens names p (sign_touches o)) (sign_tokens o ++ phrase_tokens names q touches)
      ∙ sign-seen o (variables_of (names_of found) (phrase_tokens names p (sign_touches o))) (phrase_tokens names q touches)
      ∙ ap (λ v. variables_of v (phrase_tokens names q touches)) (phrase-seen p found (sign_touches o) h.2 s)
      ∙ phrase-seen q (phrase_vars names p found) touches h.3 (small-phrase p found h.2 s)

  pub phrase-stands : (p : Phrase) (found : List ℕ) → IsPhrase names p → AreSmall found → IsPrefix (phrase_vars names p found) later
      → Anywhere (rank p) (names_of found) (phrase_tokens names p) (phrase_written names later p)
  phrase-stands (Simple t) found h s x = λ touches before at rest no_open. goal-stands names later t found h.0 h.1 h.2 h.3 s x touches before at rest no_open
  phrase-stands (InParens t) found h s x = λ touches before at rest no_open.
      enclosed-stands 0 (names_of found) (term_tokens names t true) (written names later t) touches before at rest (omega arith)
      ((term-parsed names later t found h.0 h.1 s x).own true (Some token.Open) (at + 1) (one_token token.Close (codes ")") touches ++ rest) refl refl)
  phrase-stands (Enclosed p) found h s x = λ touches before at rest no_open.
      enclosed-stands (rank p) (names_of found) (phrase_tokens names p true) (phrase_written names later p) touches before at rest (rank-few p)
      (phrase-stands p found h s x true (Some token.Open) (at + 1) (one_token token.Close (codes ")") touches ++ rest) refl)
  phrase-stands (Joined p o q) found h s x =
      joined-stands o (rank p) (rank q) (names_of found) (names_of (phrase_vars names p found)) (phrase_tokens names p) (phrase_tokens names q) (phrase_written names later p) (phrase_written names later q) h.0 h.1
      (phrase-stands p found h.2 s (prefix-trans (phrase_vars names p found) (phrase_vars names q (phrase_vars names p found)) later (phrase_vars-prefix q (phrase_vars names p found)) x))
      (λ touches. phrase-seen p found touches h.2 s)
      (phrase-stands q (phrase_vars names p found) h.3 (small-phrase p found h.2 s) x)
