-- A word reads as one term, and a term is one entry.
use Rattle.std.proofs.Common.{◌≡◌, inl, inr, ℕ, ◌+◌, ◌<◌, ◌≤◌, nat_le, Bool, true, false, ◌||◌, ◌==◌, IsTrue, List, [], ◌∷◌, ◌++◌, length, take, drop, get_or, Option, Some, None, option_map, option_and_then, Result, Ok, Err, IfOk, IfSome, MatchOption, length-append, refl, sym, ◌∙◌, ap, subst, arith, append_assoc, append-nil, codes}
use Rattle.std.proofs.lemmas.Bool.{false≢true, and_parts, eqb-true, leb-true}
use Rattle.std.proofs.lemmas.List.{drop_all}
use Rattle.std.proofs.lemmas.List.Elements.{All-head, All-tail}
use Rattle.ap_lexer.specs.Lexeme.{Text}
use Rattle.ap_lexer.specs.declared.cut.Piece.{Piece}
use Rattle.ap_lexer.specs.Piece.{pieces}
use Rattle.ap_lexer.specs.Token.{Placed, tokens}
use Rattle.ap_reader.specs.declared.written.TheConstants.{MAX_OPEN}
use Rattle.ap_reader.specs.declared.written.ReadTerm.{ReadTerm}
use Rattle.ap_reader.specs.declared.depth.TheConstants.{MAX_DEPTH}
use Rattle.ap_reader.specs.declared.error.ReadErr.{ReadErr}
use Rattle.ap_reader.specs.declared.error.ReadErr.TheVariants as err
use Rattle.ap_reader.specs.Bracket.{most_open}
use Rattle.ap_reader.specs.Grammar as grammar
use Rattle.ap_reader.specs.Word.{words}
use Rattle.ap_reader.specs.Written.{leaves}
use Rattle.ap_reader.specs.Depth.{depth}
use Rattle.ap_reader.specs.Build.{names, term_in}
use Rattle.ap_reader.specs.Step.{postfix}
use Rattle.ap_reader.proofs.Tables.{extends-names}
use Rattle.ap_reader.specs.Reading.{Spells, EndsAs, term_of, ReadAs}
use Rattle.ap_reader.proofs.Stack.{last_same}
use Rattle.ap_reader.proofs.Complete.{one}
use Rattle.ap_reader.proofs.Read.{one_term}
use Rattle.ap_term.specs.AtomTable.{capacity}
use Rattle.ap_term.specs.declared.terms.Term.{Term}
use Rattle.ap_term.specs.Tree.{Tree, Trees, var, int, atom, node, none, more, count_trees}
use Rattle.ap_term.specs.TermView.{tree_of, trees_of}
use Rattle.ap_term.specs.Goals.{Program}
use Rattle.ap_term.specs.WellFormed.{callable, numbered, IsClause, IsProgram}
use Rattle.ap_term.proofs.TermLists.{trees_of-drop_more}
use Rattle.ap_patterns.specs.declared.tables.Predicate.{Predicate}
use Rattle.ap_patterns.specs.declared.entries.Mark.{Mark}
use Rattle.ap_patterns.specs.declared.entries.Entry.{Entry}
use Rattle.ap_patterns.specs.declared.entries.Entries as calls
use Rattle.ap_patterns.specs.declared.entries.Entries.TheVariants as entries
use Rattle.ap_patterns.specs.Places.{arguments}
use Rattle.ap_patterns.specs.Table.{predicate_of}
use Rattle.ap_patterns.specs.Entry.{IsMarked}
use Rattle.ap_top.specs.Patterns.{table_with, ReadsTokens, ReadsPiece, ReadsText, ReadsWord, mark_of, marks_of, is_of, has_clause, IsEntryOf, IsMarkedBy, AreEntries}
use Rattle.ap_certify.proofs.Closed.{arity_of}

-- ---- tokens

module _ (ts : List Placed) where
  front_one : (a b : List Placed) → EndsAs ts a → EndsAs ts b → a ≡ b
  front_one a b h k = (last_same a b h.0 k.0 (sym h.2 ∙ k.2)).0

  tree_one : (f g : List Placed) (a b : grammar.Tree) → Spells ts f a → Spells ts g b → a ≡ b
  tree_one f g a b h k = one a b h.rules k.rules (h.spelling ∙ ap words (front_one f g h.ends k.ends) ∙ sym k.spelling)

  -- tokens read as one term
  pub tokens-one : (table : List Text) (t u : Tree) → ReadsTokens ts table t → ReadsTokens ts table u → t ≡ u
  tokens-one table t u h k =
      let front = front_one h.front k.front h.spells.ends k.spells.ends in
      let tree = tree_one h.front k.front h.written k.written h.spells k.spells in
      h.term ∙ ap (λ f. term_in (table_with table f h.written) (term_of f h.written)) front ∙ ap (λ w. term_in (table_with table k.front w) (term_of k.front w)) tree ∙ sym k.term

  pub read-tokens : (old new : List Text) (r : ReadTerm) → ReadAs ts old new (Ok r) → ReadsTokens ts old (tree_of r.term)
  read-tokens old new r h = record {
    brackets = h.0;
    front = h.1.0;
    written = h.1.1;
    spells = h.1.2;
    shallow = h.1.3.0;
    room = subst (λ n. length n ≤ capacity) h.1.3.1 h.1.3.2;
    term = h.1.3.3 ∙ ap (λ n. term_in n (term_of h.1.0 h.1.1)) h.1.3.1;
  }

  too_deep : (n m : ℕ) → n < m → m ≤ n → ⊥
  too_deep n m h k = omega arith

  pub unread-tokens : (old new : List Text) (e : ReadErr) → (e ≡ err.NoMemory → ⊥) → ReadAs ts old new (Err e) → (t : Tree) → ReadsTokens ts old t → ⊥
  unread-tokens old new (err.NotAClause line) other h t k = h.2 k.front k.written k.spells
  unread-tokens old new (err.TooDeep line) other h t k =
      elim h.2 [
        | inl over ↦ too_deep MAX_OPEN (most_open 0 ts) over k.brackets
        | inr q ↦ too_deep MAX_DEPTH (depth (term_of k.front k.written)) (subst (λ w. MAX_DEPTH < depth w) (one_term ts q.1.0 k.front q.1.1 k.written q.1.2 k.spells) q.1.3) k.shallow
      ]
  unread-tokens old new (err.TooManyAtoms line) other h t k =
      let front = front_one h.1.0 k.front h.1.2.ends k.spells.ends in
      let tree = tree_one h.1.0 k.front h.1.1 k.written h.1.2 k.spells in
      let full : capacity < length (table_with old h.1.0 h.1.1) = h.1.3.1 in
      let same = ap (λ f. table_with old f h.1.1) front ∙ ap (table_with old k.front) tree in
      too_deep capacity (length (table_with old k.front k.written)) (subst (λ n. capacity < length n) same full) k.room
  unread-tokens old new err.NoMemory other h t k = other refl

  pub kept-table : (old new : List Text) (e : ReadErr) → ReadAs ts old new (Err e) → new ≡ old
  kept-table old new (err.NotAClause line) h = h.3
  kept-table old new (err.TooDeep line) h = h.1
  kept-table old new (err.TooManyAtoms line) h = h.1.3.3
  kept-table old new err.NoMemory h = h

  front_taken : (a b : List Text) → take (length a) (a ++ b) ≡ a
  front_taken [] b = refl
  front_taken (x ∷ a) b = ap (λ z. x ∷ z) (front_taken a b)

  pub grown-length : (old new : List Text) (r : ReadTerm) → ReadAs ts old new (Ok r) → length old ≤ length new
  grown-length old new r h =
      let more = extends-names old (names (leaves [] h.1.0) (postfix h.1.1)) in
      let size : length new ≡ length old + length more.0 = ap length (h.1.3.1 ∙ more.1) ∙ length-append old more.0 in
      omega (arith, size)

  pub cut-back : (old new : List Text) (r : ReadTerm) → ReadAs ts old new (Ok r) → take (length old) new ≡ old
  cut-back old new r h =
      let more = extends-names old (names (leaves [] h.1.0) (postfix h.1.1)) in
      ap (take (length old)) (h.1.3.1 ∙ more.1) ∙ front_taken old more.0

-- ---- pieces and texts

pub text-one : (text : Text) (piece other : Piece) → pieces text ≡ piece ∷ [] → pieces text ≡ other ∷ [] → other ≡ piece
text-one text piece other e f = let same : other ∷ [] ≡ piece ∷ [] = sym f ∙ e in cc

-- ---- marks

one_mark : (t : Tree) (ts : Trees) (m : Mark) → mark_of t ≡ Some m → marks_of (more t ts) ≡ option_map (λ ms. m ∷ ms) (marks_of ts)
one_mark t ts m e = ap (option_and_then (λ n. option_map (λ ms. n ∷ ms) (marks_of ts))) e

behind : (found : List Mark) (m : Mark) (o : Option (List Mark)) → option_map (λ ms. (found ++ m ∷ []) ++ ms) o ≡ option_map (λ ms. found ++ ms) (option_map (λ ms. m ∷ ms) o)
behind found m None = refl
behind found m (Some ms) = ap Some (append_assoc found (m ∷ []) ms)

pub marks-turn : (args : List Term) (i : ℕ) (t : Term) (m : Mark) (found new : List Mark) (whole : Option (List Mark)) → i < length args → t ≡ get_or args i t → mark_of (tree_of t) ≡ Some m → new ≡ found ++ m ∷ []
    → option_map (λ ms. found ++ ms) (marks_of (trees_of (drop i args))) ≡ whole → option_map (λ ms. new ++ ms) (marks_of (trees_of (drop (i + 1) args))) ≡ whole
marks-turn args i t m found new whole l e is n h =
    ap (λ z. option_map (λ ms. z ++ ms) (marks_of (trees_of (drop (i + 1) args)))) n ∙ behind found m (marks_of (trees_of (drop (i + 1) args)))
    ∙ ap (option_map (λ ms. found ++ ms)) (sym (ap marks_of (trees_of-drop_more args i t l e) ∙ one_mark (tree_of t) (trees_of (drop (i + 1) args)) m is)) ∙ h

pub marks-none : (args : List Term) (i : ℕ) (t : Term) (found : List Mark) (whole : Option (List Mark)) → i < length args → t ≡ get_or args i t → mark_of (tree_of t) ≡ None
    → option_map (λ ms. found ++ ms) (marks_of (trees_of (drop i args))) ≡ whole → None ≡ whole
marks-none args i t found whole l e is h =
    ap (option_map (λ ms. found ++ ms)) (sym (ap marks_of (trees_of-drop_more args i t l e) ∙ ap (option_and_then (λ n. option_map (λ ms. n ∷ ms) (marks_of (trees_of (drop (i + 1) args))))) is)) ∙ h

pub marks-done : (args : List Term) (i : ℕ) (found : List Mark) (whole : Option (List Mark)) → length args ≤ i → option_map (λ ms. found ++ ms) (marks_of (trees_of (drop i args))) ≡ whole → Some found ≡ whole
marks-done args i found whole l h = ap Some (sym (append-nil found)) ∙ ap (λ ts. option_map (λ ms. found ++ ms) (marks_of (trees_of ts))) (sym (drop_all i args l)) ∙ h

-- ---- entries

count_marks : (ts : Trees) (ms : List Mark) → marks_of ts ≡ Some ms → length ms ≡ count_trees ts
count_marks none ms e = let same : [] ≡ ms = cc in sym (ap length same)
count_marks (more t ts) ms e = go (mark_of t) (marks_of ts) (λ ns f. count_marks ts ns f) e
  where
    go : (m : Option Mark) (o : Option (List Mark)) → ((ns : List Mark) → o ≡ Some ns → length ns ≡ count_trees ts) → option_and_then (λ n. option_map (λ ns. n ∷ ns) o) m ≡ Some ms → length ms ≡ count_trees ts + 1
    go None o ih e = cc
    go (Some n) None ih e = cc
    go (Some n) (Some ns) ih e =
        let same : n ∷ ns ≡ ms = cc in
        let rest : length ns ≡ count_trees ts = ih ns refl in
        let size : length (n ∷ ns) ≡ length ms = ap length same in
        omega (arith, rest, size)

few : (p : Predicate) (head : Tree) → IsTrue (callable head) → IsTrue (is_of p (predicate_of head)) → p.arity ≤ 255
few p (var x) h k = absurd (false≢true h)
few p (int z) h k = absurd (false≢true h)
few p (atom a) h k =
    let r = and_parts (p.name == a) (p.arity == 0) k in
    let e : p.arity ≡ 0 = eqb-true p.arity 0 r.1 in omega (arith, e)
few p (node a ts) h k =
    let r = and_parts (p.name == a) (p.arity == count_trees ts) k in
    let e : p.arity ≡ count_trees ts = eqb-true p.arity (count_trees ts) r.1 in
    let l : count_trees ts ≤ 255 = leb-true (count_trees ts) 255 (and_parts (nat_le 1 (count_trees ts)) (nat_le (count_trees ts) 255) h).1 in
    omega (arith, e, l)

some_few : (program : Program) (p : Predicate) → IsProgram program → IsTrue (has_clause program p) → p.arity ≤ 255
some_few [] p w h = absurd (false≢true h)
some_few (c ∷ cs) p w h = go (is_of p (predicate_of c.head)) refl (λ k. some_few cs p (All-tail IsClause c cs w) k) h
  where
    go : (b : Bool) → is_of p (predicate_of c.head) ≡ b → (IsTrue (has_clause cs p) → p.arity ≤ 255) → (b || has_clause cs p) ≡ true → p.arity ≤ 255
    go true e ih k = few p c.head (and_parts (callable c.head) (numbered c.vars c.head) (All-head IsClause c cs w).head).0 e
    go false e ih k = ih k

pub are-marked : (pattern : Option Text) (program : Program) (table : List Text) (E : calls.Entries) → IsProgram program → AreEntries pattern program table E → IsMarked E
are-marked None program table E w h = subst IsMarked (sym h) tt
are-marked (Some word) program table entries.All w h = absurd h.2
are-marked (Some word) program table entries.Query w h = absurd h.2
are-marked (Some word) program table (entries.One e) w h =
    let is = h.2 in
    let size : length e.marks.items ≡ count_trees (arguments h.0) = count_marks (arguments h.0) e.marks.items is.marks in
    let arity : e.predicate.arity ≡ count_trees (arguments h.0) = arity_of h.0 e.predicate is.predicate in
    let most : e.predicate.arity ≤ 255 = some_few program e.predicate w is.clause in
    (size ∙ sym arity, omega (arith, size, arity, most))

word_one : (word : Text) (table : List Text) (t u : Tree) → ReadsWord word table t → ReadsWord word table u → t ≡ u
word_one word table t u x y =
    let same : y.0 ≡ x.0 = text-one (word ++ codes " .") x.0 y.0 x.1 y.1 in
    tokens-one (tokens (word ++ codes " .") x.0) table t u x.2.1 (subst (λ p. ReadsTokens (tokens (word ++ codes " .") p) table u) same y.2.1)

not_marked : (program : Program) (t : Tree) → ((e : Entry) → IsEntryOf program t e → ⊥) → (E : calls.Entries) → IsMarkedBy program t E → ⊥
not_marked program t absent entries.All h = h
not_marked program t absent entries.Query h = h
not_marked program t absent (entries.One e) h = absent e h

-- ---- what is answered

pub ok-marked : {F : Type 0} (pattern : Option Text) (program : Program) (table : List Text) → IsProgram program → (r : Result (Option calls.Entries) F)
    → IfOk r (λ o. MatchOption o ((E : calls.Entries) → AreEntries pattern program table E → ⊥) (λ E. AreEntries pattern program table E)) → IfOk r (λ o. IfSome o (λ E. IsMarked E))
ok-marked pattern program table w (Ok None) h = tt
ok-marked pattern program table w (Ok (Some E)) h = are-marked pattern program table E w h
ok-marked pattern program table w (Err e) h = tt

pub reads_map : {F : Type 0} (P Q : Tree → Type 0) → ((t : Tree) → P t → Q t) → ((t : Tree) → Q t → P t) → (r : Result (Option Term) F) → IfOk r (λ o. MatchOption o ((t : Tree) → P t → ⊥) (λ t. P (tree_of t)))
    → IfOk r (λ o. MatchOption o ((t : Tree) → Q t → ⊥) (λ t. Q (tree_of t)))
reads_map P Q f g (Ok None) h = λ t q. h t (g t q)
reads_map P Q f g (Ok (Some t)) h = f (tree_of t) h
reads_map P Q f g (Err e) h = tt

only_piece : (ps : List Piece) (d : Piece) → 1 ≤ length ps → length ps < 2 → ps ≡ get_or ps 0 d ∷ []
only_piece [] d l m = absurd (omega arith)
only_piece (p ∷ []) d l m = refl
only_piece (p ∷ q ∷ ps) d l m = absurd (omega arith)

pub one-piece : (text : Text) (ps : List Piece) (d : Piece) → ps ≡ pieces text → 1 ≤ length ps → length ps < 2 → pieces text ≡ get_or ps 0 d ∷ []
one-piece text ps d e l m = sym e ∙ only_piece ps d l m

-- a word that is no term is no entry
pub no-term : (word : Text) (program : Program) (table : List Text) → ((t : Tree) → ReadsWord word table t → ⊥) → (E : calls.Entries) → AreEntries (Some word) program table E → ⊥
no-term word program table absent E h = absent h.0 h.1

-- a word that is a term is what the term is
pub as-term : {F : Type 0} (word : Text) (program : Program) (table : List Text) (t : Tree) → ReadsWord word table t → (r : Result (Option calls.Entries) F)
    → IfOk r (λ o. MatchOption o ((e : Entry) → IsEntryOf program t e → ⊥) (λ E. IsMarkedBy program t E))
    → IfOk r (λ o. MatchOption o ((E : calls.Entries) → AreEntries (Some word) program table E → ⊥) (λ E. AreEntries (Some word) program table E))
as-term word program table t reads (Ok None) h = λ E k. not_marked program t h E (subst (λ u. IsMarkedBy program u E) (word_one word table k.0 t k.1 reads) k.2)
as-term word program table t reads (Ok (Some E)) h = (t, reads, h)
as-term word program table t reads (Err e) h = tt

pub text-read : {F : Type 0} (text : Text) (ps : List Piece) (d : Piece) (table : List Text) → ps ≡ pieces text → 1 ≤ length ps → length ps < 2 → (r : Result (Option Term) F)
    → IfOk r (λ o. MatchOption o ((t : Tree) → ReadsPiece text (get_or ps 0 d) table t → ⊥) (λ t. ReadsPiece text (get_or ps 0 d) table (tree_of t)))
    → IfOk r (λ o. MatchOption o ((t : Tree) → ReadsText text table t → ⊥) (λ t. ReadsText text table (tree_of t)))
text-read text ps d table e l m r h =
    let p = get_or ps 0 d in
    let alone = one-piece text ps d e l m in
    reads_map (ReadsPiece text p table) (ReadsText text table) (λ t k. (p, alone, k)) (λ t k. subst (λ q. ReadsPiece text q table t) (text-one text p k.0 alone k.1) k.2) r h

pub at-none : {X : Type 0} (A : Type 0) (B : X → Type 0) (o : Option X) → o ≡ None → MatchOption o A B → A
at-none A B o e h = subst (λ p. MatchOption p A B) e h

pub at-some : {X : Type 0} (A : Type 0) (B : X → Type 0) (o : Option X) (x : X) → o ≡ Some x → MatchOption o A B → B x
at-some A B o x e h = subst (λ p. MatchOption p A B) e h

pub ruleset rules_of_marks = (marks-turn, marks-none, marks-done)
