-- The names of a term that was read are in the table, so no atom behind the table is one of the term's.
use Rattle.std.proofs.Common.{◌≡◌, ℕ, zero, suc, ◌+◌, ◌<◌, ◌≤◌, Bool, true, false, ◌||◌, cond, List, [], ◌∷◌, ◌++◌, length, slice_get, Some, None, refl, sym, ap, subst, ◌∙◌, append_assoc, arith}
use Rattle.std.specs.Prelude.{bytes_eq, codes, nat_eq, ◌==◌}
use Rattle.std.specs.List.{AllByRecursion}
use Rattle.std.proofs.lemmas.Bool.{false≢true}
use Rattle.std.proofs.lemmas.Slice.Eq.{bytes_eq-Decides}
use Rattle.ap_lexer.specs.declared.kind.TokenKind.{TokenKind}
use Rattle.ap_lexer.specs.declared.kind.TokenKind.TheVariants as token
use Rattle.ap_lexer.specs.Lexeme.{Text}
use Rattle.ap_lexer.specs.Token.{Placed}
use Rattle.ap_term.specs.declared.fixed.TheConstants.{NECK, QUERY}
use Rattle.ap_term.specs.AtomTable.{is_held, insert_name, insert_names}
use Rattle.ap_term.specs.Tree as term
use Rattle.ap_term.specs.Tree.{Trees, var, int, atom, node, none, more}
use Rattle.ap_term.proofs.Facts.{below-other}
use Rattle.ap_reader.specs.Grammar.{Tree, Single, Positive, Negative, Prefix, Infix, Group, Compound, Empty, Listed, Tailed, Items, Begin, Then}
use Rattle.ap_reader.specs.declared.pass.Step.{Step}
use Rattle.ap_reader.specs.declared.pass.Step.TheVariants as step
use Rattle.ap_reader.specs.Step.{place, postfix, posts}
use Rattle.ap_reader.specs.Written.{Written, Variable, Integer, Atom, Node, Paren, Writtens, Nil, Cons, seen_by, leaf_by, leaves, leaf_at, cell, meaning, arguments, listed}
use Rattle.ap_reader.specs.Build.{place_of, term_in, terms_in, leaf_names, step_names, names}
use Rattle.ap_reader.proofs.Tables.{extends-names}
use Rattle.ap_lifting.specs.declared.bodies.Condition.{Condition}
use Rattle.ap_lifting.specs.Body.{Body}
use Rattle.ap_lifting.specs.LiftingLaws.{is_named, Avoids, AvoidsIf}
use Rattle.ap_clause.specs.declared.form.Connective.{Connective}
use Rattle.ap_clause.specs.declared.form.Connective.TheVariants.{And, Or, Par, If, Other}
use Rattle.ap_clause.specs.declared.source.Source.{Source}
use Rattle.ap_clause.specs.declared.source.Source.TheVariants as source
use Rattle.ap_clause.specs.Clause.{Halves, connective_at, conditions_in, joined_by, body_in, clause_halves, query_halves, question, halves}

-- ---- names in a table

held_append : (a b : List Text) (f : Text) → is_held a f ≡ true → is_held (a ++ b) f ≡ true
held_append [] b f h = absurd (false≢true h)
held_append (x ∷ a) b f h = of (bytes_eq f x) h (held_append a b f)
  where
    of : (c : Bool) → (c || is_held a f) ≡ true → (is_held a f ≡ true → is_held (a ++ b) f ≡ true) → (c || is_held (a ++ b) f) ≡ true
    of true h on = refl
    of false h on = on h

held_last : (a : List Text) (f : Text) → is_held (a ++ f ∷ []) f ≡ true
held_last [] f = ap (λ b. b || false) ((bytes_eq-Decides f f).1 refl)
held_last (x ∷ a) f = of (bytes_eq f x) (held_last a f)
  where
    of : (c : Bool) → is_held (a ++ f ∷ []) f ≡ true → (c || is_held (a ++ f ∷ []) f) ≡ true
    of true h = refl
    of false h = h

held_put : (table : List Text) (f : Text) → is_held (insert_name table f) f ≡ true
held_put table f = of (is_held table f) refl
  where
    of : (b : Bool) → is_held table f ≡ b → is_held (cond b table (table ++ f ∷ [])) f ≡ true
    of true e = e
    of false e = held_last table f

held_grows : (table added : List Text) (f : Text) → is_held table f ≡ true → is_held (insert_names table added) f ≡ true
held_grows table added f h = let e = extends-names table added in subst (λ ns. is_held ns f ≡ true) (sym e.1) (held_append table e.0 f h)

-- the names that were put in are there
pub all_held : (table added : List Text) → AllByRecursion (λ f. is_held (insert_names table added) f ≡ true) added
all_held table [] = tt
all_held table (f ∷ added) = (held_grows (insert_name table f) added f (held_put table f), all_held (insert_name table f) added)

place_within : (ns : List Text) (f : Text) → is_held ns f ≡ true → place_of ns f < length ns
place_within [] f h = absurd (false≢true h)
place_within (x ∷ xs) f h = of (bytes_eq x f) refl (λ k. place_within xs f k)
  where
    rest : (b : Bool) → bytes_eq f x ≡ b → (b || is_held xs f) ≡ true → bytes_eq x f ≡ false → is_held xs f ≡ true
    rest true q r e = absurd (false≢true (sym e ∙ (bytes_eq-Decides x f).1 (sym ((bytes_eq-Decides f x).0 q))))
    rest false q r e = r

    of : (b : Bool) → bytes_eq x f ≡ b → (is_held xs f ≡ true → place_of xs f < length xs) → cond b 0 (place_of xs f + 1) < length (x ∷ xs)
    of true e on = omega arith
    of false e on = let k = on (rest (bytes_eq f x) refl h e) in omega (arith, k)

-- ---- names of a written term

abbrev mutual
  -- each name of a term has P
  pub HasOnly : (Text → Type 0) → Written → Type 0
  HasOnly P (Variable k) = Unit {0}
  HasOnly P (Integer z) = Unit {0}
  HasOnly P (Atom f) = P f
  HasOnly P (Node f xs) = P f × HaveOnly P xs
  HasOnly P (Paren x) = HasOnly P x

  pub HaveOnly : (Text → Type 0) → Writtens → Type 0
  HaveOnly P Nil = Unit {0}
  HaveOnly P (Cons x xs) = HasOnly P x × HaveOnly P xs

abbrev IsLeaf : Written → Type 0
IsLeaf (Node f xs) = ⊥
IsLeaf (Paren x) = ⊥
IsLeaf _ = Unit {0}

leaf_leaf : (k : TokenKind) (seen : List Text) (text : Text) → IsLeaf (leaf_by k seen text)
leaf_leaf token.Variable seen text = tt
leaf_leaf token.Name seen text = tt
leaf_leaf token.Symbol seen text = tt
leaf_leaf token.Quoted seen text = tt
leaf_leaf token.Cut seen text = tt
leaf_leaf token.Semicolon seen text = tt
leaf_leaf token.Comma seen text = tt
leaf_leaf _ seen text = tt

no_leaf : (at : ℕ) → IsLeaf (leaf_at (slice_get [] at))
no_leaf zero = tt
no_leaf (suc at) = tt

leaves_leaf : (seen : List Text) (ts : List Placed) (at : ℕ) → IsLeaf (leaf_at (slice_get (leaves seen ts) at))
leaves_leaf seen [] at = no_leaf at
leaves_leaf seen (t ∷ ts) zero = leaf_leaf t.kind seen t.text
leaves_leaf seen (t ∷ ts) (suc at) = leaves_leaf (seen_by t.kind seen t.text) ts at

names_append : (xs : List Written) (a b : List Step) → names xs (a ++ b) ≡ names xs a ++ names xs b
names_append xs [] b = refl
names_append xs (s ∷ a) b = ap (λ ns. step_names xs s ++ ns) (names_append xs a b) ∙ sym (append_assoc (step_names xs s) (names xs a) (names xs b))

all_split : (P : Text → Type 0) (xs ys : List Text) → AllByRecursion P (xs ++ ys) → AllByRecursion P xs × AllByRecursion P ys
all_split P [] ys h = (tt, h)
all_split P (x ∷ xs) ys h = let rest = all_split P xs ys h.1 in ((h.0, rest.0), rest.1)

module _ (P : Text → Type 0) (xs : List Written) (leaf : (at : ℕ) → IsLeaf (leaf_at (slice_get xs at))) where
  split : (a b : List Step) → AllByRecursion P (names xs (a ++ b)) → AllByRecursion P (names xs a) × AllByRecursion P (names xs b)
  split a b h = all_split P (names xs a) (names xs b) (subst (AllByRecursion P) (names_append xs a b) h)

  leaf_only : (x : Written) → IsLeaf x → AllByRecursion P (leaf_names x ++ []) → HasOnly P x
  leaf_only (Variable k) l h = tt
  leaf_only (Integer z) l h = tt
  leaf_only (Atom f) l h = h.0
  leaf_only (Node f ys) l h = absurd l
  leaf_only (Paren x) l h = absurd l

  mutual
    tree_only : (t : Tree) → AllByRecursion P (names xs (postfix t)) → HasOnly P (meaning xs t)
    tree_only (Single at) h = leaf_only (leaf_at (slice_get xs at)) (leaf at) h
    tree_only (Positive m) h = tt
    tree_only (Negative sign i m) h = tt
    tree_only (Prefix o t) h = let s = split (postfix t) (step.Prefix (place o) ∷ []) h in (s.1.0, (tree_only t s.0, tt))
    tree_only (Infix l o r) h =
        let s = split (postfix l) (postfix r ++ step.Infix (place o) ∷ []) h in
        let u = split (postfix r) (step.Infix (place o) ∷ []) s.1 in
        (u.1.0, (tree_only l s.0, (tree_only r u.0, tt)))
    tree_only (Group t) h = tree_only t (split (postfix t) (step.Group ∷ []) h).0
    tree_only (Compound at i items t) h =
        let s = split (posts items) (postfix t ++ step.Compound at ∷ []) h in
        let u = split (postfix t) (step.Compound at ∷ []) s.1 in
        (u.1.0, arguments_only items (Cons (meaning xs t) Nil) s.0 (tree_only t u.0, tt))
    tree_only Empty h = h.0
    tree_only (Listed items t) h =
        let s = split (posts items) (postfix t ++ step.List ∷ []) h in
        let u = split (postfix t) (step.List ∷ []) s.1 in
        listed_only items (cell (meaning xs t) (Atom (codes "[]"))) u.1.1.0 s.0 (u.1.1.0, (tree_only t u.0, (u.1.0, tt)))
    tree_only (Tailed items t r) h =
        let s = split (posts items) (postfix t ++ (postfix r ++ step.Tailed ∷ [])) h in
        let u = split (postfix t) (postfix r ++ step.Tailed ∷ []) s.1 in
        let v = split (postfix r) (step.Tailed ∷ []) u.1 in
        listed_only items (cell (meaning xs t) (meaning xs r)) v.1.0 s.0 (v.1.0, (tree_only t u.0, (tree_only r v.0, tt)))

    arguments_only : (items : Items) (rest : Writtens) → AllByRecursion P (names xs (posts items)) → HaveOnly P rest → HaveOnly P (arguments xs items rest)
    arguments_only Begin rest h k = k
    arguments_only (Then items t at) rest h k =
        let s = split (posts items) (postfix t ++ step.Item ∷ []) h in
        arguments_only items (Cons (meaning xs t) rest) s.0 (tree_only t (split (postfix t) (step.Item ∷ []) s.1).0, k)

    listed_only : (items : Items) (rest : Written) → P (codes ".") → AllByRecursion P (names xs (posts items)) → HasOnly P rest → HasOnly P (listed xs items rest)
    listed_only Begin rest d h k = k
    listed_only (Then items t at) rest d h k =
        let s = split (posts items) (postfix t ++ step.Item ∷ []) h in
        listed_only items (cell (meaning xs t) rest) d s.0 (d, (tree_only t (split (postfix t) (step.Item ∷ []) s.1).0, (k, tt)))

-- the names of what tokens spell are in the table that they were put into
pub spelled_held : (table : List Text) (front : List Placed) (t : Tree) → HasOnly (λ f. is_held (insert_names table (names (leaves [] front) (postfix t))) f ≡ true) (meaning (leaves [] front) t)
spelled_held table front t =
    let ns = names (leaves [] front) (postfix t) in
    tree_only (λ f. is_held (insert_names table ns) f ≡ true) (leaves [] front) (leaves_leaf [] front) t (all_held table ns)

-- ---- atoms of a term

abbrev mutual
  pub Lacks : ℕ → term.Tree → Type 0
  Lacks a (var x) = Unit {0}
  Lacks a (int z) = Unit {0}
  Lacks a (atom b) = nat_eq b a ≡ false
  Lacks a (node b ts) = (nat_eq b a ≡ false) × AllLack a ts

  pub AllLack : ℕ → Trees → Type 0
  AllLack a none = Unit {0}
  AllLack a (more t ts) = Lacks a t × AllLack a ts

module _ (ns : List Text) (a : ℕ) (behind : length ns ≤ a) where
  name_lacks : (f : Text) → is_held ns f ≡ true → nat_eq (place_of ns f) a ≡ false
  name_lacks f h = let k = place_within ns f h in below-other (place_of ns f) a (omega arith)

  mutual
    pub term_lacks : (x : Written) → HasOnly (λ f. is_held ns f ≡ true) x → Lacks a (term_in ns x)
    term_lacks (Variable k) h = tt
    term_lacks (Integer z) h = tt
    term_lacks (Atom f) h = name_lacks f h
    term_lacks (Node f xs) h = (name_lacks f h.0, terms_lack xs h.1)
    term_lacks (Paren x) h = term_lacks x h

    terms_lack : (xs : Writtens) → HaveOnly (λ f. is_held ns f ≡ true) xs → AllLack a (terms_in ns xs)
    terms_lack Nil h = tt
    terms_lack (Cons x xs) h = (term_lacks x h.0, terms_lack xs h.1)

named_lacks : (a : ℕ) (t : term.Tree) → Lacks a t → is_named a t ≡ false
named_lacks a (var x) h = refl
named_lacks a (int z) h = refl
named_lacks a (atom b) h = h
named_lacks a (node b ts) h = h.0

joined_lacks : (a : ℕ) (c : Connective) (t : term.Tree) (cs : List Condition) (x y : Body) → is_named a t ≡ false → Avoids a x → Avoids a y → Avoids a (joined_by c t cs x y)
joined_lacks a And t cs x y h j k = (j, k)
joined_lacks a Or t cs x y h j k = (j, k)
joined_lacks a Par t cs x y h j k = (j, k)
joined_lacks a If t cs x y h j k = k
joined_lacks a Other t cs x y h j k = h

body_lacks : (a : ℕ) (t : term.Tree) → Lacks a t → Avoids a (body_in t)
body_lacks a (var x) h = refl
body_lacks a (int z) h = refl
body_lacks a (atom b) h = h
body_lacks a (node f none) h = h.0
body_lacks a (node f (more x none)) h = h.0
body_lacks a (node f (more x (more y none))) h =
    joined_lacks a (connective_at f) (node f (more x (more y none))) (conditions_in x) (body_in x) (body_in y) h.0 (body_lacks a x h.1.0) (body_lacks a y h.1.1.0)
body_lacks a (node f (more x (more y (more z ts)))) h = h.0

clause_lacks : (a : ℕ) (t : term.Tree) → Lacks a t → (is_named a (clause_halves t).0 ≡ false) × AvoidsIf a (clause_halves t).1
clause_lacks a (var x) h = (refl, tt)
clause_lacks a (int z) h = (refl, tt)
clause_lacks a (atom b) h = (h, tt)
clause_lacks a (node f none) h = (h.0, tt)
clause_lacks a (node f (more x none)) h = (h.0, tt)
clause_lacks a (node f (more x (more y none))) h = of (f == NECK)
  where
    of : (b : Bool) → (is_named a (cond {A = Halves} b (x, Some (body_in y)) (node f (more x (more y none)), None)).0 ≡ false) × AvoidsIf a (cond {A = Halves} b (x, Some (body_in y)) (node f (more x (more y none)), None)).1
    of true = (named_lacks a x h.1.0, body_lacks a y h.1.1.0)
    of false = (h.0, tt)
clause_lacks a (node f (more x (more y (more z ts)))) h = (h.0, tt)

query_lacks : (a : ℕ) (t : term.Tree) → QUERY < a → Lacks a t → (is_named a (query_halves t).0 ≡ false) × AvoidsIf a (query_halves t).1
query_lacks a (var x) q h = (below-other QUERY a q, refl)
query_lacks a (int z) q h = (below-other QUERY a q, refl)
query_lacks a (atom b) q h = (below-other QUERY a q, h)
query_lacks a (node f none) q h = (below-other QUERY a q, h.0)
query_lacks a (node f (more x none)) q h = of (f == QUERY)
  where
    of : (b : Bool) → (is_named a (cond b (question x) (question (node f (more x none)))).0 ≡ false) × AvoidsIf a (cond b (question x) (question (node f (more x none)))).1
    of true = (below-other QUERY a q, body_lacks a x h.1.0)
    of false = (below-other QUERY a q, h.0)
query_lacks a (node f (more x (more y ts))) q h = (below-other QUERY a q, body_lacks a (node f (more x (more y ts))) h)

-- a clause by its term has no name that the term lacks
pub halves_lack : (s : Source) (a : ℕ) (t : term.Tree) → QUERY < a → Lacks a t → (is_named a (halves s t).0 ≡ false) × AvoidsIf a (halves s t).1
halves_lack source.Program a t q h = clause_lacks a t h
halves_lack source.Query a t q h = query_lacks a t q h
