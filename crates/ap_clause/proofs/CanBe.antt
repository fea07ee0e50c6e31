-- A term that fits, isn't too wide and has no name from outside can be a clause.
use Rattle.std.proofs.Common.{◌≡◌, ℕ, ◌+◌, ◌<◌, Bool, true, false, ◌&&◌, cond, List, [], ◌∷◌, ◌++◌, length, drop, Option, Some, None, slice_get, refl, sym, ap, ◌∙◌, arith, add-one}
use Rattle.std.specs.Prelude.{bytes_eq, codes, nat_le, ◌==◌, not}
use Rattle.std.specs.List.{list_all}
use Rattle.std.proofs.lemmas.Bool.{false≢true, and_parts, and_from, eqb-true, eq-eqb, le-leb}
use Rattle.std.proofs.lemmas.List.{take-append-drop}
use Rattle.std.proofs.lemmas.Slice.Eq.{bytes_eq-Decides}
use Rattle.std.proofs.lemmas.Option.{same_Some}
use Rattle.ap_term.proofs.Facts.{same_bool}
use Rattle.ap_lexer.specs.Lexeme.{Text}
use Rattle.ap_term.specs.declared.fixed.TheConstants.{NECK, QUERY, COMMA, SEMICOLON, PARALLEL, CONDITION, COUNT}
use Rattle.ap_term.specs.AtomTable.{fixed_names, IsAtomTable}
use Rattle.ap_term.specs.Tree.{Tree, atom, none, more, count_trees}
use Rattle.ap_term.specs.WellFormed.{in_range, numbered, numbered_all, callable}
use Rattle.ap_term.proofs.NameTable.{table-long}
use Rattle.ap_reader.specs.Written.{Written, Variable, Integer, Atom, Node, Paren, Writtens, Nil, Cons}
use Rattle.ap_reader.specs.Build.{place_of, term_in, terms_in}
use Rattle.ap_reader.proofs.Tables.{placed}
use Rattle.ap_lifting.specs.declared.bodies.Condition.{Condition}
use Rattle.ap_lifting.specs.Body.{Body, well_formed, numbered_condition}
use Rattle.ap_lifting.specs.Rule.{well_formed_if}
use Rattle.ap_clause.specs.declared.form.Connective.{Connective}
use Rattle.ap_clause.specs.declared.form.Connective.TheVariants.{And, Or, Par, If, Other}
use Rattle.ap_clause.specs.declared.source.Source.{Source}
use Rattle.ap_clause.specs.declared.source.Source.TheVariants as source
use Rattle.ap_clause.specs.Form.{connective, is_variable, are_both_checks, are_checks, is_condition, is_conditional, is_body_named, is_body, is_head_named, is_head, is_clause, is_query}
use Rattle.ap_clause.specs.Clause.{connective_at, variable_in, conditions_in, joined_by, body_in, Halves, clause_halves, query_halves}
use Rattle.ap_clause.specs.Outside.{outside_head, outside_body, or_else, first_outside}
use Rattle.ap_clause.specs.Limit.{is_narrow, are_narrow}
use Rattle.ap_clause.specs.Reads.{fits}
use Rattle.ap_clause.specs.Verdict.{CanBeRule}
use Rattle.ap_clause.proofs.Proper.{IsProper, variable_in_range, numbered-proper}

-- ---- tests

-- ---- names of a table

pub fixed_at : (ns : List Text) (k : ℕ) (name : Text) → IsAtomTable ns → ((others : List Text) → slice_get (fixed_names ++ others) k ≡ Some name) → slice_get ns k ≡ Some name
fixed_at ns k name h e = ap (λ l. slice_get l k) (sym (take-append-drop COUNT ns) ∙ ap (λ l. l ++ drop COUNT ns) h.fixed) ∙ e (drop COUNT ns)

place_found : (ns : List Text) (f : Text) → place_of ns f < length ns → slice_get ns (place_of ns f) ≡ Some f
place_found [] f h = absurd (omega arith)
place_found (x ∷ xs) f h = of (bytes_eq x f) refl (place_found xs f) h
  where
    of : (b : Bool) → bytes_eq x f ≡ b → (place_of xs f < length xs → slice_get xs (place_of xs f) ≡ Some f) → cond b 0 (place_of xs f + 1) < length (x ∷ xs) → slice_get (x ∷ xs) (cond b 0 (place_of xs f + 1)) ≡ Some f
    of true e g k = ap Some ((bytes_eq-Decides x f).0 e)
    of false e g k = ap (slice_get (x ∷ xs)) (add-one (place_of xs f)) ∙ g (omega arith)

-- a name is a fixed one just where its place is that one's
name-is : (ns : List Text) (f name : Text) (k : ℕ) → IsAtomTable ns → k < COUNT → slice_get ns k ≡ Some name → bytes_eq f name ≡ (place_of ns f == k)
name-is ns f name k h below at = same_bool (bytes_eq f name) (place_of ns f == k) there back
  where
    there : bytes_eq f name ≡ true → (place_of ns f == k) ≡ true
    there e = eq-eqb (place_of ns f) k (ap (place_of ns) ((bytes_eq-Decides f name).0 e) ∙ sym (placed ns k name h at []))

    back : (place_of ns f == k) ≡ true → bytes_eq f name ≡ true
    back e =
        let same = eqb-true (place_of ns f) k e in
        (bytes_eq-Decides f name).1 (same_Some f name (sym (place_found ns f (omega (arith, same, below, table-long ns h))) ∙ ap (slice_get ns) same ∙ at))

pub connective-is : (ns : List Text) (f : Text) → IsAtomTable ns → connective f ≡ connective_at (place_of ns f)
connective-is ns f h =
    let a = place_of ns f in
    let c = name-is ns f (codes ",") COMMA h (omega arith) (fixed_at ns COMMA (codes ",") h (λ _. refl)) in
    let s = name-is ns f (codes ";") SEMICOLON h (omega arith) (fixed_at ns SEMICOLON (codes ";") h (λ _. refl)) in
    let p = name-is ns f (codes "&") PARALLEL h (omega arith) (fixed_at ns PARALLEL (codes "&") h (λ _. refl)) in
    let i = name-is ns f (codes "=>") CONDITION h (omega arith) (fixed_at ns CONDITION (codes "=>") h (λ _. refl)) in
    ap (λ b. cond b And (cond (bytes_eq f (codes ";")) Or (cond (bytes_eq f (codes "&")) Par (cond (bytes_eq f (codes "=>")) If Other)))) c
    ∙ ap (λ b. cond (a == COMMA) And (cond b Or (cond (bytes_eq f (codes "&")) Par (cond (bytes_eq f (codes "=>")) If Other)))) s
    ∙ ap (λ b. cond (a == COMMA) And (cond (a == SEMICOLON) Or (cond b Par (cond (bytes_eq f (codes "=>")) If Other)))) p
    ∙ ap (λ b. cond (a == COMMA) And (cond (a == SEMICOLON) Or (cond (a == PARALLEL) Par (cond b If Other)))) i

neck-is : (ns : List Text) (f : Text) → IsAtomTable ns → bytes_eq f (codes ":-") ≡ (place_of ns f == NECK)
neck-is ns f h = name-is ns f (codes ":-") NECK h (omega arith) (fixed_at ns NECK (codes ":-") h (λ _. refl))

query-is : (ns : List Text) (f : Text) → IsAtomTable ns → bytes_eq f (codes "?-") ≡ (place_of ns f == QUERY)
query-is ns f h = name-is ns f (codes "?-") QUERY h (omega arith) (fixed_at ns QUERY (codes "?-") h (λ _. refl))

-- ---- a compound can be called

few_test : (m : ℕ) → nat_le (m + 1) 255 ≡ true → (nat_le 1 (m + 1) && nat_le (m + 1) 255) ≡ true
few_test m h = and_from (nat_le 1 (m + 1)) (nat_le (m + 1) 255) (le-leb 1 (m + 1) (omega arith)) h

module _ (ns : List Text) (table : IsAtomTable ns) (n : ℕ) where
  node_formed : (f : Text) (x : Written) (xs : Writtens) → IsProper n (Node f (Cons x xs)) → is_narrow (term_in ns (Node f (Cons x xs))) ≡ true → (callable (term_in ns (Node f (Cons x xs))) && numbered n (term_in ns (Node f (Cons x xs)))) ≡ true
  node_formed f x xs h narrow =
      let m = count_trees (terms_in ns xs) in
      and_from (nat_le 1 (m + 1) && nat_le (m + 1) 255) (numbered n (term_in ns x) && numbered_all n (terms_in ns xs))
      (few_test m (and_parts (nat_le (m + 1) 255) (is_narrow (term_in ns x) && are_narrow (terms_in ns xs)) narrow).0)
      (numbered-proper ns n (Node f (Cons x xs)) h)

  head_formed : (x : Written) → IsProper n x → is_head x ≡ true → is_narrow (term_in ns x) ≡ true → (callable (term_in ns x) && numbered n (term_in ns x)) ≡ true
  head_formed (Variable k) h e narrow = absurd (false≢true e)
  head_formed (Integer z) h e narrow = absurd (false≢true e)
  head_formed (Atom f) h e narrow = refl
  head_formed (Node f Nil) h e narrow = absurd h
  head_formed (Node f (Cons x xs)) h e narrow = node_formed f x xs h narrow
  head_formed (Paren x) h e narrow = head_formed x h e narrow

  -- ---- conditions

  variable_formed : (x : Written) → IsProper n x → is_variable x ≡ true → in_range n (variable_in (term_in ns x)) ≡ true
  variable_formed (Variable k) h e = variable_in_range n k h
  variable_formed (Integer z) h e = absurd (false≢true e)
  variable_formed (Atom f) h e = absurd (false≢true e)
  variable_formed (Node f xs) h e = absurd (false≢true e)
  variable_formed (Paren x) h e = variable_formed x h e

  all_append : (cs ds : List Condition) → list_all (numbered_condition n) cs ≡ true → list_all (numbered_condition n) ds ≡ true → list_all (numbered_condition n) (cs ++ ds) ≡ true
  all_append [] ds h k = k
  all_append (c ∷ cs) ds h k =
      let first = and_parts (numbered_condition n c) (list_all (numbered_condition n) cs) h in
      and_from (numbered_condition n c) (list_all (numbered_condition n) (cs ++ ds)) first.0 (all_append cs ds first.1 k)

  -- the connective of a name that is no comma asks for a pair
  asks_pair : (b c d conj pair : Bool) → are_both_checks (cond b Or (cond c Par (cond d If Other))) conj pair ≡ pair
  asks_pair true c d conj pair = refl
  asks_pair false true d conj pair = refl
  asks_pair false false true conj pair = refl
  asks_pair false false false conj pair = refl

  pair_formed : (a : ℕ) (conj pair : Bool) (cs ds : List Condition) → are_both_checks (connective_at a) conj pair ≡ true
      → (conj ≡ true → list_all (numbered_condition n) cs ≡ true) → (pair ≡ true → list_all (numbered_condition n) ds ≡ true)
      → list_all (numbered_condition n) (cond (a == COMMA) cs ds) ≡ true
  pair_formed a conj pair cs ds e f g = of (a == COMMA) e
    where
      of : (b : Bool) → are_both_checks (cond b And (cond (a == SEMICOLON) Or (cond (a == PARALLEL) Par (cond (a == CONDITION) If Other)))) conj pair ≡ true → list_all (numbered_condition n) (cond b cs ds) ≡ true
      of true h = f h
      of false h = g (sym (asks_pair (a == SEMICOLON) (a == PARALLEL) (a == CONDITION) conj pair) ∙ h)

  checks_formed : (x : Written) → IsProper n x → are_checks x ≡ true → list_all (numbered_condition n) (conditions_in (term_in ns x)) ≡ true
  checks_formed (Variable k) h e = absurd (false≢true e)
  checks_formed (Integer z) h e = absurd (false≢true e)
  checks_formed (Atom f) h e = absurd (false≢true e)
  checks_formed (Node f Nil) h e = absurd h
  checks_formed (Node f (Cons a Nil)) h e = and_from (in_range n (variable_in (term_in ns a))) true (variable_formed a h.0 (and_parts (bytes_eq f (codes "ground")) (is_variable a) e).1) refl
  checks_formed (Node f (Cons a (Cons b Nil))) h e =
      pair_formed (place_of ns f) (are_checks a && are_checks b) (bytes_eq f (codes "indep") && (is_variable a && is_variable b)) _ _
      (sym (ap (λ c. are_both_checks c (are_checks a && are_checks b) (bytes_eq f (codes "indep") && (is_variable a && is_variable b))) (connective-is ns f table)) ∙ e)
      (λ k. let parts = and_parts (are_checks a) (are_checks b) k in all_append (conditions_in (term_in ns a)) (conditions_in (term_in ns b)) (checks_formed a h.0 parts.0) (checks_formed b h.1.0 parts.1))
      (λ k.
      let parts = and_parts (is_variable a) (is_variable b) (and_parts (bytes_eq f (codes "indep")) (is_variable a && is_variable b) k).1 in
      and_from (in_range n (variable_in (term_in ns a)) && in_range n (variable_in (term_in ns b))) true
      (and_from (in_range n (variable_in (term_in ns a))) (in_range n (variable_in (term_in ns b))) (variable_formed a h.0 parts.0) (variable_formed b h.1.0 parts.1)) refl)
  checks_formed (Node f (Cons a (Cons b (Cons c xs)))) h e = absurd (false≢true e)
  checks_formed (Paren x) h e = checks_formed x h e

  condition_formed : (x : Written) → IsProper n x → is_condition x ≡ true → list_all (numbered_condition n) (conditions_in (term_in ns x)) ≡ true
  condition_formed (Variable k) h e = absurd (false≢true e)
  condition_formed (Integer z) h e = absurd (false≢true e)
  condition_formed (Atom f) h e = refl
  condition_formed (Node f xs) h e = checks_formed (Node f xs) h e
  condition_formed (Paren x) h e = condition_formed x h e

  -- ---- bodies

  or_none : (a b : Option ℕ) → or_else a b ≡ None → (a ≡ None) × (b ≡ None)
  or_none None b h = (refl, h)
  or_none (Some x) b h = absurd (clash h)
    where
      clash : Some x ≡ None → ⊥
      clash k = cc

  joined_formed : (c : Connective) (t : Tree) (cs : List Condition) (x y : Body) (ba bb ia ib ca : Bool)
      → is_body_named c (ba && bb) ((not ia && ba) && (not ib && bb)) (ca && bb) ≡ true → outside_body (joined_by c t cs x y) ≡ None
      → (ba ≡ true → outside_body x ≡ None → well_formed n x ≡ true) → (bb ≡ true → outside_body y ≡ None → well_formed n y ≡ true)
      → (ca ≡ true → list_all (numbered_condition n) cs ≡ true) → (callable t && numbered n t) ≡ true → well_formed n (joined_by c t cs x y) ≡ true
  joined_formed And t cs x y ba bb ia ib ca e out f g k goal =
      let parts = and_parts ba bb e in
      let outs = or_none (outside_body x) (outside_body y) out in
      and_from (well_formed n x) (well_formed n y) (f parts.0 outs.0) (g parts.1 outs.1)
  joined_formed Or t cs x y ba bb ia ib ca e out f g k goal =
      let parts = and_parts ba bb e in
      let outs = or_none (outside_body x) (outside_body y) out in
      and_from (well_formed n x) (well_formed n y) (f parts.0 outs.0) (g parts.1 outs.1)
  joined_formed Par t cs x y ba bb ia ib ca e out f g k goal =
      let sides = and_parts (not ia && ba) (not ib && bb) e in
      let outs = or_none (outside_body x) (outside_body y) out in
      and_from (well_formed n x) (well_formed n y) (f (and_parts (not ia) ba sides.0).1 outs.0) (g (and_parts (not ib) bb sides.1).1 outs.1)
  joined_formed If t cs x y ba bb ia ib ca e out f g k goal =
      let parts = and_parts ca bb e in
      and_from (list_all (numbered_condition n) cs) (well_formed n y) (k parts.0) (g parts.1 out)
  joined_formed Other t cs x y ba bb ia ib ca e out f g k goal = goal

  body_formed : (x : Written) → IsProper n x → is_body x ≡ true → is_narrow (term_in ns x) ≡ true → outside_body (body_in (term_in ns x)) ≡ None → well_formed n (body_in (term_in ns x)) ≡ true
  body_formed (Variable k) h e narrow out = absurd (clash out)
    where
      clash : {a : ℕ} → Some a ≡ None → ⊥
      clash q = cc
  body_formed (Integer z) h e narrow out = absurd (false≢true e)
  body_formed (Atom f) h e narrow out = refl
  body_formed (Node f Nil) h e narrow out = absurd h
  body_formed (Node f (Cons a Nil)) h e narrow out = node_formed f a Nil h narrow
  body_formed (Node f (Cons a (Cons b Nil))) h e narrow out =
      let inner = (and_parts (is_narrow (term_in ns a)) (is_narrow (term_in ns b) && true) (and_parts (nat_le (count_trees (more (term_in ns a) (more (term_in ns b) none))) 255) (is_narrow (term_in ns a) && (is_narrow (term_in ns b) && true)) narrow).1) in
      joined_formed (connective_at (place_of ns f)) (term_in ns (Node f (Cons a (Cons b Nil)))) (conditions_in (term_in ns a)) (body_in (term_in ns a)) (body_in (term_in ns b))
      (is_body a) (is_body b) (is_conditional a) (is_conditional b) (is_condition a)
      (sym (ap (λ c. is_body_named c (is_body a && is_body b) ((not (is_conditional a) && is_body a) && (not (is_conditional b) && is_body b)) (is_condition a && is_body b)) (connective-is ns f table)) ∙ e)
      out (λ k. body_formed a h.0 k inner.0) (λ k. body_formed b h.1.0 k (and_parts (is_narrow (term_in ns b)) true inner.1).0)
      (condition_formed a h.0) (node_formed f a (Cons b Nil) h narrow)
  body_formed (Node f (Cons a (Cons b (Cons c xs)))) h e narrow out = node_formed f a (Cons b (Cons c xs)) h narrow
  body_formed (Paren x) h e narrow out = body_formed x h e narrow out

  -- ---- clauses and queries

  abbrev AreFormed : Halves → Type 0
  AreFormed h = ((callable h.0 && numbered n h.0) ≡ true) × (well_formed_if n h.1 ≡ true)

  neck_formed : (b test : Bool) (whole : Tree) (f : Text) (x y : Written) → IsProper n x → IsProper n y → bytes_eq f (codes ":-") ≡ b
      → cond b (is_head x && is_body y) test ≡ true → is_narrow (term_in ns x) ≡ true → is_narrow (term_in ns y) ≡ true → (callable whole && numbered n whole) ≡ true
      → first_outside source.Program (cond b (term_in ns x, Some (body_in (term_in ns y))) (whole, None)) ≡ None
      → AreFormed (cond b (term_in ns x, Some (body_in (term_in ns y))) (whole, None))
  neck_formed true test whole f x y h k e fit nx ny goal out =
      let parts = and_parts (is_head x) (is_body y) fit in
      let outs = or_none (outside_head (term_in ns x)) (outside_body (body_in (term_in ns y))) out in
      (head_formed x h parts.0 nx, body_formed y k parts.1 ny outs.1)
  neck_formed false test whole f x y h k e fit nx ny goal out = (goal, refl)

  pub clause_formed : (x : Written) → IsProper n x → is_clause x ≡ true → is_narrow (term_in ns x) ≡ true → first_outside source.Program (clause_halves (term_in ns x)) ≡ None → AreFormed (clause_halves (term_in ns x))
  clause_formed (Variable k) h e narrow out = absurd (false≢true e)
  clause_formed (Integer z) h e narrow out = absurd (false≢true e)
  clause_formed (Atom f) h e narrow out = (refl, refl)
  clause_formed (Node f Nil) h e narrow out = absurd h
  clause_formed (Node f (Cons a Nil)) h e narrow out = (node_formed f a Nil h narrow, refl)
  clause_formed (Node f (Cons a (Cons b Nil))) h e narrow out =
      let inner = (and_parts (is_narrow (term_in ns a)) (is_narrow (term_in ns b) && true) (and_parts (nat_le (count_trees (more (term_in ns a) (more (term_in ns b) none))) 255) (is_narrow (term_in ns a) && (is_narrow (term_in ns b) && true)) narrow).1) in
      let whole = term_in ns (Node f (Cons a (Cons b Nil))) in
      neck_formed (place_of ns f == NECK) (is_head_named (connective f)) whole f a b h.0 h.1.0 (neck-is ns f table)
      (sym (ap (λ b'. cond b' (is_head a && is_body b) (is_head_named (connective f))) (neck-is ns f table)) ∙ e)
      inner.0 (and_parts (is_narrow (term_in ns b)) true inner.1).0 (node_formed f a (Cons b Nil) h narrow) out
  clause_formed (Node f (Cons a (Cons b (Cons c xs)))) h e narrow out = (node_formed f a (Cons b (Cons c xs)) h narrow, refl)
  clause_formed (Paren x) h e narrow out = clause_formed x h e narrow out

  question_formed : (x : Written) → IsProper n x → is_body x ≡ true → is_narrow (term_in ns x) ≡ true → outside_body (body_in (term_in ns x)) ≡ None → AreFormed (atom QUERY, Some (body_in (term_in ns x)))
  question_formed x h e narrow out = (refl, body_formed x h e narrow out)

  asked_formed : (b : Bool) (f : Text) (x : Written) → IsProper n (Node f (Cons x Nil)) → cond b (is_body x) true ≡ true → is_narrow (term_in ns (Node f (Cons x Nil))) ≡ true
      → first_outside source.Query (cond b (atom QUERY, Some (body_in (term_in ns x))) (atom QUERY, Some (body_in (term_in ns (Node f (Cons x Nil)))))) ≡ None
      → AreFormed (cond b (atom QUERY, Some (body_in (term_in ns x))) (atom QUERY, Some (body_in (term_in ns (Node f (Cons x Nil))))))
  asked_formed true f x h e narrow out =
      question_formed x h.0 e (and_parts (is_narrow (term_in ns x)) true (and_parts (nat_le (count_trees (more (term_in ns x) none)) 255) (is_narrow (term_in ns x) && true) narrow).1).0 out
  asked_formed false f x h e narrow out = question_formed (Node f (Cons x Nil)) h refl narrow out

  pub query_formed : (x : Written) → IsProper n x → is_query x ≡ true → is_narrow (term_in ns x) ≡ true → first_outside source.Query (query_halves (term_in ns x)) ≡ None → AreFormed (query_halves (term_in ns x))
  query_formed (Variable k) h e narrow out = question_formed (Variable k) h refl narrow out
  query_formed (Integer z) h e narrow out = absurd (false≢true e)
  query_formed (Atom f) h e narrow out = (refl, refl)
  query_formed (Node f Nil) h e narrow out = absurd h
  query_formed (Node f (Cons a Nil)) h e narrow out =
      asked_formed (place_of ns f == QUERY) f a h (sym (ap (λ b. cond b (is_body a) true) (query-is ns f table)) ∙ e) narrow out
  query_formed (Node f (Cons a (Cons b Nil))) h e narrow out = question_formed (Node f (Cons a (Cons b Nil))) h e narrow out
  query_formed (Node f (Cons a (Cons b (Cons c xs)))) h e narrow out = question_formed (Node f (Cons a (Cons b (Cons c xs)))) h refl narrow out
  query_formed (Paren x) h e narrow out = query_formed x h e narrow out

  pub can_be_rule : (source : Source) (x : Written) (line : ℕ) → IsProper n x → fits source x ≡ true → CanBeRule source (term_in ns x) n line
  can_be_rule source.Program x line h e = λ few narrow out. let parts = clause_formed x h e narrow out in record { few = few; head = parts.0; body = parts.1 }
  can_be_rule source.Query x line h e = λ few narrow out. let parts = query_formed x h e narrow out in record { few = few; head = parts.0; body = parts.1 }
