-- What a printed clause's phrase means as a rule.
use Rattle.std.proofs.Common.{◌≡◌, ℕ, ◌<◌, true, List, [], ◌∷◌, codes, map, length, Some, slice_get, refl, ap, sym, ◌∙◌, arith, zero, suc}
use Rattle.std.specs.List.{AllByRecursion}
use Rattle.std.proofs.lemmas.Bool.{false≢true}
use Rattle.ap_lexer.specs.Lexeme.{Text}
use Rattle.ap_term.specs.declared.clauses.Check.{Check}
use Rattle.ap_term.specs.declared.fixed.TheConstants.{NECK, COMMA, PARALLEL, CONDITION}
use Rattle.ap_term.specs.AtomTable.{insert_names, IsAtomTable}
use Rattle.ap_term.specs.Tree.{Tree, Trees, var, int, atom, node, none, more, to_trees}
use Rattle.ap_term.specs.Substitution.{instance, instance_all}
use Rattle.ap_term.specs.Goals.{Part, call, group}
use Rattle.ap_term.proofs.TreeLists.{append_trees-none}
use Rattle.ap_writer.specs.Text as text
use Rattle.ap_writer.specs.Text.{numbered_by}
use Rattle.ap_writer.specs.Writable.{IsWritable, AreWritable}
use Rattle.ap_reader.specs.Build.{place_of, term_in, terms_in}
use Rattle.ap_reader.proofs.Tables.{placed}
use Rattle.ap_lifting.specs.Body.{Body, goal, parallel}
use Rattle.ap_lifting.specs.Lifted.{Lifted, lifted, grouped}
use Rattle.ap_clause.specs.declared.form.Connective.{Connective}
use Rattle.ap_clause.specs.declared.form.Connective.TheVariants.{And, Or, Par as Parallel, If, Other}
use Rattle.ap_clause.specs.Form.{is_head_named}
use Rattle.ap_clause.specs.Clause.{connective_at, conditions_in, joined_by, body_in}
use Rattle.ap_clause.proofs.CanBe.{fixed_at}
use Rattle.ap_readback.specs.Printable.{written, all_written}
use Rattle.ap_readback.specs.Phrase.{Sign, Neck, Comma, Par, Cond, Phrase, Joined, sign_name, phrase_written}
use Rattle.ap_readback.specs.Readback.{is_single}
use Rattle.ap_readback.proofs.Pieces.{joined_list}

-- ---- terms joined by an atom

abbrev pub joined_tree : ℕ → Tree → List Tree → Tree
joined_tree a t [] = t
joined_tree a t (u ∷ us) = node a (more t (more (joined_tree a u us) none))

abbrev pub sign_atom : Sign → ℕ
sign_atom Neck = NECK
sign_atom Comma = COMMA
sign_atom Par = PARALLEL
sign_atom Cond = CONDITION

-- ---- the atoms of a table that has grown

module _ (names added : List Text) (is_table : IsAtomTable names) where
  abbrev pub grown : List Text
  grown = insert_names names added

  held-name : (ns : List Text) (a : ℕ) → a < length ns → slice_get ns a ≡ Some (text.name_at ns a)
  held-name [] a h = absurd (omega arith)
  held-name (n ∷ ns) zero h = refl
  held-name (n ∷ ns) (suc a) h = held-name ns a (omega arith)

  atom-again : (a : ℕ) → a < length names → place_of grown (text.name_at names a) ≡ a
  atom-again a h = sym (placed names a (text.name_at names a) is_table (held-name names a h) added)

  sign-again : (s : Sign) → place_of grown (sign_name s) ≡ sign_atom s
  sign-again Neck = sym (placed names NECK (codes ":-") is_table (fixed_at names NECK (codes ":-") is_table (λ _. refl)) added)
  sign-again Comma = sym (placed names COMMA (codes ",") is_table (fixed_at names COMMA (codes ",") is_table (λ _. refl)) added)
  sign-again Par = sym (placed names PARALLEL (codes "&") is_table (fixed_at names PARALLEL (codes "&") is_table (λ _. refl)) added)
  sign-again Cond = sym (placed names CONDITION (codes "=>") is_table (fixed_at names CONDITION (codes "=>") is_table (λ _. refl)) added)

  mutual
    pub term-in : (later : List ℕ) (t : Tree) → IsWritable names t → term_in grown (written names later t) ≡ instance (numbered_by later) t
    term-in later (var x) h = refl
    term-in later (int z) h = refl
    term-in later (atom a) h = ap atom (atom-again a h)
    term-in later (node a ts) h = ap (λ b. node b (terms_in grown (all_written names later ts))) (atom-again a h.0) ∙ ap (node a) (terms-in later ts h.1)

    pub terms-in : (later : List ℕ) (ts : Trees) → AreWritable names ts → terms_in grown (all_written names later ts) ≡ instance_all (numbered_by later) ts
    terms-in later none h = refl
    terms-in later (more t ts) h = ap (λ u. more u (terms_in grown (all_written names later ts))) (term-in later t h.0) ∙ ap (more (instance (numbered_by later) t)) (terms-in later ts h.1)

  -- ---- the tree of a phrase

  abbrev pub value_of : List ℕ → Phrase → Tree
  value_of later p = term_in grown (phrase_written names later p)

  pub joined-value : (later : List ℕ) (s : Sign) (p q : Phrase) (t u : Tree) → value_of later p ≡ t → value_of later q ≡ u → value_of later (Joined p s q) ≡ node (sign_atom s) (more t (more u none))
  joined-value later s p q t u h k =
      ap (λ a. node a (more (value_of later p) (more (value_of later q) none))) (sign-again s) ∙ ap (λ v. node (sign_atom s) (more v (more (value_of later q) none))) h ∙ ap (λ v. node (sign_atom s) (more t (more v none))) k

  pub list-value : {A : Type 0} (later : List ℕ) (s : Sign) (g : A → Phrase) (v : A → Tree) (x : A) (ys : List A) → AllByRecursion (λ y. value_of later (g y) ≡ v y) (x ∷ ys)
      → value_of later (joined_list s g x ys) ≡ joined_tree (sign_atom s) (v x) (map v ys)
  list-value later s g v x [] h = h.0
  list-value later s g v x (y ∷ ys) h = joined-value later s (g x) (joined_list s g y ys) (v x) (joined_tree (sign_atom s) (v y) (map v ys)) h.0 (list-value later s g v y ys h.1)

-- ---- bodies

abbrev pub par_body : Tree → List Tree → Body
par_body t [] = goal t
par_body t (u ∷ us) = parallel (goal t) (par_body u us)

abbrev pub AllSingle : List Tree → Type 0
AllSingle ts = AllByRecursion (λ t. is_single t ≡ true) ts

pub single-body : (t : Tree) → is_single t ≡ true → body_in t ≡ goal t
single-body (var x) h = refl
single-body (int z) h = refl
single-body (atom a) h = refl
single-body (node a none) h = refl
single-body (node a (more t none)) h = refl
single-body (node a (more t (more u none))) h = go (connective_at a) h
  where
    go : (c : Connective) → is_head_named c ≡ true → joined_by c (node a (more t (more u none))) (conditions_in t) (body_in t) (body_in u) ≡ goal (node a (more t (more u none)))
    go And e = absurd (false≢true e)
    go Or e = absurd (false≢true e)
    go Parallel e = absurd (false≢true e)
    go If e = absurd (false≢true e)
    go Other e = refl
single-body (node a (more t (more u (more v ts)))) h = refl

pub par-body : (t : Tree) (ts : List Tree) → AllSingle (t ∷ ts) → body_in (joined_tree PARALLEL t ts) ≡ par_body t ts
par-body t [] h = single-body t h.0
par-body t (u ∷ us) h = ap (λ b. parallel b (body_in (joined_tree PARALLEL u us))) (single-body t h.0) ∙ ap (parallel (goal t)) (par-body u us h.1)

abbrev pub only_parts : List Part → ℕ → Lifted
only_parts ps n = record { parts = ps; next = n; clauses = [] }

module _ (f : ℕ → ℕ) (vars line : ℕ) where
  pub lifted-par : (t u : Tree) (us : List Tree) (cs : List Check) (n : ℕ) → lifted f vars line (par_body t (u ∷ us)) cs n ≡ only_parts (group cs (to_trees (t ∷ u ∷ us)) ∷ []) n
  lifted-par t u [] cs n = refl
  lifted-par t u (v ∷ vs) cs n =
      ap (grouped cs (only_parts (call t ∷ []) n)) (lifted-par u v vs [] n) ∙ ap (λ ts. only_parts (group cs (more t ts) ∷ []) n) (append_trees-none (to_trees (u ∷ v ∷ vs)))
