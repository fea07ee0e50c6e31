-- The rule that a printed clause's phrase means.
use Rattle.std.proofs.Common.{◌≡◌, ℕ, ◌+◌, ◌<◌, ◌≤◌, ◌==◌, ◌&&◌, ◌||◌, not, Bool, true, false, if◌then◌else◌, List, [], ◌∷◌, ◌++◌, map, length, Option, Some, None, refl, ap, subst, ◌∙◌, arith}
use Rattle.std.specs.Prelude.{◌^◌, nat_eq, nat_le}
use Rattle.std.specs.List.{AllByRecursion, list_all}
use Rattle.std.proofs.lemmas.Bool.{false≢true, and_parts}
use Rattle.ap_lexer.specs.Lexeme.{Text}
use Rattle.ap_term.specs.declared.clauses.Check.{Check}
use Rattle.ap_term.specs.declared.clauses.Check.TheVariants.{Ground, Indep}
use Rattle.ap_term.specs.declared.fixed.TheConstants.{NECK, COMMA, PARALLEL, CONDITION}
use Rattle.ap_term.specs.AtomTable.{IsAtomTable}
use Rattle.ap_term.specs.Tree.{Tree, Trees, var, int, atom, node, none, more, count_trees, to_trees}
use Rattle.ap_term.specs.Vars.{has, occurs, occurs_all}
use Rattle.ap_term.specs.Substitution.{instance, instance_all}
use Rattle.ap_term.specs.UpToNames.{place}
use Rattle.ap_term.specs.Goals.{Part, call, group, Clause}
use Rattle.ap_term.specs.WellFormed.{in_range, numbered, numbered_all, numbered_check, callable, all_callable, well_formed_part}
use Rattle.ap_writer.specs.Text.{numbered_by}
use Rattle.ap_writer.specs.Writable.{IsWritable}
use Rattle.ap_lifting.specs.declared.bodies.Condition.{Condition}
use Rattle.ap_lifting.specs.declared.bodies.Condition.TheVariants as condition
use Rattle.ap_lifting.specs.Body.{Body, goal, conjunction, conditional}
use Rattle.ap_lifting.specs.Lifted.{Lifted, checks_of, in_turn, lifted, lifted_if}
use Rattle.ap_clause.specs.Clause.{conditions_in, body_in, Halves, clause_halves}
use Rattle.ap_cge.specs.Printed.{is_enclosed, list_of}
use Rattle.ap_readback.specs.Phrase.{Comma, Par, Cond, Neck, Phrase, Simple, InParens, Enclosed}
use Rattle.ap_readback.specs.Readback.{read_check, read_part, is_single, is_no_rule, AreGoals, IsPart, IsPrintable}
use Rattle.ap_readback.proofs.Renaming.{instance-again, writable-again}
use Rattle.ap_readback.proofs.Pieces.{check_term, joined_list, goal_phrase, check_phrase, goals_phrase, conditional_phrase, part_phrase, with_body, clause_phrase, for-check}
use Rattle.ap_readback.proofs.Bodies.{joined_tree, term-in, value_of, joined-value, list-value, par_body, AllSingle, single-body, par-body, only_parts, lifted-par}

same_number : (x y : ℕ) → nat_eq x y ≡ true → y ≡ x
same_number x y h = grind (arith)

mutual
  occurs-range : (n x : ℕ) (t : Tree) → numbered n t ≡ true → occurs x t ≡ true → in_range n x ≡ true
  occurs-range n x (var y) h o = subst (λ z. in_range n z ≡ true) (same_number x y o) h
  occurs-range n x (int z) h o = absurd (false≢true o)
  occurs-range n x (atom a) h o = absurd (false≢true o)
  occurs-range n x (node a ts) h o = occurs-range_all n x ts h o

  occurs-range_all : (n x : ℕ) (ts : Trees) → numbered_all n ts ≡ true → occurs_all x ts ≡ true → in_range n x ≡ true
  occurs-range_all n x none h o = absurd (false≢true o)
  occurs-range_all n x (more t ts) h o = go (occurs x t) refl o (λ e. occurs-range n x t (and_parts (numbered n t) (numbered_all n ts) h).0 e) (λ e. occurs-range_all n x ts (and_parts (numbered n t) (numbered_all n ts) h).1 e)
    where
      go : (b : Bool) → occurs x t ≡ b → (b || occurs_all x ts) ≡ true → (occurs x t ≡ true → in_range n x ≡ true) → (occurs_all x ts ≡ true → in_range n x ≡ true) → in_range n x ≡ true
      go true e o first rest = first e
      go false e o first rest = rest o

module _ (names added : List Text) (is_table : IsAtomTable names) (found later : List ℕ) (few : length found + 1 < 2 ^ 64) (again : later ≡ map (place found) found) (n : ℕ)
    (all : (x : ℕ) → in_range n x ≡ true → has found x ≡ true) where
  abbrev renew : Tree → Tree
  renew t = instance (numbered_by found) t

  -- a term whose variables are the clause's is read as it was printed
  renewed : (t : Tree) → IsWritable names (renew t) → numbered n t ≡ true → value_of names added is_table later (Simple (renew t)) ≡ renew t
  renewed t h k = term-in names added is_table later (renew t) h ∙ instance-again found later t again (λ x o. all x (occurs-range n x t k o))

  goal-value : (t : Tree) → IsWritable names t → numbered n t ≡ true → value_of names added is_table later (goal_phrase names found t) ≡ renew t
  goal-value t h k = go (is_enclosed names t)
    where
      go : (b : Bool) → value_of names added is_table later (if b then InParens (renew t) else Simple (renew t)) ≡ renew t
      go true = renewed t (writable-again found names t few h) k
      go false = renewed t (writable-again found names t few h) k

  goals-value : (ts : Trees) → AreGoals names ts → numbered_all n ts ≡ true → AllByRecursion (λ t. value_of names added is_table later (goal_phrase names found t) ≡ renew t) (list_of ts)
  goals-value none h k = tt
  goals-value (more t ts) h k = let both = and_parts (numbered n t) (numbered_all n ts) k in (goal-value t h.0.writable both.0, goals-value ts h.1 both.1)

  -- ---- checks

  check-numbered : (c : Check) → numbered_check n c ≡ true → numbered n (check_term c) ≡ true
  check-numbered (Ground x) h = ap (λ b. b && true) h
  check-numbered (Indep x y) h = let both = and_parts (in_range n x) (in_range n y) h in ap (λ b. b && (in_range n y && true)) both.0 ∙ ap (λ b. b && true) both.1

  checks-value : (cs : List Check) → list_all (numbered_check n) cs ≡ true → AllByRecursion (λ c. value_of names added is_table later (check_phrase names found c) ≡ renew (check_term c)) cs
  checks-value [] h = tt
  checks-value (c ∷ cs) h =
      let both = and_parts (numbered_check n c) (list_all (numbered_check n) cs) h in
      (renewed (check_term c) (for-check names found is_table few c).rules.0 (check-numbered c both.0), checks-value cs both.1)

  abbrev condition_of : Check → Condition
  condition_of (Ground x) = condition.Ground (place found x)
  condition_of (Indep x y) = condition.Indep (place found x) (place found y)

  condition-is : (c : Check) → conditions_in (renew (check_term c)) ≡ condition_of c ∷ []
  condition-is (Ground x) = refl
  condition-is (Indep x y) = refl

  conditions-are : (c : Check) (cs : List Check) → conditions_in (joined_tree COMMA (renew (check_term c)) (map (λ d. renew (check_term d)) cs)) ≡ map condition_of (c ∷ cs)
  conditions-are c [] = condition-is c
  conditions-are c (d ∷ cs) =
      ap (λ l. l ++ conditions_in (joined_tree COMMA (renew (check_term d)) (map (λ e. renew (check_term e)) cs))) (condition-is c) ∙ ap (λ l. condition_of c ∷ l) (conditions-are d cs)

  checks-are : (cs : List Check) → checks_of (map condition_of cs) ≡ map (read_check found) cs
  checks-are [] = refl
  checks-are (Ground x ∷ cs) = ap (λ l. Ground (place found x) ∷ l) (checks-are cs)
  checks-are (Indep x y ∷ cs) = ap (λ l. read_check found (Indep x y) ∷ l) (checks-are cs)

  -- ---- parts

  abbrev conditional_tree : List Check → Tree → Tree
  conditional_tree [] u = u
  conditional_tree (c ∷ cs) u = node CONDITION (more (joined_tree COMMA (renew (check_term c)) (map (λ d. renew (check_term d)) cs)) (more u none))

  abbrev group_tree : List Check → List Tree → Tree
  group_tree cs [] = var 0
  group_tree cs (t ∷ ts) = conditional_tree cs (joined_tree PARALLEL (renew t) (map renew ts))

  abbrev part_tree : Part → Tree
  part_tree (call t) = renew t
  part_tree (group cs ts) = group_tree cs (list_of ts)

  conditional-value : (cs : List Check) (p : Phrase) (u : Tree) → list_all (numbered_check n) cs ≡ true → value_of names added is_table later p ≡ u → value_of names added is_table later (conditional_phrase names found cs p) ≡ conditional_tree cs u
  conditional-value [] p u h k = k
  conditional-value (c ∷ []) p u h k = joined-value names added is_table later Cond (check_phrase names found c) p (renew (check_term c)) u (checks-value (c ∷ []) h).0 k
  conditional-value (c ∷ d ∷ cs) p u h k =
      joined-value names added is_table later Cond (Enclosed (joined_list Comma (check_phrase names found) c (d ∷ cs))) p (joined_tree COMMA (renew (check_term c)) (map (λ e. renew (check_term e)) (d ∷ cs))) u
      (list-value names added is_table later Comma (check_phrase names found) (λ e. renew (check_term e)) c (d ∷ cs) (checks-value (c ∷ d ∷ cs) h)) k

  part-value : (p : Part) → IsPart names p → well_formed_part n p ≡ true → value_of names added is_table later (part_phrase names found p) ≡ part_tree p
  part-value (call t) h c = goal-value t h.writable (and_parts (callable t) (numbered n t) c).1
  part-value (group cs none) h c = absurd (omega (arith, h.0))
  part-value (group cs (more t ts)) h c =
      let first = and_parts (list_all (numbered_check n) cs) (nat_le 1 (count_trees (more t ts)) && (all_callable (more t ts) && numbered_all n (more t ts))) c in
      let second = and_parts (nat_le 1 (count_trees (more t ts))) (all_callable (more t ts) && numbered_all n (more t ts)) first.1 in
      let third = and_parts (all_callable (more t ts)) (numbered_all n (more t ts)) second.1 in
      conditional-value cs (goals_phrase names found t (list_of ts)) (joined_tree PARALLEL (renew t) (map renew (list_of ts))) first.0
      (list-value names added is_table later Par (goal_phrase names found) renew t (list_of ts) (goals-value (more t ts) h.1 third.1))

  parts-value : (ps : List Part) → AllByRecursion (IsPart names) ps → list_all (well_formed_part n) ps ≡ true → AllByRecursion (λ p. value_of names added is_table later (part_phrase names found p) ≡ part_tree p) ps
  parts-value [] h c = tt
  parts-value (p ∷ ps) h c = let both = and_parts (well_formed_part n p) (list_all (well_formed_part n) ps) c in (part-value p h.0 both.0, parts-value ps h.1 both.1)

  -- ---- their bodies

  single-again : (t : Tree) → is_single t ≡ true → is_single (renew t) ≡ true
  single-again (var x) h = refl
  single-again (int z) h = refl
  single-again (atom a) h = refl
  single-again (node a none) h = refl
  single-again (node a (more t none)) h = refl
  single-again (node a (more t (more u none))) h = h
  single-again (node a (more t (more u (more v ts)))) h = refl

  all-single : (ts : Trees) → AreGoals names ts → AllSingle (map renew (list_of ts))
  all-single none h = tt
  all-single (more t ts) h = (single-again t h.0.single, all-single ts h.1)

  abbrev conditional_body : List Check → Body → Body
  conditional_body [] b = b
  conditional_body (c ∷ cs) b = conditional (map condition_of (c ∷ cs)) b

  abbrev group_body : List Check → List Tree → Body
  group_body cs [] = goal (var 0)
  group_body cs (t ∷ ts) = conditional_body cs (par_body (renew t) (map renew ts))

  abbrev part_body : Part → Body
  part_body (call t) = goal (renew t)
  part_body (group cs ts) = group_body cs (list_of ts)

  conditional-body : (cs : List Check) (u : Tree) (b : Body) → body_in u ≡ b → body_in (conditional_tree cs u) ≡ conditional_body cs b
  conditional-body [] u b e = e
  conditional-body (c ∷ cs) u b e = ap (λ l. conditional l (body_in u)) (conditions-are c cs) ∙ ap (conditional (map condition_of (c ∷ cs))) e

  part-body : (p : Part) → IsPart names p → body_in (part_tree p) ≡ part_body p
  part-body (call t) h = single-body (renew t) (single-again t h.single)
  part-body (group cs none) h = absurd (omega (arith, h.0))
  part-body (group cs (more t ts)) h =
      conditional-body cs (joined_tree PARALLEL (renew t) (map renew (list_of ts))) (par_body (renew t) (map renew (list_of ts))) (par-body (renew t) (map renew (list_of ts)) (all-single (more t ts) h.1))

  abbrev conj_body : Part → List Part → Body
  conj_body p [] = part_body p
  conj_body p (q ∷ qs) = conjunction (part_body p) (conj_body q qs)

  conj-body : (p : Part) (ps : List Part) → AllByRecursion (IsPart names) (p ∷ ps) → body_in (joined_tree COMMA (part_tree p) (map part_tree ps)) ≡ conj_body p ps
  conj-body p [] h = part-body p h.0
  conj-body p (q ∷ qs) h = ap (λ b. conjunction b (body_in (joined_tree COMMA (part_tree q) (map part_tree qs)))) (part-body p h.0) ∙ ap (conjunction (part_body p)) (conj-body q qs h.1)

  -- ---- nothing is lifted

  goals-again : (ts : Trees) → to_trees (map renew (list_of ts)) ≡ instance_all (numbered_by found) ts
  goals-again none = refl
  goals-again (more t ts) = ap (more (renew t)) (goals-again ts)

  module _ (f : ℕ → ℕ) (vars line : ℕ) where
    lifted-group : (cs : List Check) (ts : Trees) (k : ℕ) → 2 ≤ count_trees ts → lifted f vars line (group_body cs (list_of ts)) [] k ≡ only_parts (group (map (read_check found) cs) (instance_all (numbered_by found) ts) ∷ []) k
    lifted-group cs none k h = absurd (omega arith)
    lifted-group cs (more t none) k h = absurd (omega arith)
    lifted-group [] (more t (more u us)) k h = lifted-par f vars line (renew t) (renew u) (map renew (list_of us)) [] k ∙ ap (λ ts. only_parts (group [] (more (renew t) (more (renew u) ts)) ∷ []) k) (goals-again us)
    lifted-group (c ∷ cs) (more t (more u us)) k h =
        lifted-par f vars line (renew t) (renew u) (map renew (list_of us)) (checks_of (map condition_of (c ∷ cs))) k
        ∙ ap (λ ts. only_parts (group (checks_of (map condition_of (c ∷ cs))) (more (renew t) (more (renew u) ts)) ∷ []) k) (goals-again us)
        ∙ ap (λ ds. only_parts (group ds (instance_all (numbered_by found) (more t (more u us))) ∷ []) k) (checks-are (c ∷ cs))

    lifted-part : (p : Part) (k : ℕ) → IsPart names p → lifted f vars line (part_body p) [] k ≡ only_parts (read_part found p ∷ []) k
    lifted-part (call t) k h = refl
    lifted-part (group cs ts) k h = lifted-group cs ts k h.0

    lifted-conj : (p : Part) (ps : List Part) (k : ℕ) → AllByRecursion (IsPart names) (p ∷ ps) → lifted f vars line (conj_body p ps) [] k ≡ only_parts (map (read_part found) (p ∷ ps)) k
    lifted-conj p [] k h = lifted-part p k h.0
    lifted-conj p (q ∷ qs) k h =
        ap (λ (x : Lifted). in_turn x (lifted f vars line (conj_body q qs) [] x.next)) (lifted-part p k h.0) ∙ ap (in_turn (only_parts (read_part found p ∷ []) k)) (lifted-conj q qs k h.1)

  -- ---- the clause

  abbrev pub body_if : List Part → Option Body
  body_if [] = None
  body_if (p ∷ ps) = Some (conj_body p ps)

  no_rule-again : (t : Tree) → is_no_rule t ≡ true → clause_halves (renew t) ≡ (renew t, None)
  no_rule-again (var x) h = refl
  no_rule-again (int z) h = refl
  no_rule-again (atom a) h = refl
  no_rule-again (node a none) h = refl
  no_rule-again (node a (more t none)) h = refl
  no_rule-again (node a (more t (more u none))) h = go (a == NECK) h
    where
      go : (b : Bool) → not b ≡ true → (let halves : Halves = if b then (renew t, Some (body_in (renew u))) else (node a (more (renew t) (more (renew u) none)), None) in halves) ≡ (node a (more (renew t) (more (renew u) none)), None)
      go true e = absurd (false≢true e)
      go false e = refl
  no_rule-again (node a (more t (more u (more v ts)))) h = refl

  pub clause-value : (c : Clause) → IsPrintable names c → c.vars ≡ n → clause_halves (value_of names added is_table later (clause_phrase names found c)) ≡ (renew c.head, body_if c.body)
  clause-value c h e = go c.body h.parts (subst (λ m. list_all (well_formed_part m) c.body ≡ true) e h.clause.body)
    where
      head : value_of names added is_table later (goal_phrase names found c.head) ≡ renew c.head
      head = goal-value c.head h.head (subst (λ m. numbered m c.head ≡ true) e (and_parts (callable c.head) (numbered c.vars c.head) h.clause.head).1)

      go : (ps : List Part) → AllByRecursion (IsPart names) ps → list_all (well_formed_part n) ps ≡ true
          → clause_halves (value_of names added is_table later (with_body names found (goal_phrase names found c.head) ps)) ≡ (renew c.head, body_if ps)
      go [] k w = ap clause_halves head ∙ no_rule-again c.head h.no_rule
      go (p ∷ ps) k w =
          ap clause_halves (joined-value names added is_table later Neck (goal_phrase names found c.head) (joined_list Comma (part_phrase names found) p ps) (renew c.head) (joined_tree COMMA (part_tree p) (map part_tree ps)) head
          (list-value names added is_table later Comma (part_phrase names found) part_tree p ps (parts-value (p ∷ ps) k w)))
          ∙ ap (λ b. (renew c.head, Some b)) (conj-body p ps k)

  pub lifted-clause : (f : ℕ → ℕ) (vars line k : ℕ) (ps : List Part) → AllByRecursion (IsPart names) ps → lifted_if f vars line (body_if ps) k ≡ only_parts (map (read_part found) ps) k
  lifted-clause f vars line k [] h = refl
  lifted-clause f vars line k (p ∷ ps) h = lifted-conj f vars line p ps k h
