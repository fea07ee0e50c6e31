-- What is lifted from a well formed clause is well formed.
use Rattle.std.proofs.Common.{◌≡◌, ℕ, zero, suc, ◌+◌, ◌<◌, ◌≤◌, Bool, true, false, ◌&&◌, nat_le, min, max, List, [], ◌∷◌, ◌++◌, refl, ap, sym, ◌∙◌, subst, arith, Option, Some, None}
use Rattle.std.specs.Prelude.{IsTrue, ◌↔◌}
use Rattle.std.specs.List.{list_all}
use Rattle.std.proofs.lemmas.Bool.Decides.{nat_tests}
use Rattle.std.proofs.lemmas.Bool.{and_from, and_parts}
use Rattle.ap_term.proofs.TreeLists.{count_trees-instance_all, count_trees-push, count_trees-variables, append_trees-assoc, applied-push}
use Rattle.ap_term.proofs.WellFormed.{numbered_all-variables, all_callable-append}
use Rattle.ap_term.proofs.Lists.{list_all-append}
use Rattle.ap_term.specs.declared.clauses.Check.{Check}
use Rattle.ap_term.specs.Tree.{Tree, Trees, var, node, none, more, push_tree, count_trees, append_trees}
use Rattle.ap_term.specs.Substitution.{instance_all}
use Rattle.ap_term.specs.Goals.{Part, call, group, plain_goals}
use Rattle.ap_term.specs.WellFormed.{in_range, numbered, numbered_all, callable, all_callable, numbered_check, well_formed_part, IsClause}
use Rattle.ap_term.specs.Search.{variables}
use Rattle.ap_lifting.specs.declared.bodies.Condition.{Condition}
use Rattle.ap_lifting.specs.declared.bodies.Condition.TheVariants.{True, Ground, Indep}
use Rattle.ap_lifting.proofs.Measured.{count_trees-append, some_lifted}
use Rattle.ap_lifting.specs.Body.{Body, goal, conjunction, disjunction, parallel, conditional, numbered_condition, well_formed}
use Rattle.ap_lifting.specs.Rule.{Rule, IsRule, well_formed_if}
use Rattle.ap_lifting.specs.Lifted.{Lifted, applied, stays, number_inside, check_of, checks_of, raised_unless, lifted, lifted_goal, lifted_clause, lifted_if}

-- ---- the call of a lifted predicate

pub applied-variables : (a n : ℕ) → 0 < n → applied a (variables n) ≡ node a (variables n)
applied-variables a zero h = absurd (omega arith)
applied-variables a (suc n) h = applied-push a (variables n) (var (suc n))

callable-applied : (a : ℕ) (ts : Trees) → count_trees ts ≤ 255 → callable (applied a ts) ≡ true
callable-applied a none h = refl
callable-applied a (more t ts) h = grind (arith, nat_tests)

numbered-applied : (n a : ℕ) (ts : Trees) → numbered_all n ts ≡ true → numbered n (applied a ts) ≡ true
numbered-applied n a none h = refl
numbered-applied n a (more t ts) h = h

-- ---- parts

numbered_all-append : (n : ℕ) (ts us : Trees) → numbered_all n ts ≡ true → numbered_all n us ≡ true → numbered_all n (append_trees ts us) ≡ true
numbered_all-append n none us h k = k
numbered_all-append n (more t ts) us h k =
    and_from (numbered n t) (numbered_all n (append_trees ts us)) (and_parts (numbered n t) (numbered_all n ts) h).0
    (numbered_all-append n ts us (and_parts (numbered n t) (numbered_all n ts) h).1 k)

-- some goal, each can be called, and its variables are those from 1 to n
pub record AreGoals (n : ℕ) (ts : Trees) : Type 0 where
  pub some : 0 < count_trees ts
  pub callable : all_callable ts ≡ true
  pub numbered : numbered_all n ts ≡ true

-- the goals of parts that are well formed, and not none
pub goals_called : (n : ℕ) (ps : List Part) → list_all (well_formed_part n) ps ≡ true → (all_callable (plain_goals ps) ≡ true) × (numbered_all n (plain_goals ps) ≡ true)
goals_called n [] h = (refl, refl)
goals_called n (call t ∷ ps) h =
    let here = (and_parts (callable t && numbered n t) (list_all (well_formed_part n) ps) h).0 in
    let rest = goals_called n ps (and_parts (callable t && numbered n t) (list_all (well_formed_part n) ps) h).1 in (
      and_from (callable t) (all_callable (plain_goals ps)) (and_parts (callable t) (numbered n t) here).0 rest.0,
      and_from (numbered n t) (numbered_all n (plain_goals ps)) (and_parts (callable t) (numbered n t) here).1 rest.1,
    )
goals_called n (group cs ts ∷ ps) h =
    let here = (and_parts (well_formed_part n (group cs ts)) (list_all (well_formed_part n) ps) h).0 in
    let rest = goals_called n ps (and_parts (well_formed_part n (group cs ts)) (list_all (well_formed_part n) ps) h).1 in
    let inner = (and_parts (list_all (numbered_check n) cs) (nat_le 1 (count_trees ts) && (all_callable ts && numbered_all n ts)) here).1 in
    let both = (and_parts (nat_le 1 (count_trees ts)) (all_callable ts && numbered_all n ts) inner).1 in (
      all_callable-append ts (plain_goals ps) (and_parts (all_callable ts) (numbered_all n ts) both).0 rest.0,
      numbered_all-append n ts (plain_goals ps) (and_parts (all_callable ts) (numbered_all n ts) both).1 rest.1,
    )

-- the same of some goals
goals_are : (n : ℕ) (ps : List Part) → list_all (well_formed_part n) ps ≡ true → 0 < count_trees (plain_goals ps) → AreGoals n (plain_goals ps)
goals_are n ps h some = record { some = some; callable = (goals_called n ps h).0; numbered = (goals_called n ps h).1 }

AreGoals-append : (n : ℕ) (ts us : Trees) → AreGoals n ts → AreGoals n us → AreGoals n (append_trees ts us)
AreGoals-append n ts us h k = record {
  some = omega (arith, count_trees-append ts us, h.some);
  callable = all_callable-append ts us h.callable k.callable;
  numbered = numbered_all-append n ts us h.numbered k.numbered;
}

group_kept : (n : ℕ) (cs : List Check) (ts : Trees) → list_all (numbered_check n) cs ≡ true → AreGoals n ts → list_all (well_formed_part n) (group cs ts ∷ []) ≡ true
group_kept n cs ts h k =
    and_from (well_formed_part n (group cs ts)) true
    (and_from (list_all (numbered_check n) cs) (nat_le 1 (count_trees ts) && (all_callable ts && numbered_all n ts)) h
    (and_from (nat_le 1 (count_trees ts)) (all_callable ts && numbered_all n ts) (let some = k.some in grind (arith, nat_tests)) (and_from (all_callable ts) (numbered_all n ts) k.callable k.numbered)))
    refl

check_kept : (n : ℕ) (c : Condition) → numbered_condition n c ≡ true → list_all (numbered_check n) (check_of c) ≡ true
check_kept n True h = refl
check_kept n (Ground x) h = and_from (in_range n x) true h refl
check_kept n (Indep x y) h =
    let first = (and_parts (in_range n x) (in_range n y) h).0 in
    let second = (and_parts (in_range n x) (in_range n y) h).1 in
    and_from (in_range n (min x y) && in_range n (max x y)) true (and_from (in_range n (min x y)) (in_range n (max x y)) (grind (arith, nat_tests)) (grind (arith, nat_tests))) refl

pub checks_kept : (n : ℕ) (cs : List Condition) → list_all (numbered_condition n) cs ≡ true → list_all (numbered_check n) (checks_of cs) ≡ true
checks_kept n [] h = refl
checks_kept n (c ∷ cs) h =
    list_all-append (numbered_check n) (check_of c) (checks_of cs) (check_kept n c (and_parts (numbered_condition n c) (list_all (numbered_condition n) cs) h).0)
    (checks_kept n cs (and_parts (numbered_condition n c) (list_all (numbered_condition n) cs) h).1)

module _ (names : ℕ → ℕ) (vars line : ℕ) where
  pub call_kept : vars ≤ 255 → (n : ℕ) → list_all (well_formed_part vars) (call (lifted_goal names vars line n) ∷ []) ≡ true
  call_kept few n =
      and_from (callable (lifted_goal names vars line n) && numbered vars (lifted_goal names vars line n)) true
      (and_from (callable (lifted_goal names vars line n)) (numbered vars (lifted_goal names vars line n))
      (callable-applied (names n) (variables vars) (omega (arith, count_trees-variables vars)))
      (numbered-applied vars (names n) (variables vars) (numbered_all-variables vars vars (omega arith))))
      refl

  pub clause_kept : vars ≤ 255 → (n : ℕ) (ps : List Part) → list_all (well_formed_part vars) ps ≡ true → IsClause (lifted_clause names vars line n ps)
  clause_kept few n ps h = record {
    few = few;
    head = (and_parts (callable (lifted_goal names vars line n) && numbered vars (lifted_goal names vars line n)) true (call_kept few n)).0;
    body = h;
  }

  pub unless_kept : vars ≤ 255 → (s : Bool) (n : ℕ) (x : Lifted) → list_all (well_formed_part vars) x.parts ≡ true
      → list_all (well_formed_part vars) (raised_unless names vars line s n x).parts ≡ true
  unless_kept few true n x h = h
  unless_kept few false n x h = call_kept few n

  some_unless : (s : Bool) (n : ℕ) (x : Lifted) → 0 < count_trees (plain_goals x.parts) → 0 < count_trees (plain_goals (raised_unless names vars line s n x).parts)
  some_unless true n x h = h
  some_unless false n x h = omega arith

  -- the parts of a lifted body are well formed
  pub parts_kept : vars ≤ 255 → (b : Body) (cs : List Check) (n : ℕ) → well_formed vars b ≡ true → list_all (numbered_check vars) cs ≡ true
      → list_all (well_formed_part vars) (lifted names vars line b cs n).parts ≡ true
  parts_kept few (goal t) cs n h k = and_from (callable t && numbered vars t) true h refl
  parts_kept few (conjunction a b) cs n h k =
      let x = lifted names vars line a [] n in
      list_all-append (well_formed_part vars) x.parts (lifted names vars line b [] x.next).parts
      (parts_kept few a [] n (and_parts (well_formed vars a) (well_formed vars b) h).0 refl)
      (parts_kept few b [] x.next (and_parts (well_formed vars a) (well_formed vars b) h).1 refl)
  parts_kept few (disjunction a b) cs n h k = call_kept few n
  parts_kept few (parallel a b) cs n h k =
      let x = lifted names vars line a [] (number_inside (stays false a) n) in
      let m = (raised_unless names vars line (stays false a) n x).next in
      let y = lifted names vars line b [] (number_inside (stays true b) m) in
      let ps = (raised_unless names vars line (stays false a) n x).parts in
      let qs = (raised_unless names vars line (stays true b) m y).parts in
      group_kept vars cs (append_trees (plain_goals ps) (plain_goals qs)) k
      (AreGoals-append vars (plain_goals ps) (plain_goals qs)
      (goals_are vars ps (unless_kept few (stays false a) n x (parts_kept few a [] (number_inside (stays false a) n) (and_parts (well_formed vars a) (well_formed vars b) h).0 refl))
      (some_unless (stays false a) n x (some_lifted names vars line a [] (number_inside (stays false a) n))))
      (goals_are vars qs (unless_kept few (stays true b) m y (parts_kept few b [] (number_inside (stays true b) m) (and_parts (well_formed vars a) (well_formed vars b) h).1 refl))
      (some_unless (stays true b) m y (some_lifted names vars line b [] (number_inside (stays true b) m)))))
  parts_kept few (conditional ds b) cs n h k =
      parts_kept few b (checks_of ds) n (and_parts (list_all (numbered_condition vars) ds) (well_formed vars b) h).1
      (checks_kept vars ds (and_parts (list_all (numbered_condition vars) ds) (well_formed vars b) h).0)

pub if_kept : (names : ℕ → ℕ) (vars line : ℕ) → vars ≤ 255 → (b : Option Body) (n : ℕ) → well_formed_if vars b ≡ true → list_all (well_formed_part vars) (lifted_if names vars line b n).parts ≡ true
if_kept names vars line few None n h = refl
if_kept names vars line few (Some b) n h = parts_kept names vars line few b [] n h refl

-- a clause that was well formed is so with its body lifted
pub rule_kept : (names : ℕ → ℕ) (r : Rule) (n : ℕ) (head : Tree) (ps : List Part) (vars line : ℕ) (b : Option Body) → IsRule r → head ≡ r.head → vars ≡ r.vars → line ≡ r.line
    → b ≡ r.body → ps ≡ (lifted_if names vars line b n).parts → IsClause (record { head = head; body = ps; vars = vars; line = line })
rule_kept names r n head ps vars line b ok p e f q is =
    let body : ps ≡ (lifted_if names r.vars r.line r.body n).parts
    = is ∙ ap (λ v. (lifted_if names v line b n).parts) e ∙ ap (λ v. (lifted_if names r.vars v b n).parts) f
    ∙ ap (λ v. (lifted_if names r.vars r.line v n).parts) q
    in
    let kept = if_kept names r.vars r.line ok.few r.body n ok.body in
    record {
      few = subst (λ v. v ≤ 255) (sym e) ok.few;
      head = subst (λ v. IsTrue (callable head && numbered v head)) (sym e) (subst (λ t. IsTrue (callable t && numbered r.vars t)) (sym p) ok.head);
      body = subst (λ v. IsTrue (list_all (well_formed_part v) ps)) (sym e) (subst (λ qs. IsTrue (list_all (well_formed_part r.vars) qs)) (sym body) kept);
    }

-- ---- lists of goals

pub push_tree-append : (ts : Trees) (t : Tree) → push_tree ts t ≡ append_trees ts (more t none)
push_tree-append none t = refl
push_tree-append (more u ts) t = ap (more u) (push_tree-append ts t)

-- what the proofs of the code that lifts cite
pub ruleset lifting = (push_tree-append, append_trees-assoc, checks_kept)

-- ---- the test of a goal

goal_test : (b : Bool) (t : Tree) (n : ℕ) (v : Bool) → (callable t && numbered n t) ≡ v → n ≤ 255 → (IsTrue b → IsClause (record { head = t; body = []; vars = n; line = 1 })) → (IsClause (record { head = t; body = []; vars = n; line = 1 }) → IsTrue b) → b ≡ v
goal_test true t n true e few h k = refl
goal_test false t n false e few h k = refl
goal_test true t n false e few h k = sym (h refl).head ∙ e
goal_test false t n true e few h k = k (record { few = few; head = e; body = refl })

pub is_goal_test : (b : Bool) (t : Tree) (n : ℕ) (ps : List Part) → ps ≡ [] → n ≤ 255 → (IsTrue b ↔ IsClause (record { head = t; body = ps; vars = n; line = 1 })) → b ≡ (callable t && numbered n t)
is_goal_test b t n ps e few h =
    goal_test b t n (callable t && numbered n t) refl few (λ x. subst (λ qs. IsClause (record { head = t; body = qs; vars = n; line = 1 })) e (h.0 x))
    (λ c. h.1 (subst (λ qs. IsClause (record { head = t; body = qs; vars = n; line = 1 })) (sym e) c))
