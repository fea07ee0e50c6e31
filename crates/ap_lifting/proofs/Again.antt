-- Lifting with other numbers whose names are the same gives the same.
use Rattle.std.proofs.Common.{◌≡◌, ℕ, ◌+◌, ◌-◌, ◌<◌, ◌≤◌, nat_lt, Bool, true, false, if◌then◌else◌, List, [], ◌∷◌, ◌++◌, refl, ap, ◌∙◌, arith, Option, Some, None}
use Rattle.std.proofs.lemmas.Bool.Decides.{nat_tests}
use Rattle.ap_term.specs.declared.clauses.Check.{Check}
use Rattle.ap_term.specs.Goals.{Part, call, group, plain_goals}
use Rattle.ap_term.specs.Search.{variables}
use Rattle.ap_term.specs.Tree.{append_trees}
use Rattle.ap_lifting.specs.Body.{Body, goal, conjunction, disjunction, parallel, conditional}
use Rattle.ap_lifting.specs.Rule.{Rule}
use Rattle.ap_lifting.specs.Lifted.{Lifted, applied, stays, number_inside, raised_unless, lifted, lifted_goal, lifted_clause, checks_of, clause_of, lifted_rule, lifted_rules, lifted_program, lifted_if}
use Rattle.ap_lifting.specs.LiftingLaws.{supply}
use Rattle.ap_lifting.specs.Sizes.{predicates_in}
use Rattle.ap_lifting.proofs.Filled.{next-lifted_rule}
use Rattle.ap_lifting.proofs.LiftedPrograms.{rises, unless_numbers, numbers}

pub supply_first : (n : ℕ) (names own : ℕ → ℕ) (i : ℕ) → i < n → supply n names own i ≡ names i
supply_first n names own i l = ap (λ b. if b then names i else own (i - n)) (below i n l)
  where
    below : (i n : ℕ) → i < n → nat_lt i n ≡ true
    below i n l = grind (arith, nat_tests)

pub supply_last : (n : ℕ) (names own : ℕ → ℕ) (i : ℕ) → supply n names own (n + i) ≡ own i
supply_last n names own i = ap (λ b. if b then names (n + i) else own ((n + i) - n)) (above i n) ∙ ap own (omega arith)
  where
    above : (i n : ℕ) → nat_lt (n + i) n ≡ false
    above i n = grind (arith, nat_tests)

module _ (names own : ℕ → ℕ) (k : ℕ) (vars line : ℕ) where
  -- the names of the numbers from lo on and below hi
  abbrev Agree : ℕ → ℕ → Type 0
  Agree lo hi = (i : ℕ) → lo ≤ i → i < hi → names (k + i) ≡ own i

  abbrev pub IsAgain : Lifted → Lifted → Type 0
  IsAgain x y = (y.parts ≡ x.parts) × (y.next ≡ k + x.next) × (y.clauses ≡ x.clauses)

  goal_again : (n m : ℕ) → m ≡ k + n → names (k + n) ≡ own n → lifted_goal names vars line m ≡ lifted_goal own vars line n
  goal_again n m e h = ap (λ a. applied a (variables vars)) (ap names e ∙ h)

  clause_again : (n m : ℕ) (ps qs : List Part) → m ≡ k + n → names (k + n) ≡ own n → qs ≡ ps → lifted_clause names vars line m qs ≡ lifted_clause own vars line n ps
  clause_again n m ps qs e h same =
      ap (λ t. record { head = t; body = qs; vars = vars; line = line }) (goal_again n m e h) ∙ ap (λ l. record { head = lifted_goal own vars line n; body = l; vars = vars; line = line }) same

  unless_again : (s : Bool) (n m : ℕ) (x y : Lifted) → m ≡ k + n → Agree n (raised_unless own vars line s n x).next → number_inside s n ≤ x.next → IsAgain x y
      → IsAgain (raised_unless own vars line s n x) (raised_unless names vars line s m y)
  unless_again true n m x y e agree l h = h
  unless_again false n m x y e agree l h =
      let name = agree n (omega arith) (omega arith) in (
        ap (λ t. call t ∷ []) (goal_again n m e name),
        h.1,
        ap (λ c. c ∷ y.clauses) (clause_again n m x.parts y.parts e name h.0) ∙ ap (λ cs. lifted_clause own vars line n x.parts ∷ cs) h.2,
      )

  inside_again : (s : Bool) (n m : ℕ) → m ≡ k + n → number_inside s m ≡ k + number_inside s n
  inside_again true n m e = e
  inside_again false n m e = omega arith

  agree_inside : (s : Bool) (n : ℕ) (x : Lifted) → Agree n (raised_unless own vars line s n x).next → Agree (number_inside s n) x.next
  agree_inside true n x h i a b = h i a b
  agree_inside false n x h i a b = h i (omega arith) b

  pub again : (b : Body) (cs : List Check) (n : ℕ) → Agree n (lifted own vars line b cs n).next → (m : ℕ) → m ≡ k + n → IsAgain (lifted own vars line b cs n) (lifted names vars line b cs m)
  again (goal t) cs n h m e = (refl, e, refl)
  again (conjunction a b) cs n h m e =
      let x = lifted own vars line a [] n in
      let y = lifted own vars line b [] x.next in
      let u = lifted names vars line a [] m in
      let p : n ≤ x.next = rises own vars line a [] n in
      let q : x.next ≤ y.next = rises own vars line b [] x.next in
      let first = again a [] n (λ i l r. h i l (omega arith)) m e in
      let second = again b [] x.next (λ i l r. h i (omega arith) r) u.next first.1 in
      let v = lifted names vars line b [] u.next in
      (ap (λ l. l ++ v.parts) first.0 ∙ ap (λ l. x.parts ++ l) second.0, second.1, ap (λ l. l ++ v.clauses) first.2 ∙ ap (λ l. x.clauses ++ l) second.2)
  again (disjunction a b) cs n h m e =
      let x = lifted own vars line a [] (n + 1) in
      let y = lifted own vars line b [] x.next in
      let u = lifted names vars line a [] (m + 1) in
      let p : n + 1 ≤ x.next = rises own vars line a [] (n + 1) in
      let q : x.next ≤ y.next = rises own vars line b [] x.next in
      let name = h n (omega arith) (omega arith) in
      let first = again a [] (n + 1) (λ i l r. h i (omega arith) (omega arith)) (m + 1) (omega arith) in
      let second = again b [] x.next (λ i l r. h i (omega arith) r) u.next first.1 in
      let v = lifted names vars line b [] u.next in (
        ap (λ t. call t ∷ []) (goal_again n m e name),
        second.1,
        ap (λ c. c ∷ lifted_clause names vars line m v.parts ∷ (u.clauses ++ v.clauses)) (clause_again n m x.parts u.parts e name first.0)
            ∙ ap (λ c. lifted_clause own vars line n x.parts ∷ c ∷ (u.clauses ++ v.clauses)) (clause_again n m y.parts v.parts e name second.0)
            ∙ ap (λ l. lifted_clause own vars line n x.parts ∷ lifted_clause own vars line n y.parts ∷ l) (ap (λ l. l ++ v.clauses) first.2 ∙ ap (λ l. x.clauses ++ l) second.2),
      )
  again (parallel a b) cs n h m e =
      let s = stays false a in
      let x = lifted own vars line a [] (number_inside s n) in
      let xs = raised_unless own vars line s n x in
      let u = lifted names vars line a [] (number_inside s m) in
      let us = raised_unless names vars line s m u in
      let r = stays true b in
      let y = lifted own vars line b [] (number_inside r xs.next) in
      let ys = raised_unless own vars line r xs.next y in
      let v = lifted names vars line b [] (number_inside r us.next) in
      let vs = raised_unless names vars line r us.next v in
      let p : n ≤ xs.next = (unless_numbers own vars line s n x (rises own vars line a [] (number_inside s n)) (numbers own vars line a [] (number_inside s n))).0 in
      let q : xs.next ≤ ys.next = (unless_numbers own vars line r xs.next y (rises own vars line b [] (number_inside r xs.next)) (numbers own vars line b [] (number_inside r xs.next))).0 in
      let h1 : Agree n xs.next = λ i l o. h i l (omega arith) in
      let h2 : Agree xs.next ys.next = λ i l o. h i (omega arith) o in
      let first = unless_again s n m x u e h1 (rises own vars line a [] (number_inside s n)) (again a [] (number_inside s n) (agree_inside s n x h1) (number_inside s m) (inside_again s n m e)) in
      let second
      = unless_again r xs.next us.next y v first.1 h2 (rises own vars line b [] (number_inside r xs.next))
      (again b [] (number_inside r xs.next) (agree_inside r xs.next y h2) (number_inside r us.next) (inside_again r xs.next us.next first.1))
      in (
        ap (λ l. group cs (append_trees (plain_goals l) (plain_goals vs.parts)) ∷ []) first.0 ∙ ap (λ l. group cs (append_trees (plain_goals xs.parts) (plain_goals l)) ∷ []) second.0,
        second.1,
        ap (λ l. l ++ vs.clauses) first.2 ∙ ap (λ l. xs.clauses ++ l) second.2,
      )
  again (conditional ds b) cs n h m e = again b (checks_of ds) n h m e

pub again_if : (names own : ℕ → ℕ) (k vars line : ℕ) (b : Option Body) (n : ℕ) → Agree names own k vars line n (lifted_if own vars line b n).next → (m : ℕ) → m ≡ k + n
    → IsAgain names own k vars line (lifted_if own vars line b n) (lifted_if names vars line b m)
again_if names own k vars line None n h m e = (refl, e, refl)
again_if names own k vars line (Some b) n h m e = again names own k vars line b [] n h m e

rules_again : (names own : ℕ → ℕ) (rs : List Rule) (n : ℕ) → ((i : ℕ) → n ≤ i → i < n + predicates_in rs → names i ≡ own i) → lifted_rules names rs n ≡ lifted_rules own rs n
rules_again names own [] n h = refl
rules_again names own (r ∷ rs) n h =
    let x = lifted_rule own r n in
    let y = lifted_rule names r n in
    let next = next-lifted_rule own r n in
    let same = again_if names own 0 r.vars r.line r.body n (λ i a b. ap names (omega arith) ∙ h i a (omega (arith, next))) n (omega arith) in
    let on : y.next ≡ x.next = omega (arith, same.1) in
    let rest = ap (lifted_rules names rs) on ∙ rules_again names own rs x.next (λ i a b. h i (omega (arith, next)) (omega (arith, next))) in
    ap (λ l. record { clauses = clause_of r y.parts ∷ l.clauses; lifted = y.clauses ++ l.lifted }) rest
    ∙ ap (λ ps. record { clauses = clause_of r ps ∷ (lifted_rules own rs x.next).clauses; lifted = y.clauses ++ (lifted_rules own rs x.next).lifted }) same.0
    ∙ ap (λ cs. record { clauses = clause_of r x.parts ∷ (lifted_rules own rs x.next).clauses; lifted = cs ++ (lifted_rules own rs x.next).lifted }) same.2

pub program_again : (names own : ℕ → ℕ) (rs : List Rule) → ((i : ℕ) → i < predicates_in rs → names i ≡ own i) → lifted_program names rs ≡ lifted_program own rs
program_again names own rs h = ap (λ l. l.clauses ++ l.lifted) (rules_again names own rs 0 (λ i a b. h i (omega (arith, b))))
