-- Lifting keeps a program's meaning.
use Rattle.std.proofs.Common.{◌≡◌, ℕ, ◌+◌, ◌<◌, ◌≤◌, Bool, true, false, List, [], ◌∷◌, ◌++◌, refl, ap, sym, ◌∙◌, subst, append-nil, arith, Option, Some, None}
use Rattle.std.specs.List.{AllZip, AllByRecursion, flat_map, list_all, All}
use Rattle.std.proofs.lemmas.Bool.{false≢true, and_parts}
use Rattle.std.proofs.lemmas.List.Elements.{All-nil, All-cons, All-append}
use Rattle.ap_term.specs.declared.fixed.TheConstants.{COUNT}
use Rattle.ap_term.specs.declared.clauses.Check.{Check}
use Rattle.ap_term.specs.Tree.{Tree, var, int, atom, node}
use Rattle.ap_term.specs.Goals.{Program}
use Rattle.ap_term.specs.WellFormed.{IsClause, IsProgram, callable, well_formed_part}
use Rattle.ap_term.specs.Search.{clause_way}
use Rattle.ap_term.proofs.Solutions.{same_test}
use Rattle.ap_term.proofs.Zips.{AllByRecursion-append, AllByRecursion-weaken}
use Rattle.ap_lifting.specs.Body.{Body, goal, conjunction, disjunction, parallel, conditional, numbered_condition, well_formed}
use Rattle.ap_lifting.specs.Rule.{Rule, IsRule, well_formed_if}
use Rattle.ap_lifting.specs.Lifted.{Lifted, stays, number_inside, raised_unless, lifted, lifted_clause, checks_of, clause_of, lifted_rule, lifted_rules, lifted_program, lifted_if}
use Rattle.ap_lifting.specs.LiftingLaws.{is_named, clauses_named, AreFresh, AvoidsIf}
use Rattle.ap_lifting.specs.Shown.{IsOrdinary}
use Rattle.ap_lifting.specs.Sizes.{predicates_in}
use Rattle.ap_lifting.proofs.Kept.{parts_kept, clause_kept, if_kept}
use Rattle.ap_lifting.proofs.Filled.{next-lifted_rule}
use Rattle.ap_lifting.proofs.LiftedCalls.{selected}
use Rattle.ap_lifting.proofs.LiftedPrograms.{clauses_named-append, none_named, another_name, InNumbers, wider, Has, has_first, has_second, numbers_if, shows_if}
use Rattle.ap_lifting.proofs.Simulation.{IsLiftedTo, IsLiftedFrom}

-- ---- the lifted clauses are well formed

module _ (names : ℕ → ℕ) (vars line : ℕ) (few : vars ≤ 255) where
  unless_program : (s : Bool) (n : ℕ) (x : Lifted) → list_all (well_formed_part vars) x.parts ≡ true → All IsClause x.clauses → All IsClause (raised_unless names vars line s n x).clauses
  unless_program true n x h k = k
  unless_program false n x h k = All-cons IsClause (lifted_clause names vars line n x.parts) x.clauses (clause_kept names vars line few n x.parts h) k

  pub lifted_kept : (b : Body) (cs : List Check) (n : ℕ) → well_formed vars b ≡ true → All IsClause (lifted names vars line b cs n).clauses
  lifted_kept (goal t) cs n h = All-nil IsClause
  lifted_kept (conjunction a b) cs n h =
      let x = lifted names vars line a [] n in
      All-append IsClause x.clauses (lifted names vars line b [] x.next).clauses (lifted_kept a [] n (and_parts (well_formed vars a) (well_formed vars b) h).0)
      (lifted_kept b [] x.next (and_parts (well_formed vars a) (well_formed vars b) h).1)
  lifted_kept (disjunction a b) cs n h =
      let x = lifted names vars line a [] (n + 1) in
      let y = lifted names vars line b [] x.next in
      let ha = (and_parts (well_formed vars a) (well_formed vars b) h).0 in
      let hb = (and_parts (well_formed vars a) (well_formed vars b) h).1 in
      All-cons IsClause (lifted_clause names vars line n x.parts) (lifted_clause names vars line n y.parts ∷ (x.clauses ++ y.clauses))
      (clause_kept names vars line few n x.parts (parts_kept names vars line few a [] (n + 1) ha refl))
      (All-cons IsClause (lifted_clause names vars line n y.parts) (x.clauses ++ y.clauses) (clause_kept names vars line few n y.parts (parts_kept names vars line few b [] x.next hb refl))
      (All-append IsClause x.clauses y.clauses (lifted_kept a [] (n + 1) ha) (lifted_kept b [] x.next hb)))
  lifted_kept (parallel a b) cs n h =
      let s = stays false a in
      let x = lifted names vars line a [] (number_inside s n) in
      let u = raised_unless names vars line s n x in
      let r = stays true b in
      let y = lifted names vars line b [] (number_inside r u.next) in
      let ha = (and_parts (well_formed vars a) (well_formed vars b) h).0 in
      let hb = (and_parts (well_formed vars a) (well_formed vars b) h).1 in
      All-append IsClause u.clauses (raised_unless names vars line r u.next y).clauses
      (unless_program s n x (parts_kept names vars line few a [] (number_inside s n) ha refl) (lifted_kept a [] (number_inside s n) ha))
      (unless_program r u.next y (parts_kept names vars line few b [] (number_inside r u.next) hb refl) (lifted_kept b [] (number_inside r u.next) hb))
  lifted_kept (conditional ds b) cs n h = lifted_kept b (checks_of ds) n (and_parts (list_all (numbered_condition vars) ds) (well_formed vars b) h).1

pub lifted_kept_if : (names : ℕ → ℕ) (vars line : ℕ) → vars ≤ 255 → (b : Option Body) (n : ℕ) → well_formed_if vars b ≡ true → All IsClause (lifted_if names vars line b n).clauses
lifted_kept_if names vars line few None n h = All-nil IsClause
lifted_kept_if names vars line few (Some b) n h = lifted_kept names vars line few b [] n h

pub rule_clause : (names : ℕ → ℕ) (r : Rule) (n : ℕ) → IsRule r → IsClause (clause_of r (lifted_rule names r n).parts)
rule_clause names r n ok = record { few = ok.few; head = ok.head; body = if_kept names r.vars r.line ok.few r.body n ok.body }

pub main_kept : (names : ℕ → ℕ) (rs : List Rule) (n : ℕ) → AllByRecursion IsRule rs → All IsClause (lifted_rules names rs n).clauses
main_kept names [] n h = All-nil IsClause
main_kept names (r ∷ rs) n h =
    let x = lifted_rule names r n in
    All-cons IsClause (clause_of r x.parts) (lifted_rules names rs x.next).clauses (rule_clause names r n h.0) (main_kept names rs x.next h.1)

pub all_kept : (names : ℕ → ℕ) (rs : List Rule) (n : ℕ) → AllByRecursion IsRule rs → All IsClause (lifted_rules names rs n).lifted
all_kept names [] n h = All-nil IsClause
all_kept names (r ∷ rs) n h =
    let x = lifted_rule names r n in
    All-append IsClause x.clauses (lifted_rules names rs x.next).lifted (lifted_kept_if names r.vars r.line h.0.few r.body n h.0.body) (all_kept names rs x.next h.1)

-- ---- the clauses of all rules

pub rules_numbers : (names : ℕ → ℕ) (rs : List Rule) (n : ℕ) → AllByRecursion (InNumbers names n (n + predicates_in rs)) (lifted_rules names rs n).lifted
rules_numbers names [] n = tt
rules_numbers names (r ∷ rs) n =
    let x = lifted_rule names r n in
    let next = next-lifted_rule names r n in
    AllByRecursion-append (InNumbers names n (n + predicates_in (r ∷ rs))) x.clauses (lifted_rules names rs x.next).lifted
    (wider names n x.next n (n + predicates_in (r ∷ rs)) (omega arith) (omega (arith, next)) x.clauses (numbers_if names r.vars r.line r.body n))
    (wider names x.next (x.next + predicates_in rs) n (n + predicates_in (r ∷ rs)) (omega (arith, next)) (omega (arith, next)) (lifted_rules names rs x.next).lifted (rules_numbers names rs x.next))

main_named : (a : ℕ) (names : ℕ → ℕ) (rs : List Rule) (n : ℕ) → AllByRecursion (λ r. is_named a r.head ≡ false) rs → AllByRecursion (λ c. is_named a c.head ≡ false) (lifted_rules names rs n).clauses
main_named a names [] n h = tt
main_named a names (r ∷ rs) n h = (h.0, main_named a names rs (lifted_rule names r n).next h.1)

name_found : (t : Tree) → callable t ≡ true → (a : ℕ) × (is_named a t ≡ true)
name_found (var x) h = absurd (false≢true h)
name_found (int z) h = absurd (false≢true h)
name_found (atom a) h = (a, same_test a a refl)
name_found (node a ts) h = (a, same_test a a refl)

module _ (names : ℕ → ℕ) (count : ℕ) (p : Program) (apart : (i j : ℕ) → i < count → j < count → names i ≡ names j → i ≡ j) (fixed : (i : ℕ) → i < count → COUNT ≤ names i) where
  rules_lifted : (rs : List Rule) (n : ℕ) → AllByRecursion IsRule rs → ((i : ℕ) → i < count → AllByRecursion (λ r. AvoidsIf (names i) r.body) rs) → n + predicates_in rs ≤ count
      → Has names count apart p fixed n (n + predicates_in rs) (lifted_rules names rs n).lifted → AllZip (IsLiftedTo names count p) rs (lifted_rules names rs n).clauses
  rules_lifted [] n ok free m h = tt
  rules_lifted (r ∷ rs) n ok free m h =
      let x = lifted_rule names r n in
      let next = next-lifted_rule names r n in
      let hi = n + predicates_in (r ∷ rs) in
      let L = (lifted_rules names rs x.next).lifted in
      let low : n ≤ x.next = omega (arith, next) in
      let up : x.next ≤ hi = omega (arith, next) in
      let same : x.next + predicates_in rs ≡ hi = omega (arith, next) in
      let behind : AllByRecursion (InNumbers names x.next hi) L = subst (λ k. AllByRecursion (InNumbers names x.next k) L) same (rules_numbers names rs x.next) in (
        record {
          head = refl;
          vars = refl;
          body =
              shows_if names count apart p fixed r.vars r.line r.body n ok.0.body (λ i l. (free i l).0) (omega (arith, next, m))
              (has_first names count apart p fixed n x.next hi x.clauses L m up behind h);
        },
        rules_lifted rs x.next ok.1 (λ i l. (free i l).1) (omega (arith, same, m))
            (subst (λ k. Has names count apart p fixed x.next k L) (sym same)
            (has_second names count apart p fixed n x.next hi x.clauses L m low (numbers_if names r.vars r.line r.body n) h)),
      )

-- a program with the same clauses of each name as the lifted one
module _ (names : ℕ → ℕ) (count : ℕ) (rs : List Rule) (p : Program) (good : IsProgram p) (ok : AllByRecursion IsRule rs) (fresh : AreFresh names count rs) (enough : predicates_in rs ≤ count) (same : (a : ℕ) → clauses_named a p ≡ clauses_named a (lifted_program names rs)) where
  abbrev M : Program
  M = (lifted_rules names rs 0).clauses

  abbrev L : Program
  L = (lifted_rules names rs 0).lifted

  pub has_all : Has names count fresh.apart p fresh.fixed 0 (0 + predicates_in rs) L
  has_all i a b =
      same (names i) ∙ clauses_named-append (names i) M L
      ∙ ap (λ l. l ++ clauses_named (names i) L) (none_named (names i) M (main_named (names i) names rs 0 (fresh.heads i (omega arith))))

  selects : (n : ℕ) (t : Tree) → IsOrdinary names count p t → flat_map (clause_way n t) p ≡ flat_map (clause_way n t) M
  selects n t h =
      let found = name_found t h.callable in
      let a = found.0 in
      let none_lifted : clauses_named a L ≡ []
      = none_named a L
      (AllByRecursion-weaken (InNumbers names 0 (0 + predicates_in rs)) (λ c. is_named a c.head ≡ false)
      (λ c k. another_name a (names k.0) c.head k.3 (λ e. false≢true (sym (h.other k.0 (omega (arith, k.2))) ∙ ap (λ b. is_named b t) e ∙ found.1))) L (rules_numbers names rs 0))
      in
      selected n a t found.1 p good
      ∙ ap (flat_map (clause_way n t)) (same a ∙ clauses_named-append a M L ∙ ap (λ l. clauses_named a M ++ l) none_lifted ∙ append-nil (clauses_named a M))
      ∙ sym (selected n a t found.1 M (main_kept names rs 0 ok))

  pub lifted_from : IsLiftedFrom names count rs p
  lifted_from = record {
    program = good;
    main = M;
    each = rules_lifted names count p fresh.apart fresh.fixed rs 0 ok fresh.goals (omega arith) has_all;
    selected = selects;
  }
