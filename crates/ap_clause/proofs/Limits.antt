-- Numbers that 64 bits hold or not, against limits that they hold.
use Rattle.std.proofs.Common.{◌≡◌, ℕ, ◌+◌, ◌-◌, ◌^◌, ◌<◌, ◌≤◌, Bool, true, false, max, length, Option, Some, None, refl, sym, ap, ◌∙◌, arith}
use Rattle.std.specs.Prelude.{nat_lt, not}
use Rattle.ap_term.specs.Tree.{Tree}
use Rattle.std.proofs.lemmas.Bool.Decides.{nat_tests}
use Rattle.std.proofs.lemmas.Bool.{ltb-false, le-ltb}
use Rattle.ap_lifting.specs.Rule.{Rule}
use Rattle.ap_lifting.specs.declared.sizes.Sizes.{Sizes}
use Rattle.ap_lifting.specs.Sizes.{held, AreSizesOf, count_goals, largest_group, most_goals, largest_group_in}
use Rattle.ap_clause.specs.declared.refusal.What.{What}
use Rattle.ap_clause.specs.declared.refusal.What.TheVariants as what
use Rattle.ap_clause.specs.declared.source.Source.{Source}
use Rattle.ap_clause.specs.declared.limit.TheConstants.{MAX_VARIABLES, MAX_GOALS, MAX_GROUP, MAX_CLAUSES}
use Rattle.ap_clause.specs.Limit.{over, own_clauses, outcome, clauses_after, is_narrow, passed_sizes, passed_lifted, passed}

held_test : (m n h : ℕ) → h ≡ held n → m < 2 ^ 64 - 1 → nat_lt m h ≡ nat_lt m n
held_test m n h e k = grind (arith, nat_tests)

pub sizes_same : (goals group sum g m c : ℕ) → goals ≡ held g → group ≡ held m → sum ≡ held c → passed_sizes goals group sum ≡ passed_sizes g m c
sizes_same goals group sum g m c e f k =
    ap (λ b. over b what.Goals (over (nat_lt MAX_GROUP group) what.Group (over (nat_lt MAX_CLAUSES sum) what.Clauses None))) (held_test MAX_GOALS g goals e (omega arith))
    ∙ ap (λ b. over (nat_lt MAX_GOALS g) what.Goals (over b what.Group (over (nat_lt MAX_CLAUSES sum) what.Clauses None))) (held_test MAX_GROUP m group f (omega arith))
    ∙ ap (λ b. over (nat_lt MAX_GOALS g) what.Goals (over (nat_lt MAX_GROUP m) what.Group (over b what.Clauses None))) (held_test MAX_CLAUSES c sum k (omega arith))

pub over_none : (b : Bool) (w : What) (rest : Option What) → over b w rest ≡ None → (b ≡ false) × (rest ≡ None)
over_none true w rest h = absurd (clash h)
  where
    clash : Some w ≡ None → ⊥
    clash k = cc
over_none false w rest h = (refl, h)

within : (m n h : ℕ) → h ≡ held n → nat_lt m h ≡ false → m < 2 ^ 64 - 1 → h ≡ n
within m n h e k l = of (ltb-false m h k)
  where
    of : h ≤ m → h ≡ n
    of q = omega arith

pub sizes_exact : (goals group sum c : ℕ) → sum ≡ held c → passed_sizes goals group sum ≡ None → sum ≡ c
sizes_exact goals group sum c k h =
    let first = over_none (nat_lt MAX_GOALS goals) what.Goals (over (nat_lt MAX_GROUP group) what.Group (over (nat_lt MAX_CLAUSES sum) what.Clauses None)) h in
    let second = over_none (nat_lt MAX_GROUP group) what.Group (over (nat_lt MAX_CLAUSES sum) what.Clauses None) first.1 in
    within MAX_CLAUSES c sum k (over_none (nat_lt MAX_CLAUSES sum) what.Clauses None second.1).0 (omega arith)

pub sum_held : (source : Source) (r : Rule) (before : ℕ) (s : Sizes) (own sum : ℕ) → AreSizesOf 0 (outcome r) s → own ≡ held (own_clauses source + s.clauses) → sum ≡ held (before + own) → sum ≡ held (clauses_after source r before)
sum_held source r before s own sum h e f = of (own_clauses source) (length (outcome r).clauses) s.clauses h.clauses e f
  where
    of : (a n c : ℕ) → c ≡ held n → own ≡ held (a + c) → sum ≡ held (before + own) → sum ≡ held (before + (a + n))
    of a n c p q t = omega arith

pub lifted_same : (source : Source) (r : Rule) (before : ℕ) (s : Sizes) (sum : ℕ) → AreSizesOf 0 (outcome r) s → sum ≡ held (clauses_after source r before) → passed_sizes s.goals s.group sum ≡ passed_lifted source r before
lifted_same source r before s sum h k =
    let x = outcome r in
    sizes_same s.goals s.group sum (max (count_goals x.parts) (most_goals x.clauses)) (max (largest_group x.parts) (largest_group_in x.clauses)) (clauses_after source r before) h.goals h.group k

-- what is found of the sizes of a clause that has few variables and arguments is the first limit that it passes
pub limited_passed : (source : Source) (t : Tree) (r : Rule) (before : ℕ) (s : Sizes) (own sum : ℕ) (found : Option What) → r.vars ≤ MAX_VARIABLES → is_narrow t ≡ true → AreSizesOf 0 (outcome r) s
    → own ≡ held (own_clauses source + s.clauses) → sum ≡ held (before + own) → found ≡ passed_sizes s.goals s.group sum → passed source t r before ≡ found
limited_passed source t r before s own sum found few narrow h e f g =
    ap (λ b. over b what.Variables (over (not (is_narrow t)) what.Arity (passed_lifted source r before))) (le-ltb MAX_VARIABLES r.vars few)
    ∙ ap (λ b. over (not b) what.Arity (passed_lifted source r before)) narrow
    ∙ sym (lifted_same source r before s sum h (sum_held source r before s own sum h e f)) ∙ sym g

pub limited_exact : (source : Source) (r : Rule) (before : ℕ) (s : Sizes) (own sum : ℕ) → AreSizesOf 0 (outcome r) s → own ≡ held (own_clauses source + s.clauses) → sum ≡ held (before + own) → passed_sizes s.goals s.group sum ≡ None
    → sum ≡ clauses_after source r before
limited_exact source r before s own sum h e f g = sizes_exact s.goals s.group sum (clauses_after source r before) (sum_held source r before s own sum h e f) g
