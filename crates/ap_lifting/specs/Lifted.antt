-- Lifting: the parts of a body, and the clauses of the predicates that stand in the place of what no part can be.
pub use Rattle.ap_term.specs.Tuples.{applied}
use Rattle.std.specs.Prelude.{ℕ, ◌+◌, Bool, true, false, if◌then◌else◌, min, max, List, [], ◌∷◌, ◌++◌, Option, Some, None}
use Rattle.std.specs.List.{flat_map}
use Rattle.ap_term.specs.declared.clauses.Check.{Check}
use Rattle.ap_term.specs.declared.clauses.Check.TheVariants.{Ground as IsGround, Indep as AreIndep}
use Rattle.ap_term.specs.Tree.{Tree, append_trees}
use Rattle.ap_term.specs.Goals.{Part, call, group, Clause, Program, plain_goals}
use Rattle.ap_term.specs.Search.{variables}
use Rattle.ap_lifting.specs.declared.bodies.Condition.{Condition}
use Rattle.ap_lifting.specs.declared.bodies.Condition.TheVariants.{True, Ground, Indep}
use Rattle.ap_lifting.specs.Body.{Body, goal, conjunction, disjunction, parallel, conditional}
use Rattle.ap_lifting.specs.Rule.{Rule}

-- `true` is no check, and of two variables the one with the smaller number comes first
abbrev pub check_of : Condition → List Check
check_of True = []
check_of (Ground x) = IsGround x ∷ []
check_of (Indep x y) = AreIndep (min x y) (max x y) ∷ []

abbrev pub checks_of : List Condition → List Check
checks_of cs = flat_map check_of cs

-- what a body becomes: its parts, the number of the first lifted predicate that isn't used yet, and what was lifted
pub record Lifted : Type 0 where
  pub parts : List Part
  pub next : ℕ
  pub clauses : List Clause

-- an operand of & that is one goal of the group: a goal, or a disjunction, which becomes one
abbrev pub is_one_goal : Body → Bool
is_one_goal (goal t) = true
is_one_goal (disjunction a b) = true
is_one_goal _ = false

-- an operand of & that isn't lifted; as the last one a group goes on
abbrev pub stays : Bool → Body → Bool
stays is_last (parallel a b) = is_last
stays is_last b = is_one_goal b

-- the first number inside an operand, which has the number n itself where it is lifted
abbrev pub number_inside : Bool → ℕ → ℕ
number_inside stays n = if stays then n else n + 1

abbrev pub in_turn : Lifted → Lifted → Lifted
in_turn a b = record { parts = a.parts ++ b.parts; next = b.next; clauses = a.clauses ++ b.clauses }

-- a group of the goals of its operands
abbrev pub grouped : List Check → Lifted → Lifted → Lifted
grouped cs a b = record { parts = group cs (append_trees (plain_goals a.parts) (plain_goals b.parts)) ∷ []; next = b.next; clauses = a.clauses ++ b.clauses }

-- the names of lifted predicates by their numbers; the number of the clause's variables, and its line
module _ (names : ℕ → ℕ) (vars line : ℕ) where
  -- the call of the n-th lifted predicate, on all variables of the clause
  abbrev pub lifted_goal : ℕ → Tree
  lifted_goal n = applied (names n) (variables vars)

  abbrev pub lifted_clause : ℕ → List Part → Clause
  lifted_clause n parts = record { head = lifted_goal n; body = parts; vars = vars; line = line }

  -- the n-th lifted predicate has two clauses, or one
  abbrev pub either : ℕ → Lifted → Lifted → Lifted
  either n a b = record {
    parts = call (lifted_goal n) ∷ [];
    next = b.next;
    clauses = lifted_clause n a.parts ∷ lifted_clause n b.parts ∷ (a.clauses ++ b.clauses);
  }

  abbrev pub raised : ℕ → Lifted → Lifted
  raised n b = record { parts = call (lifted_goal n) ∷ []; next = b.next; clauses = lifted_clause n b.parts ∷ b.clauses }

  abbrev pub raised_unless : Bool → ℕ → Lifted → Lifted
  raised_unless stays n b = if stays then b else raised n b

  -- a body from the n-th lifted predicate on; the checks are those of the group that it is, where it is one
  abbrev pub lifted : Body → List Check → ℕ → Lifted
  lifted (goal t) cs n = record { parts = call t ∷ []; next = n; clauses = [] }
  lifted (conjunction a b) cs n = let x = lifted a [] n in in_turn x (lifted b [] x.next)
  lifted (disjunction a b) cs n = let x = lifted a [] (n + 1) in either n x (lifted b [] x.next)
  lifted (parallel a b) cs n =
      let x = raised_unless (stays false a) n (lifted a [] (number_inside (stays false a) n)) in
      grouped cs x (raised_unless (stays true b) x.next (lifted b [] (number_inside (stays true b) x.next)))
  lifted (conditional cs b) _ n = lifted b (checks_of cs) n

  -- an operand of &, which may be the last one: its parts are the goal that it is in the group, or a group that goes on
  abbrev pub operand : Bool → Body → ℕ → Lifted
  operand is_last b n = raised_unless (stays is_last b) n (lifted b [] (number_inside (stays is_last b) n))

-- of a fact nothing is lifted
abbrev pub lifted_if : (ℕ → ℕ) → ℕ → ℕ → Option Body → ℕ → Lifted
lifted_if names vars line None n = record { parts = []; next = n; clauses = [] }
lifted_if names vars line (Some b) n = lifted names vars line b [] n

-- a clause with its body lifted
abbrev pub clause_of : Rule → List Part → Clause
clause_of r parts = record { head = r.head; body = parts; vars = r.vars; line = r.line }

abbrev pub lifted_rule : (ℕ → ℕ) → Rule → ℕ → Lifted
lifted_rule names r n = lifted_if names r.vars r.line r.body n

-- clauses with their bodies lifted, from the n-th lifted predicate on, and what was lifted from them
pub record LiftedRules : Type 0 where
  pub clauses : List Clause
  pub lifted : List Clause

abbrev pub with_rule : Rule → Lifted → LiftedRules → LiftedRules
with_rule r x rest = record { clauses = clause_of r x.parts ∷ rest.clauses; lifted = x.clauses ++ rest.lifted }

abbrev pub lifted_rules : (ℕ → ℕ) → List Rule → ℕ → LiftedRules
lifted_rules names [] n = record { clauses = []; lifted = [] }
lifted_rules names (r ∷ rs) n = let x = lifted_rule names r n in with_rule r x (lifted_rules names rs x.next)

-- the lifted clauses stand after all others
abbrev pub lifted_program : (ℕ → ℕ) → List Rule → Program
lifted_program names rs = let x = lifted_rules names rs 0 in x.clauses ++ x.lifted
