-- Which goals of a lifted program stand for a written body.
use Rattle.std.specs.Prelude.{◌≡◌, ℕ, ◌<◌, ◌≤◌, Bool, true, false, List, [], ◌∷◌, Option, Some, None}
use Rattle.ap_term.specs.declared.fixed.TheConstants.{COUNT}
use Rattle.ap_term.specs.Tree.{Tree, Trees, none, more, append_trees}
use Rattle.ap_term.specs.Substitution.{instance, instance_all}
use Rattle.ap_term.specs.Goals.{Part, Program, plain_goals}
use Rattle.ap_term.specs.WellFormed.{callable}
use Rattle.ap_lifting.specs.Body.{Body, goal, conjunction, disjunction, parallel, conditional}
use Rattle.ap_lifting.specs.Lifted.{stays, lifted_goal, lifted_clause}
use Rattle.ap_lifting.specs.LiftingLaws.{is_named, clauses_named}
use Rattle.ap_lifting.specs.WrittenSearch.{Item, calling, choosing, entering}

-- `count` lifted predicates have names
module _ (names : ℕ → ℕ) (count : ℕ) (p : Program) where
  -- a goal that calls no lifted predicate
  pub record IsOrdinary (t : Tree) : Type 0 where
    pub callable : callable t ≡ true
    pub other : (i : ℕ) → i < count → is_named (names i) t ≡ false

  -- the call of a lifted predicate of one clause, whose body stands for what S says
  pub record IsEntry (S : Trees → Type 0) (t : Tree) : Type 0 where
    pub vars : ℕ
    pub line : ℕ
    pub number : ℕ
    pub fixed : COUNT ≤ names number
    pub args : ℕ → Tree
    pub body : List Part
    pub is : t ≡ instance args (lifted_goal names vars line number)
    pub clauses : clauses_named (names number) p ≡ lifted_clause names vars line number body ∷ []
    pub inside : S (instance_all args (plain_goals body))

  -- of two clauses
  pub record IsChoice (S R : Trees → Type 0) (t : Tree) : Type 0 where
    pub vars : ℕ
    pub line : ℕ
    pub number : ℕ
    pub fixed : COUNT ≤ names number
    pub args : ℕ → Tree
    pub first : List Part
    pub second : List Part
    pub is : t ≡ instance args (lifted_goal names vars line number)
    pub clauses : clauses_named (names number) p ≡ lifted_clause names vars line number first ∷ lifted_clause names vars line number second ∷ []
    pub in_first : S (instance_all args (plain_goals first))
    pub in_second : R (instance_all args (plain_goals second))

  -- one goal of a kind
  abbrev pub Alone : (Tree → Type 0) → Trees → Type 0
  Alone P none = ⊥
  Alone P (more t none) = P t
  Alone P (more t (more u ts)) = ⊥

  abbrev pub InTurn : (Trees → Type 0) → (Trees → Type 0) → Trees → Type 0
  InTurn S R ts = (us : Trees) × (vs : Trees) × (ts ≡ append_trees us vs) × S us × R vs

  abbrev pub Operand : Bool → (Trees → Type 0) → Trees → Type 0
  Operand true S ts = S ts
  Operand false S ts = Alone (IsEntry S) ts

  -- the goals stand for the body
  abbrev pub Shows : Body → Trees → Type 0
  Shows (goal t) ts = Alone (λ u. (u ≡ t) × IsOrdinary t) ts
  Shows (conjunction a b) ts = InTurn (Shows a) (Shows b) ts
  Shows (disjunction a b) ts = Alone (IsChoice (Shows a) (Shows b)) ts
  Shows (parallel a b) ts = InTurn (Operand (stays false a) (Shows a)) (Operand (stays true b) (Shows b)) ts
  Shows (conditional cs b) ts = Shows b ts

  -- a fact has no goal
  abbrev pub ShowsIf : Option Body → Trees → Type 0
  ShowsIf None ts = ts ≡ none
  ShowsIf (Some b) ts = Shows b ts

  abbrev pub ShowsItem : Item → Tree → Type 0
  ShowsItem (calling t) u = (u ≡ t) × IsOrdinary t
  ShowsItem (choosing a b) u = IsChoice (Shows a) (Shows b) u
  ShowsItem (entering b) u = IsEntry (Shows b) u

  abbrev pub ShowsAll : List Item → Trees → Type 0
  ShowsAll [] none = Unit {0}
  ShowsAll (i ∷ is) (more t ts) = ShowsItem i t × ShowsAll is ts
  ShowsAll [] (more t ts) = ⊥
  ShowsAll (i ∷ is) none = ⊥
