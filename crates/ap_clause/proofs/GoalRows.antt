-- Terms that are goals, and rows of goals.
use Rattle.std.proofs.Common.{◌≡◌, ℕ, Bool, true, false, ◌&&◌, List, [], ◌∷◌, ◌++◌, Option, Some, None, not, length, refl, ap, sym, ◌∙◌, arith}
use Rattle.std.proofs.lemmas.Bool.{and_parts}
use Rattle.ap_term.specs.Tree.{Tree, Trees, var, int, atom, node, none, more}
use Rattle.ap_term.specs.Goals.{Part, call}
use Rattle.ap_term.specs.declared.terms.Term.{Term}
use Rattle.ap_term.specs.TermView.{trees_of}
use Rattle.ap_lifting.specs.Body.{Body, goal, conjunction, disjunction, parallel, conditional}
use Rattle.ap_lifting.specs.Row.{called, row_if, row_body}
use Rattle.ap_clause.specs.declared.form.Connective.{Connective}
use Rattle.ap_clause.specs.declared.form.Connective.TheVariants.{And, Or, Par, If, Other}
use Rattle.ap_clause.specs.Arity.{is_pair}
use Rattle.ap_clause.specs.Clause.{connective_at, conditions_in, joined_by, body_in, is_goal, is_row, goals_in}
use Rattle.ap_clause.specs.Outside.{outside_goal, outside_rest, or_else}
use Rattle.ap_clause.proofs.Bodies.{body_in-unpaired, pair_other}

abbrev is_other : Connective → Bool
is_other Other = true
is_other _ = false

-- ---- two terms under a name

joined : (k : Connective) (f : ℕ) (a b : Tree) → connective_at f ≡ k → body_in (node f (more a (more b none))) ≡ joined_by k (node f (more a (more b none))) (conditions_in a) (body_in a) (body_in b)
joined k f a b e = ap (λ c. joined_by c (node f (more a (more b none))) (conditions_in a) (body_in a) (body_in b)) e

pub is_goal-joined : (k : Connective) (f : ℕ) (ts : Trees) (a b : Tree) → connective_at f ≡ k → ts ≡ more a (more b none) → is_other k ≡ false → is_goal (body_in (node f ts)) ≡ false
is_goal-joined k f ts a b e p h = ap (λ us. is_goal (body_in (node f us))) p ∙ ap is_goal (joined k f a b e) ∙ of k h
  where
    t : Tree
    t = node f (more a (more b none))

    of : (c : Connective) → is_other c ≡ false → is_goal (joined_by c t (conditions_in a) (body_in a) (body_in b)) ≡ false
    of And q = refl
    of Or q = refl
    of Par q = refl
    of If q = refl
    of Other q = absurd (cc)

pub is_row-and : (f : ℕ) (ts : Trees) (a b : Tree) → connective_at f ≡ And → ts ≡ more a (more b none) → is_row (body_in (node f ts)) ≡ (is_goal (body_in a) && is_row (body_in b))
is_row-and f ts a b e p = ap (λ us. is_row (body_in (node f us))) p ∙ ap is_row (joined And f a b e)

abbrev is_or : Connective → Bool
is_or Or = true
is_or Par = true
is_or If = true
is_or _ = false

pub is_row-joined : (k : Connective) (f : ℕ) (ts : Trees) (a b : Tree) → connective_at f ≡ k → ts ≡ more a (more b none) → is_or k ≡ true → is_row (body_in (node f ts)) ≡ false
is_row-joined k f ts a b e p h = ap (λ us. is_row (body_in (node f us))) p ∙ ap is_row (joined k f a b e) ∙ of k h
  where
    t : Tree
    t = node f (more a (more b none))

    of : (c : Connective) → is_or c ≡ true → is_row (joined_by c t (conditions_in a) (body_in a) (body_in b)) ≡ false
    of Or q = refl
    of Par q = refl
    of If q = refl
    of And q = absurd (cc)
    of Other q = absurd (cc)

pub is_goal-node : (k : Connective) (f : ℕ) (ts : Trees) → connective_at f ≡ k → (k ≡ Other → ⊥) → not (is_pair ts) ≡ is_goal (body_in (node f ts))
is_goal-node k f none e h = refl
is_goal-node k f (more a none) e h = refl
is_goal-node k f (more a (more b (more c ts))) e h = refl
is_goal-node And f (more a (more b none)) e h = sym (is_goal-joined And f _ a b e refl refl)
is_goal-node Or f (more a (more b none)) e h = sym (is_goal-joined Or f _ a b e refl refl)
is_goal-node Par f (more a (more b none)) e h = sym (is_goal-joined Par f _ a b e refl refl)
is_goal-node If f (more a (more b none)) e h = sym (is_goal-joined If f _ a b e refl refl)
is_goal-node Other f (more a (more b none)) e h = absurd (h refl)

pub is_row-node : (k : Connective) (f : ℕ) (ts : Trees) → connective_at f ≡ k → (k ≡ Other → ⊥) → (k ≡ And → ⊥) → not (is_pair ts) ≡ is_row (body_in (node f ts))
is_row-node k f none e h g = refl
is_row-node k f (more a none) e h g = refl
is_row-node k f (more a (more b (more c ts))) e h g = refl
is_row-node And f (more a (more b none)) e h g = absurd (g refl)
is_row-node Or f (more a (more b none)) e h g = sym (is_row-joined Or f _ a b e refl refl)
is_row-node Par f (more a (more b none)) e h g = sym (is_row-joined Par f _ a b e refl refl)
is_row-node If f (more a (more b none)) e h g = sym (is_row-joined If f _ a b e refl refl)
is_row-node Other f (more a (more b none)) e h g = absurd (h refl)

pub pair_two : (us : List Term) → length us ≡ 2 → true ≡ is_pair (trees_of us)
pair_two [] e = absurd (omega (arith, e))
pair_two (t ∷ []) e = absurd (omega (arith, e))
pair_two (t ∷ (u ∷ [])) e = refl
pair_two (t ∷ (u ∷ (v ∷ us))) e = absurd (omega (arith, e))

pub is_row-unpaired : (f : ℕ) (ts : Trees) (us : List Term) → trees_of us ≡ ts → (length us ≡ 2 → ⊥) → true ≡ is_row (body_in (node f ts))
is_row-unpaired f ts us e h = sym (ap is_row (body_in-unpaired f ts (ap is_pair (sym e) ∙ pair_other us h)))

-- a row that is no conjunction is one goal
pub row-joined : (k : Connective) (f : ℕ) (ts : Trees) → connective_at f ≡ k → (k ≡ And → ⊥) → is_row (body_in (node f ts)) ≡ true → body_in (node f ts) ≡ goal (node f ts)
row-joined k f none e h row = refl
row-joined k f (more a none) e h row = refl
row-joined k f (more a (more b (more c ts))) e h row = refl
row-joined And f (more a (more b none)) e h row = absurd (h refl)
row-joined Or f (more a (more b none)) e h row = let no = is_row-joined Or f _ a b e refl refl in absurd (cc)
row-joined Par f (more a (more b none)) e h row = let no = is_row-joined Par f _ a b e refl refl in absurd (cc)
row-joined If f (more a (more b none)) e h row = let no = is_row-joined If f _ a b e refl refl in absurd (cc)
row-joined Other f (more a (more b none)) e h row = joined Other f a b e

-- ---- the goals of a row

pub goals_in-goal : (t : Tree) → is_goal (body_in t) ≡ true → goals_in (body_in t) ≡ call t ∷ []
goals_in-goal (var x) h = refl
goals_in-goal (int z) h = refl
goals_in-goal (atom a) h = refl
goals_in-goal (node f none) h = refl
goals_in-goal (node f (more a none)) h = refl
goals_in-goal (node f (more a (more b (more c ts)))) h = refl
goals_in-goal (node f (more a (more b none))) h = of (connective_at f) refl
  where
    t : Tree
    t = node f (more a (more b none))

    of : (k : Connective) → connective_at f ≡ k → goals_in (body_in t) ≡ call t ∷ []
    of And e = let no = is_goal-joined And f _ a b e refl refl in absurd (cc)
    of Or e = let no = is_goal-joined Or f _ a b e refl refl in absurd (cc)
    of Par e = let no = is_goal-joined Par f _ a b e refl refl in absurd (cc)
    of If e = let no = is_goal-joined If f _ a b e refl refl in absurd (cc)
    of Other e = ap goals_in (joined Other f a b e)

-- a row of two terms: its first goal, and the row behind that
pub row_parted : (f : ℕ) (a b : Tree) → connective_at f ≡ And → is_row (body_in (node f (more a (more b none)))) ≡ true → (goals_in (body_in (node f (more a (more b none)))) ≡ call a ∷ goals_in (body_in b)) × (is_row (body_in b) ≡ true)
row_parted f a b e row =
    let both = and_parts (is_goal (body_in a)) (is_row (body_in b)) (sym (is_row-and f _ a b e refl) ∙ row) in
    (ap goals_in (joined And f a b e) ∙ ap (λ ps. ps ++ goals_in (body_in b)) (goals_in-goal a both.0), both.1)

with_first : (t : Tree) (ps : List Part) (b : Body) → row_if ps ≡ Some b → row_if (call t ∷ ps) ≡ Some (conjunction (goal t) b)
with_first t [] b e = absurd (cc)
with_first t (p ∷ ps) b e = let same : row_body p ps ≡ b = cc in ap (λ x. Some (conjunction (goal t) x)) same

-- the body that the goals of a row are
pub row_if-goals_in : (b : Body) → is_row b ≡ true → row_if (goals_in b) ≡ Some b
row_if-goals_in (goal t) h = refl
row_if-goals_in (conjunction (goal t) b) h = with_first t (goals_in b) b (row_if-goals_in b h)
row_if-goals_in (conjunction (conjunction a c) b) h = absurd (cc)
row_if-goals_in (conjunction (disjunction a c) b) h = absurd (cc)
row_if-goals_in (conjunction (parallel a c) b) h = absurd (cc)
row_if-goals_in (conjunction (conditional cs a) b) h = absurd (cc)
row_if-goals_in (disjunction a b) h = absurd (cc)
row_if-goals_in (parallel a b) h = absurd (cc)
row_if-goals_in (conditional cs b) h = absurd (cc)

-- ---- names from outside

or_else-none : (o : Option ℕ) → o ≡ or_else o None
or_else-none None = refl
or_else-none (Some a) = refl

outside-first : (p : Part) (ps : List Part) → outside_rest (row_if (p ∷ ps)) ≡ or_else (outside_goal (called p)) (outside_rest (row_if ps))
outside-first p [] = or_else-none (outside_goal (called p))
outside-first p (q ∷ ps) = refl

pub outside-some : (p : Part) (ps : List Part) (name : ℕ) → outside_goal (called p) ≡ Some name → outside_rest (row_if (p ∷ ps)) ≡ Some name
outside-some p ps name e = outside-first p ps ∙ ap (λ o. or_else o (outside_rest (row_if ps))) e

pub outside-none : (p : Part) (ps : List Part) → outside_goal (called p) ≡ None → outside_rest (row_if (p ∷ ps)) ≡ outside_rest (row_if ps)
outside-none p ps e = outside-first p ps ∙ ap (λ o. or_else o (outside_rest (row_if ps))) e

pub ruleset outside_rows = (outside-some, outside-none)
