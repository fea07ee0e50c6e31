-- The variables of a group's goals, a set for each goal.
use Rattle.std.specs.Prelude.{ℕ, Bool, false, ◌||◌, ◌&&◌, nat_lt, if◌then◌else◌, List, [], ◌∷◌, map}
use Rattle.std.specs.List.{filter, list_any}
use Rattle.ap_term.specs.declared.clauses.Check.{Check}
use Rattle.ap_term.specs.declared.clauses.Check.TheVariants.{Indep}
use Rattle.ap_term.specs.Tree.{Trees, none, more}
use Rattle.ap_sharing.specs.VarSet.{has, empty, union, both}
use Rattle.ap_absunify.specs.TermSets.{var_set}
use Rattle.ap_conditions.specs.FullCondition.{numbers}

abbrev pub goal_sets : Trees → List ℕ
goal_sets none = []
goal_sets (more t ts) = var_set t ∷ goal_sets ts

-- whether one of the sets has x
abbrev pub in_one : List ℕ → ℕ → Bool
in_one ss x = list_any (λ s. has s x) ss

-- whether two of the sets have x
abbrev pub in_two : List ℕ → ℕ → Bool
in_two [] x = false
in_two (s ∷ ss) x = (has s x && in_one ss x) || in_two ss x

-- the union of the sets without x
abbrev pub others : List ℕ → ℕ → ℕ
others [] x = empty
others (s ∷ ss) x = union (if has s x then empty else s) (others ss x)

-- x beside each of the partners above it
abbrev pub indeps_with : ℕ → ℕ → List Check
indeps_with partners x = map (Indep x) (filter (λ y. nat_lt x y && has partners y) (numbers 255))

-- a variable of one goal alone beside those of the other goals
abbrev pub indeps_among : List ℕ → ℕ → ℕ → List Check
indeps_among ss alone x = if has alone x then indeps_with (both (others ss x) alone) x else []
