-- A group's full condition as a list: `ground` by number of variable, then `indep(x,y)` with x below y, sorted.
use Rattle.std.specs.Prelude.{ℕ, zero, suc, Bool, not, ◌&&◌, nat_lt, List, [], ◌∷◌, ◌++◌, map}
use Rattle.std.specs.List.{filter, flat_map}
use Rattle.ap_term.specs.declared.clauses.Check.{Check}
use Rattle.ap_term.specs.declared.clauses.Check.TheVariants.{Ground, Indep}
use Rattle.ap_term.specs.Tree.{Trees}
use Rattle.ap_term.specs.Independence.{shared, of_two_goals}

-- the numbers from 1 to n
unfoldable pub numbers : ℕ → List ℕ
numbers zero = []
numbers (suc n) = numbers n ++ suc n ∷ []

-- whether x, the lower one, and y stand in two goals, each in one alone
abbrev pub is_pair : Trees → ℕ → ℕ → Bool
is_pair goals x y = nat_lt x y && (not (shared x goals) && (not (shared y goals) && of_two_goals x y goals))

abbrev pub grounds : Trees → List Check
grounds goals = map Ground (filter (λ x. shared x goals) (numbers 255))

abbrev pub indeps_of : Trees → ℕ → List Check
indeps_of goals x = map (Indep x) (filter (is_pair goals x) (numbers 255))

abbrev pub full_condition : Trees → List Check
full_condition goals = grounds goals ++ flat_map (indeps_of goals) (numbers 255)
