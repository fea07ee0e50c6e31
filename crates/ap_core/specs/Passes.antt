-- Lists of predicates that passes over a program's clauses grow, until they tell each loud goal.
use Rattle.std.specs.Prelude.{◌≡◌, ℕ, ◌+◌, ◌<◌, Bool, true, false, ◌||◌, if◌then◌else◌, List, [], ◌∷◌, ◌++◌, Some}
use Rattle.std.specs.List.{list_any, All}
use Rattle.ap_term.specs.Tree.{Tree, Trees, none, more}
use Rattle.ap_term.specs.Goals.{Part, call, group, Clause, Program, plain_goals}
use Rattle.ap_term.specs.Loud.{Predicate, predicate_of, same_predicate, calls_one, IsLoud}

-- whether a goal's predicate is one of the list
abbrev pub is_listed : List Predicate → Tree → Bool
is_listed qs g = list_any (same_predicate (predicate_of g)) qs

-- whether one of the goals is arithmetic, or of a listed predicate
abbrev pub some_calls : List Predicate → Trees → Bool
some_calls qs none = false
some_calls qs (more t ts) = calls_one qs t || some_calls qs ts

abbrev pub calls_in : List Predicate → Part → Bool
calls_in qs (call t) = calls_one qs t
calls_in qs (group cs ts) = some_calls qs ts

-- the goals of each listed predicate are loud
abbrev pub AreLoud : Program → List Predicate → Type 0
AreLoud p qs = (g : Tree) → is_listed qs g ≡ true → IsLoud p g

-- a clause whose body has such a goal is one of a listed predicate
abbrev pub IsClosed : List Predicate → Clause → Type 0
IsClosed qs c = some_calls qs (plain_goals c.body) ≡ true → is_listed qs c.head ≡ true

-- how many clauses have a predicate that isn't listed
abbrev pub unlisted : List Predicate → Program → ℕ
unlisted qs [] = 0
unlisted qs (c ∷ p) = (if is_listed qs c.head then 0 else 1) + unlisted qs p

-- the predicate of a clause that isn't
abbrev pub IsMissing : List Predicate → Clause → Predicate → Type 0
IsMissing qs c q = (predicate_of c.head ≡ Some q) × (is_listed qs c.head ≡ false) × (some_calls qs (plain_goals c.body) ≡ true)

-- whether the predicate of a clause was added
abbrev pub Adds : Clause → Bool → List Predicate → List Predicate → Type 0
Adds c true old new = (q : Predicate) × (IsMissing old c q × (new ≡ old ++ q ∷ []))
Adds c false old new = (new ≡ old) × IsClosed old c

-- whether a pass over some clauses of a program has added a predicate: then fewer of its clauses are unlisted
abbrev pub Passes : Program → Program → Bool → List Predicate → List Predicate → Type 0
Passes p cs true old new = unlisted new p < unlisted old p
Passes p cs false old new = (new ≡ old) × All (IsClosed old) cs
