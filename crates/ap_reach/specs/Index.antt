-- The clauses that stand in an index for what is called.
use Rattle.std.specs.Prelude.{◌≡◌, ℕ, true, List, [], ◌∷◌, map, Option, Some, None}
use Rattle.std.specs.List.{list_any}
use Rattle.indexmap.specs.IndexMap.{IndexMap, get}
use Rattle.indexmap.specs.IndexSet.{IndexSet}
use Rattle.ap_term.specs.Goals.{Program}
use Rattle.ap_reach.specs.declared.called.Called.{Called}
use Rattle.ap_reach.specs.declared.predicates.Own.{Own}
use Rattle.ap_reach.specs.declared.predicates.Own.TheVariants as own
use Rattle.ap_reach.specs.Reached.{Key, is_key, Place, is_place, is_called, has_call, key_of, place_of, is_near, is_open, clauses_for}

-- the clauses that are called together
abbrev pub clauses_of : Own → Program
clauses_of own.None = []
clauses_of (own.One c) = c.now ∷ []
clauses_of (own.Several list) = map (λ c. c.now) list.value.items

-- none where there is no key
abbrev pub found : Option Own → Program
found None = []
found (Some o) = clauses_of o

abbrev pub clauses_at : {S : Type 0} → IndexMap Called Own S → Called → Program
clauses_at m k = found (get is_called m k)

-- the index has the clauses of the program, those for a constant where that is at one of the first places
abbrev pub Indexes : {S : Type 0} → IndexMap Called Own S → Program → Type 0
Indexes m p = (k : Called) → is_near k ≡ true → clauses_at m k ≡ clauses_for k p

-- the set has the places at which a clause of a predicate has a variable
abbrev pub AreOpen : {S : Type 0} → IndexSet Place S → Program → Type 0
AreOpen s p = (k : Place) → list_any (is_place k) s.keys ≡ is_open k p

-- the place of a constant is the one that its predicate has in a table
abbrev pub IsPlacedIn : {S : Type 0} → IndexMap Key ℕ S → Called → Type 0
IsPlacedIn m k = (i : ℕ) → place_of k ≡ Some i → get is_key m (key_of k) ≡ Some i

abbrev pub ArePlacedIn : {S : Type 0} → IndexMap Key ℕ S → List Called → Type 0
ArePlacedIn m ks = (k : Called) → has_call ks k ≡ true → IsPlacedIn m k
