-- Sets of sets of variables, seen as lists of sets that ascend as numbers: each set stands once, so two lists with
-- the same members are one list.
use Rattle.std.specs.Prelude.{◌≡◌, ℕ, Bool, false, ◌||◌, nat_eq, nat_lt, ◌⊎◌, List, [], ◌∷◌, map, length}
use Rattle.std.specs.Ordering.{nat_cmp}
use Rattle.std.specs.List.{flat_map}
use Rattle.std.specs.List.Sorted.{IsStrictlySortedBy}
use Rattle.std.specs.BTreeSet.{insert_key}
use Rattle.ap_sharing.specs.VarSet.{has, empty, union}

-- some set of the list has the property
abbrev pub In : (ℕ → Type 0) → List ℕ → Type 0
In P [] = ⊥
In P (s ∷ ss) = P s ⊎ In P ss

-- s has exactly what passes
abbrev pub Is : ℕ → (ℕ → Bool) → Type 0
Is s p = (x : ℕ) → has s x ≡ p x

-- whether the set is in the list
abbrev pub listed : ℕ → List ℕ → Bool
listed s [] = false
listed s (t ∷ ts) = nat_eq s t || listed s ts

-- each set is below those after it
abbrev pub IsAscending : List ℕ → Type 0
IsAscending = IsStrictlySortedBy nat_cmp

-- the sets with s put in at its place
abbrev pub insert_set : List ℕ → ℕ → List ℕ
insert_set = insert_key nat_cmp

-- the first sets, with the others put in
abbrev pub join_sets : List ℕ → List ℕ → List ℕ
join_sets ss [] = ss
join_sets ss (t ∷ ts) = join_sets (insert_set ss t) ts

-- the sets of any list
abbrev pub sets_of : List ℕ → List ℕ
sets_of ts = join_sets [] ts

-- the union of all
abbrev pub all_of : List ℕ → ℕ
all_of [] = empty
all_of (s ∷ ss) = union s (all_of ss)

-- the unions of s and one of the others
abbrev pub with_each : ℕ → List ℕ → List ℕ
with_each s ts = map (union s) ts

-- all unions of one of the first and one of the second
abbrev pub pairs : List ℕ → List ℕ → List ℕ
pairs ss ts = sets_of (flat_map (λ s. with_each s ts) ss)

-- the sets, s, and the unions of s and one of the sets
abbrev pub grown : List ℕ → ℕ → List ℕ
grown ss s = join_sets (insert_set ss s) (with_each s ss)

abbrev pub grown_all : List ℕ → List ℕ → List ℕ
grown_all ss [] = ss
grown_all ss (t ∷ ts) = grown_all (grown ss t) ts

-- all unions of one or more of the sets: the least list that has them and is closed under union
abbrev pub closure : List ℕ → List ℕ
closure ts = grown_all [] ts

-- whether these are more sets than a state holds
abbrev pub too_many : List ℕ → Bool
too_many ss = nat_lt 4096 (length ss)
