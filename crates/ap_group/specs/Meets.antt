-- Places whose terms are those of an answer.
use Rattle.std.specs.Prelude.{◌≡◌, ℕ, List, [], ◌∷◌}
use Rattle.std.specs.List.{AllByRecursion}
use Rattle.ap_term.specs.Tree.{Tree, Trees}
use Rattle.ap_term.specs.Substitution.{instance_all}
use Rattle.ap_group.specs.Groups.{Pushed}
use Rattle.ap_group.specs.Turns.{IsInside}
use Rattle.ap_term.specs.Tuples.{tuple_under}

-- under the map the places' terms are an instance of the tuple, whose variables have no name here
abbrev pub IsInstance : List ℕ → Trees → (ℕ → Tree) → Type 0
IsInstance places ts k = (h : ℕ → Tree) × (tuple_under k places ≡ instance_all h ts)

-- each goal's arguments are an instance of its answer
abbrev pub MeetAll : List Pushed → List Trees → (ℕ → Tree) → Type 0
MeetAll [] [] k = Unit {0}
MeetAll (p ∷ ps) (t ∷ ts) k = IsInstance p.arguments t k × MeetAll ps ts k
MeetAll [] (t ∷ ts) k = ⊥
MeetAll (p ∷ ps) [] k = ⊥

-- each goal's arguments are some of the first n places
abbrev pub AreInside : ℕ → List Pushed → Type 0
AreInside n ps = AllByRecursion (IsInside n) ps
