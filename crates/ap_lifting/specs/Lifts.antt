-- What lifting does to the places of lifted clauses.
use Rattle.std.specs.Prelude.{◌≡◌, List, [], ◌∷◌, ◌++◌, map, Option, None, Some}
use Rattle.ap_lifting.specs.declared.lifter.Raised.{Raised}
use Rattle.ap_lifting.specs.Lifted.{Lifted}

pub record Lifts (x : Lifted) (old new : Raised) : Type 0 where
  pub next : new.next ≡ x.next
  pub clauses : new.clauses.items ≡ old.clauses.items ++ map Some x.clauses

-- what stands in places
abbrev pub values : {A : Type 0} → List (Option A) → List A
values [] = []
values (None ∷ xs) = values xs
values (Some x ∷ xs) = x ∷ values xs
