-- States whose groups say what their texts say, and are safe.
use Rattle.std.specs.Prelude.{◌≡◌, ℕ, ◌↔◌, List}
use Rattle.std.specs.List.{All, AllByRecursion, AllZip}
use Rattle.ap_term.specs.Tree.{Tree}
use Rattle.ap_term.specs.Substitution.{instance}
use Rattle.ap_term.specs.Independence.{Holds}
use Rattle.ap_term.specs.Goals.{Program}
use Rattle.ap_tracked.specs.Tracked.{Goal, call, fork, Tracked, IsOneOf, children}
use Rattle.ap_tracked.specs.Marks.{opening}

-- what has become of a group's checks says what they say
abbrev pub Means : Goal → Type 0
Means (call t) = Unit {0}
Means (fork cs ts own now) = (u : ℕ → Tree) → All (Holds (λ x. instance u (own x))) cs ↔ All (Holds u) now

-- the same goal, whatever has become of a group's checks
abbrev pub SameText : Goal → Goal → Type 0
SameText (call t) (call u) = t ≡ u
SameText (call t) (fork cs ts f now) = ⊥
SameText (fork cs ts f now) (call t) = ⊥
SameText (fork cs ts f now) (fork ds us g later) = (cs ≡ ds) × (ts ≡ us) × (f ≡ g)

-- the state with other goals
abbrev pub with_goals : List Goal → Tracked → Tracked
with_goals gs s = record { goals = gs; tuple = s.tuple; next = s.next; steps = s.steps; fault = s.fault }

-- The search of o comes to the state: by calls, and where a group that comes first is read as a conjunction. What has become
-- of checks is left out, since the search doesn't look at it.
pub data IsFrom (p : Program) (o : Tracked) : Tracked → Type 0 where
  itself : IsFrom p o o
  calls : {s : Tracked} (t : Tracked) → IsFrom p o s → IsOneOf t (children p s) → IsFrom p o t
  opens : {s : Tracked} → IsFrom p o s → IsFrom p o (opening s)
  reads : {s : Tracked} (gs : List Goal) → IsFrom p o s → AllZip SameText s.goals gs → IsFrom p o (with_goals gs s)

-- A state of the search of o, whose checks say what they say in the clause.
pub record IsKept (p : Program) (o s : Tracked) : Type 0 where
  pub means : AllByRecursion Means s.goals
  pub from : IsFrom p o s
