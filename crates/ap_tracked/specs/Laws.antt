-- What is kept of a safe state, and how marks are put together.
use Rattle.std.specs.Prelude.{◌≡◌, ℕ, List, ◌∷◌, ◌++◌, map}
use Rattle.std.specs.List.{AllByRecursion}
use Rattle.ap_term.specs.declared.clauses.Check.{Check}
use Rattle.ap_term.specs.Tree.{Tree, Trees, more, append_trees}
use Rattle.ap_term.specs.Substitution.{instance, instance_all}
use Rattle.ap_term.specs.Goals.{Part, Program}
use Rattle.ap_term.specs.WellFormed.{IsProgram}
use Rattle.ap_term.specs.Search as search
use Rattle.ap_tracked.specs.Tracked.{Goal, fork, moved, placed, Tracked, untracked, IsOneOf, children, opened}
use Rattle.ap_tracked.specs.Forks.{Fork, alone, IsUnused, IsGoalOf, ComesFirst}
use Rattle.ap_tracked.specs.Marks.{marked, Unmarked}
use Rattle.ap_tracked.specs.Safe.{IsIndependent, IsSafe}
use Rattle.ap_tracked.specs.Kept.{IsFrom, IsKept}

-- Without what a state keeps beside its groups the search is the search.
abbrev pub TrackedLaw : Type 0
TrackedLaw = (p : Program) (s : Tracked) → IsProgram p → map untracked (children p s) ≡ search.children p (untracked s)

-- A safe state's children are safe; so is each goal of its first group alone, from any
-- number above its variables; and its first group may be run by the written checks alone.
pub record SafeLaw : Type 0 where
  pub children : (p : Program) (s t : Tracked) → IsSafe p s → IsOneOf t (children p s) → IsSafe p t
  pub goals : (p : Program) (s : Tracked) (f : Fork) (g : Tree) (n : ℕ) → IsSafe p s → ComesFirst f s.goals → IsGoalOf g f.goals → IsUnused n (instance f.own g) → IsSafe p (alone (instance f.own g) n)
  pub group : (p : Program) (s : Tracked) (f : Fork) → IsSafe p s → ComesFirst f s.goals → IsIndependent f

-- Marked goals are put together as lists are; those of an instance are the instances; and a group that comes first is, without
-- its marks, its goals.
pub record MarksLaw : Type 0 where
  pub append : (gs hs : List Goal) → marked (gs ++ hs) ≡ append_trees (marked gs) (marked hs)
  pub moves : (u : ℕ → Tree) (gs : List Goal) → marked (map (moved u) gs) ≡ instance_all u (marked gs)
  pub places : (u f : ℕ → Tree) (ps : List Part) → marked (map (placed (λ x. instance u (f x))) ps) ≡ instance_all u (marked (map (placed f) ps))
  pub opens : (cs now : List Check) (t : Tree) (ts : Trees) (own : ℕ → Tree) (gs : List Goal) → Unmarked (marked (fork cs (more t ts) own now ∷ gs)) (marked (opened (fork cs (more t ts) own now ∷ gs)))

-- The children of a kept state are kept; and what the search of a safe state comes to is safe.
pub record KeptLaw : Type 0 where
  pub children : (p : Program) (o s : Tracked) → IsKept p o s → AllByRecursion (IsKept p o) (children p s)
  pub safe : (p : Program) (o s : Tracked) → IsSafe p o → IsFrom p o s → IsSafe p s
