-- What a graft is worth: variables, the search, joins, and a query's start.
use Rattle.std.specs.Prelude.{◌≡◌, ◌↔◌, ℕ, ◌<◌, ◌≤◌, List, ◌∷◌, ◌++◌, map}
use Rattle.ap_term.specs.declared.clauses.Check.{Check}
use Rattle.ap_term.specs.Tree.{Tree, Trees}
use Rattle.ap_term.specs.Substitution.{instance_all}
use Rattle.ap_term.specs.Independence.{AreApart}
use Rattle.ap_term.specs.WellFormed.{IsProgram}
use Rattle.ap_term.specs.Goals.{Program}
use Rattle.ap_term.specs.Vars.{Local}
use Rattle.ap_laws.specs.Plain.{plain_of}
use Rattle.ap_laws.specs.Graft.{IsOf}
use Rattle.ap_tracked.specs.Tracked.{Goal, call, fork, Tracked, untracked, opened}
use Rattle.ap_tracked.specs.Forks.{alone}
use Rattle.ap_tracked.specs.Kept.{IsFrom, IsKept}
use Rattle.ap_graft.specs.Variables.{IsTrackedBelow, IsOwnOf}
use Rattle.ap_tracked.specs.Safe.{IsSafe}
use Rattle.ap_tracked.specs.Marks.{marked}
use Rattle.ap_tracked.specs.Instances.{Inst}
use Rattle.ap_graft.specs.Grafts.{tracked_graft, tracked_grafts}
use Rattle.ap_graft.specs.Joins.{AreAnswers, graft_states, AllMet}
use Rattle.ap_graft.specs.Starts.{tracked_start}
use Rattle.ap_graft.specs.Uncalled.{NeverCalls, HasName}
use Rattle.ap_term.specs.declared.fixed.TheConstants.{QUERY}
use Rattle.ap_term.specs.Tree.{atom}
use Rattle.ap_term.specs.WellFormed.{IsQuery}
use Rattle.ap_term.specs.Goals.{Clause, Query, joined}
use Rattle.ap_term.specs.Search.{start}

-- What the search of a state comes to has only variables below its first unused one where the state has; what the search
-- of a goal alone comes to is of that goal, and so is its plain form.
pub record VariablesLaw : Type 0 where
  pub below : (p : Program) (o s : Tracked) → IsProgram p → IsTrackedBelow o → IsFrom p o s → IsTrackedBelow s
  pub of_goal : (p : Program) (g : Tree) (b : ℕ) (u : Tracked) → IsProgram p → Local (λ x. x < b) g → IsFrom p (alone g b) u → IsOwnOf g b u
  pub plain : (g : Tree) (b : ℕ) (u : Tracked) → IsOwnOf g b u → IsOf g b (plain_of (untracked u))

-- What the search of a state's first goal alone comes to, put in the goal's place, is what the search that came to the
-- state comes to; and what has become of checks goes on saying what they say.
pub record TrackedGraftLaw : Type 0 where
  pub from : (p : Program) (o s u : Tracked) (g : Tree) (K : List Goal) (b : ℕ) → IsProgram p → IsTrackedBelow o → opened s.goals ≡ call g ∷ K → Local (λ x. x < b) g → b ≤ s.next
      → IsFrom p o s → IsFrom p (alone g b) u → IsFrom p o (tracked_graft b s u)
  pub kept : (p : Program) (o s u : Tracked) (g : Tree) (K : List Goal) (b : ℕ) → IsProgram p → IsTrackedBelow o → opened s.goals ≡ call g ∷ K → Local (λ x. x < b) g → b ≤ s.next
      → IsKept p o s → IsKept p (alone g b) u → IsKept p o (tracked_graft b s u)

-- The answers of a group's goals that share no variable, put in one after the other: a state of the search that came to the
-- group, whose checks say what they say; and without its groups it is the state with the answers put in.
abbrev pub JoinLaw : Type 0
JoinLaw =
    (p : Program) (o s : Tracked) (cs : List Check) (ts : Trees) (own : ℕ → Tree) (now : List Check) (gs : List Goal) (us : List Tracked)
    → IsProgram p → IsTrackedBelow o → IsKept p o s → s.goals ≡ fork cs ts own now ∷ gs → AreApart (instance_all own ts) → AreAnswers p s.next (instance_all own ts) us
    → IsKept p o (tracked_grafts s.next s us) × (graft_states s.next (untracked s) (map (λ u. plain_of (untracked u)) us) ≡ untracked (tracked_grafts s.next s us))

-- Copying the answers in, by any names, and making each goal's arguments equal to its answer leaves just the instances of
-- the joined state.
abbrev pub JoinedSetLaw : Type 0
JoinedSetLaw =
    (p : Program) (o s : Tracked) (cs : List Check) (ts : Trees) (own : ℕ → Tree) (now : List Check) (gs : List Goal) (us : List Tracked)
    → IsProgram p → IsTrackedBelow o → IsKept p o s → s.goals ≡ fork cs ts own now ∷ gs → AreApart (instance_all own ts) → AreAnswers p s.next (instance_all own ts) us
    → (hs t : Trees) → Inst (tracked_grafts s.next s us) hs t ↔ ((f : ℕ → Tree) × AllMet (instance_all own ts) us f × (hs ≡ instance_all f (marked gs)) × (t ≡ instance_all f s.tuple))

-- The state is the query's, kept, and its variables are below its first unused one. It is safe where `?-` alone is, from
-- number 0; and where nothing calls `?-`, it is no matter what arguments the question's head has.
pub record StartLaw : Type 0 where
  pub start : (q : Query) → IsQuery q → untracked (tracked_start q) ≡ start q
  pub below : (q : Query) → IsQuery q → IsTrackedBelow (tracked_start q)
  pub kept : (p : Program) (q : Query) → IsKept p (tracked_start q) (tracked_start q)
  pub safe : (p : Program) (q : Query) → IsQuery q → IsSafe (joined p q) (alone (atom QUERY) 0) → IsSafe (joined p q) (tracked_start q)
  pub asked : (p : Program) (q : Query) (c : Clause) → IsQuery q → HasName QUERY c.head → NeverCalls QUERY (joined p q) → IsSafe (joined p q) (tracked_start q) → IsSafe (p ++ c ∷ q.lifted) (tracked_start q)
