-- What the place stands for at which a group's goals were pushed.
use Rattle.std.specs.Prelude.{◌≡◌, ℕ, List, [], ◌∷◌, slice_get, Option, Some, None}
use Rattle.ap_tracked.specs.Sets.{SameSet}
use Rattle.ap_term.specs.Tuples.{tuple_under}
use Rattle.ap_term.specs.declared.clauses.Check.{Check}
use Rattle.ap_term.specs.Tree.{Tree, Trees, none, more, atom, append_trees}
use Rattle.ap_term.specs.Substitution.{instance_all}
use Rattle.ap_term.specs.Independence.{AreApart}
use Rattle.ap_instr.specs.declared.compiled.Predicate.{Predicate}
use Rattle.ap_instr.specs.Code.{Compiled}
use Rattle.ap_instr.specs.Runs.{applied}
use Rattle.ap_match.specs.Fits.{Fits}
use Rattle.ap_tracked.specs.Tracked.{Goal, fork, Tracked}
use Rattle.ap_tracked.specs.Marks.{opening}
use Rattle.ap_tracked.specs.Instances.{Inst}
use Rattle.ap_steps.specs.Standing.{Waits}
use Rattle.ap_standing.specs.Holds.{IsPlain, AreOpen}
use Rattle.ap_group.specs.Groups.{Pushed, Forked}

abbrev pub goal_by : Option Predicate → Trees → Tree
goal_by None ts = atom 0
goal_by (Some q) ts = applied q.name ts

-- the goals under a map of places, from the first one on
abbrev pub goals_under : Compiled → (ℕ → Tree) → List Pushed → Trees
goals_under code k [] = none
goals_under code k (p ∷ ps) = more (goal_by (slice_get code.predicates p.predicate) (tuple_under k p.arguments)) (goals_under code k ps)

-- the goals, and those that are waited for
abbrev pub AtFork : Compiled → List ℕ → Forked → Trees → Trees → Type 0
AtFork code roots f gs t = (k : ℕ → Tree) × (qs : Trees) × Fits f.cells k × Waits code f.returns roots k qs t × (gs ≡ append_trees (goals_under code k f.goals) qs)

-- The state whose group was pushed: its goals share no variable, and the place stands for it with the group as a
-- conjunction.
pub record IsForked (code : Compiled) (roots : List ℕ) (f : Forked) (s : Tracked) : Type 0 where
  pub checks : List Check
  pub goals : Trees
  pub own : ℕ → Tree
  pub now : List Check
  pub behind : List Goal
  pub first : s.goals ≡ fork checks goals own now ∷ behind
  pub apart : AreApart (instance_all own goals)
  pub same : SameSet (AtFork code roots f) (Inst (opening s))
  pub plain : IsPlain s
  pub open_returns : AreOpen code f.returns
