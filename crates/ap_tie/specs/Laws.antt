-- What a section's moves are in the core.
use Rattle.std.specs.Prelude.{◌≡◌, ℕ, ◌+◌, ◌-◌, ◌≤◌, List, ◌∷◌, replicate, Some}
use Rattle.std.specs.List.{All, AllZip}
use Rattle.ap_term.specs.declared.clauses.Check.{Check}
use Rattle.ap_term.specs.Tree.{Tree, Trees}
use Rattle.ap_term.specs.Substitution.{instance_all}
use Rattle.ap_term.specs.Independence.{Holds}
use Rattle.ap_term.specs.Goals.{Program}
use Rattle.ap_term.specs.WellFormed.{IsProgram}
use Rattle.ap_core.specs.declared.tasks.Round.TheVariants.{First}
use Rattle.ap_core.specs.declared.events.Kind.TheVariants.{Infer, Fork}
use Rattle.ap_core.specs.Tasks.{task, Alternatives, alternative, Alternative, state, frame}
use Rattle.ap_core.specs.Relation.{Rules, own, ready}
use Rattle.ap_tracked.specs.Tracked.{Goal, fork, Tracked, untracked, children}
use Rattle.ap_tracked.specs.Marks.{opening}
use Rattle.ap_tracked.specs.Safe.{IsSafe}
use Rattle.ap_tracked.specs.Kept.{IsKept}
use Rattle.ap_standing.specs.Holds.{Turned}
use Rattle.ap_tie.specs.Shows.{Shows, before}
use Rattle.ap_tie.specs.Events.{own_all}

-- Turns of the model are as many calls of the core, at that cost, and what the machine's states then are is what the calls
-- lead to. A state with its first group as a conjunction has the state's children.
pub record InferLaw : Type 0 where
  pub infers : (p : Rules) (o : Tracked) (n r c : ℕ) (ss ts : List Tracked) (xs : List Alternative) (l : Alternatives) → IsProgram p.program → n ≤ r → Turned p.program n ss ts → AllZip (Shows p.program o) ss xs
      → (ys : List Alternative) × AllZip (Shows p.program o) ts ys × (own_all p (replicate n Infer) (task r c (before xs l)) ≡ Some (task (r - n) (c + n) (before ys l)))
  pub opening_has_same : (p : Program) (s : Tracked) → children p (opening s) ≡ children p s

-- A group that comes first, and whose written checks hold, is forked: the frame has the group's goals in its slots.
abbrev pub ForkLaw : Type 0
ForkLaw =
    (p : Rules) (o s : Tracked) (cs : List Check) (ts : Trees) (f : ℕ → Tree) (now : List Check) (gs : List Goal) (r c : ℕ) (l : Alternatives)
    → IsSafe p.program o → IsKept p.program o s → s.goals ≡ fork cs ts f now ∷ gs → All (Holds f) cs
    → own p Fork (task r c (alternative (state (untracked s)) l)) ≡ Some (task r c (alternative (frame (untracked s) First (ready (instance_all f ts))) l))
