-- What the search of a goal comes to.
use Rattle.std.specs.Prelude.{ℕ, ◌≤◌}
use Rattle.ap_term.specs.Tree.{Tree}
use Rattle.ap_ledger.specs.Counts.{capped}
use Rattle.ap_core.specs.Relation.{Rules}
use Rattle.ap_tracked.specs.Forks.{alone}
use Rattle.ap_tie.specs.Settled.{AreClosed}
use Rattle.ap_tied.specs.Ties.{stack_in}
use Rattle.ap_open.specs.Away.{IsSearch, FitsAs}
use Rattle.ap_section.specs.Views.{view_of}
use Rattle.ap_post.specs.declared.post.Post.{Post}
use Rattle.ap_post.specs.declared.outcome.Ending.{Ending}
use Rattle.ap_post.specs.declared.outcome.Ending.TheVariants.{Answer, Stopped, GivenBack}
use Rattle.ap_post.specs.declared.outcome.Outcome.{Outcome}
use Rattle.ap_post.specs.Jobs.{outcome_of, IsReadyEnding, cost_by}
use Rattle.ap_stack.specs.declared.stack.Stack.{Stack}
use Rattle.ap_stack.specs.Counts.{Counts}
use Rattle.ap_stack.specs.Stacks.{code_in, levels_in, section_in, away_in}

-- all frames of an answer's section are closed
abbrev pub IsClosedEnding : Ending → Type 0
IsClosedEnding (Answer s spent more) = AreClosed (stack_in (view_of s))
IsClosedEnding _ = Unit {0}

-- nobody has to have asked for it
abbrev pub IsUnasked : Ending → Type 0
IsUnasked (Stopped spent) = ⊥
IsUnasked GivenBack = ⊥
IsUnasked _ = Unit {0}

-- whatever goal these sections search for, it is an outcome of that goal alone, and its share counts what that goal is charged
pub record IsOutcome (p : Post) (s : Stack) (o : Outcome) : Type 0 where
  pub fits : (r : Rules) (g : Tree) (n rest : ℕ) → IsSearch (code_in s) r (alone g n) rest (levels_in p s) (section_in s) (away_in p s) → FitsAs (code_in s) rest r g n (outcome_of o.ending)
  pub ready : IsReadyEnding (code_in s) o.ending
  pub paid : (r : Rules) (g : Tree) (n rest : ℕ) → IsSearch (code_in s) r (alone g n) rest (levels_in p s) (section_in s) (away_in p s) → Counts rest s → capped (cost_by rest o.ending) ≤ o.share
