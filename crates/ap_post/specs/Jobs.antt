-- Jobs and outcomes, as searches with goals away name them.
use Rattle.std.specs.Prelude.{ℕ, ◌≤◌}
use Rattle.ap_term.specs.Tree.{Tree}
use Rattle.ap_ledger.specs.Counts.{capped}
use Rattle.ap_core.specs.Relation.{Rules}
use Rattle.ap_tracked.specs.Forks.{alone}
use Rattle.ap_board.specs.declared.view.Cause.{Cause}
use Rattle.ap_board.specs.declared.view.Cause.TheVariants.{Free, Asked, Elsewhere}
use Rattle.ap_instr.specs.Code.{Compiled}
use Rattle.ap_tie.specs.Settled.{AreClosed}
use Rattle.ap_tied.specs.Ties.{IsSearched, stack_in}
use Rattle.ap_open.specs.Away as away
use Rattle.ap_open.specs.Away.{Key, IsGoalOf, found, failed_at, spent_all, stopped_at, given_back, IsOutcomeOf}
use Rattle.ap_section.specs.Views.{view_of}
use Rattle.ap_section.specs.Ready.{IsReady}
use Rattle.ap_post.specs.declared.job.Job.{Job}
use Rattle.ap_post.specs.declared.outcome.Ending.{Ending}
use Rattle.ap_post.specs.declared.outcome.Ending.TheVariants.{Answer, Failed, Spent, Stopped, GivenBack, NoMemory}
use Rattle.ap_post.specs.declared.outcome.Outcome.{Outcome}

abbrev pub key_of : Job → Key
key_of j = record { predicate = j.predicate; tuple = j.tuple; rest = j.rest }

-- as what it is to the goal's slot
abbrev pub outcome_of : Ending → away.Outcome
outcome_of (Answer s spent more) = found (view_of s) spent more
outcome_of (Failed spent) = failed_at spent
outcome_of Spent = spent_all
outcome_of (Stopped spent) = stopped_at spent
outcome_of GivenBack = given_back
outcome_of NoMemory = given_back

-- an answer's section goes on by the code, and all its frames are closed
abbrev pub IsReadyEnding : Compiled → Ending → Type 0
IsReadyEnding code (Answer s spent more) = IsReady code s × AreClosed (stack_in (view_of s))
IsReadyEnding code _ = Unit {0}

-- the calls that its owner is charged for it, where so many could be made
abbrev pub cost_by : ℕ → Ending → ℕ
cost_by rest (Answer s spent more) = spent
cost_by rest (Failed spent) = spent
cost_by rest Spent = rest
cost_by rest (Stopped spent) = spent
cost_by rest GivenBack = 0
cost_by rest NoMemory = 0

-- its share counts them
abbrev pub IsPaid : Compiled → Key → Outcome → Type 0
IsPaid code key o = (p : Rules) (g : Tree) (n : ℕ) → IsGoalOf code key g n → IsSearched code p (alone g n) → capped (cost_by key.rest o.ending) ≤ o.share

abbrev pub IsOf : Job → Outcome → Type 0
IsOf j o = IsOutcomeOf j.sound.now (key_of j) (outcome_of o.ending) × IsReadyEnding j.sound.now o.ending × IsPaid j.sound.now (key_of j) o

-- what must have been asked to stop: the goal itself, or one that its taker had taken before
abbrev pub cause_of : Ending → Cause
cause_of (Stopped spent) = Asked
cause_of GivenBack = Elsewhere
cause_of _ = Free
