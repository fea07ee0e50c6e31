-- A search at its newest fork, and behind the group that was forked there.
use Rattle.std.specs.Prelude.{◌≡◌, ℕ, Bool, true, false, List, [], ◌∷◌, length}
use Rattle.ap_group.specs.Meets.{MeetAll}
use Rattle.ap_term.specs.Tree.{Tree, Trees}
use Rattle.ap_match.specs.Fits.{Fits, Becomes}
use Rattle.ap_group.specs.Groups.{Pushed}
use Rattle.ap_standing.specs.Machine.{returning, failed}
use Rattle.ap_machine.specs.View.{Segment, Paused}

-- the goals of the newest fork
abbrev pub newest_goals : List Segment → List Pushed
newest_goals [] = []
newest_goals (g ∷ gs) = g.forked.goals

-- Back at a fork, with these forks left. The query, and how many registers and calls there are, are as before.
pub record IsAtFork (g : Segment) (forks : List Segment) (s t : Paused) : Type 0 where
  pub cells : t.machine.cells ≡ g.forked.cells
  pub now : t.machine.now ≡ failed
  pub returns : t.machine.returns ≡ []
  pub points : t.machine.points ≡ []
  pub roots : t.machine.roots ≡ s.machine.roots
  pub x : length t.machine.x ≡ length s.machine.x
  pub y : length t.machine.y ≡ length s.machine.y
  pub older : t.older ≡ forks
  pub spent : t.spent ≡ s.spent
  pub budget : t.budget ≡ s.budget

-- back at a fork that is forgotten then, with the choice points behind it
pub record IsBehindFork (g : Segment) (forks : List Segment) (s t : Paused) : Type 0 where
  pub cells : t.machine.cells ≡ g.forked.cells
  pub now : t.machine.now ≡ failed
  pub returns : t.machine.returns ≡ []
  pub points : t.machine.points ≡ g.points
  pub roots : t.machine.roots ≡ s.machine.roots
  pub x : length t.machine.x ≡ length s.machine.x
  pub y : length t.machine.y ≡ length s.machine.y
  pub older : t.older ≡ forks
  pub spent : t.spent ≡ s.spent
  pub budget : t.budget ≡ s.budget

-- Answers of all goals were copied in, and control is behind the group. The fork is still there.
pub record HasRejoined (g : Segment) (answers : List Trees) (s t : Paused) : Type 0 where
  pub cells : Becomes g.forked.cells t.machine.cells (MeetAll g.forked.goals answers) (λ k. Unit {0})
  pub now : t.machine.now ≡ returning
  pub returns : t.machine.returns ≡ g.forked.returns
  pub points : t.machine.points ≡ []
  pub roots : t.machine.roots ≡ s.machine.roots
  pub x : length t.machine.x ≡ length s.machine.x
  pub y : length t.machine.y ≡ length s.machine.y
  pub older : t.older ≡ s.older
  pub spent : t.spent ≡ s.spent
  pub budget : t.budget ≡ s.budget

-- they were, or no map that fits the fork's cells meets them, and the search is at the fork
abbrev pub Rejoined : Segment → List Trees → Paused → Paused → Bool → Type 0
Rejoined g answers s t true = HasRejoined g answers s t
Rejoined g answers s t false = IsAtFork g s.older s t × ((k : ℕ → Tree) → Fits g.forked.cells k → MeetAll g.forked.goals answers k → ⊥)
