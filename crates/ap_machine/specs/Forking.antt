-- What a search is after a group's code was run up to the fork, or elsewhere.
use Rattle.std.specs.Prelude.{◌≡◌, ℕ, ◌+◌, ◌<◌, ◌≤◌, ◌⊎◌, List, [], ◌∷◌, ◌++◌, length, map, Option, Some, None}
use Rattle.std.specs.List.{AllByRecursion}
use Rattle.ap_group.specs.Meets.{AreInside}
use Rattle.ap_cells.specs.Store.{Store, undone, IsMark}
use Rattle.ap_instr.specs.Code.{Compiled}
use Rattle.ap_environments.specs.Kept.{Kept}
use Rattle.ap_environments.specs.declared.environments.Fork.{Fork}
use Rattle.ap_group.specs.declared.gathering.Gathered.{Gathered}
use Rattle.ap_group.specs.declared.gathering.Gathered.TheVariants.{Pushed as Forks, Plain}
use Rattle.ap_group.specs.Groups.{Pushed, Forked}
use Rattle.ap_group.specs.Gathers.{IsGathered, FailsCheck, IsPlainWay, IsCutOff}
use Rattle.ap_group.specs.Turns.{IsKnown, HasPushed, LeadsPlain}
use Rattle.ap_steps.specs.Moves.{held}
use Rattle.ap_steps.specs.Standing.{Return}
use Rattle.ap_standing.specs.Machine.{Machine, inside, failed, AreWithin}
use Rattle.ap_machine.specs.View.{Paused}
use Rattle.ap_machine.specs.Choices.{Stays}
use Rattle.ap_machine.specs.Forks.{IsAtFork}
use Rattle.ap_machine.specs.Lasting.{SameRest}

-- ---- as a search keeps it

-- a goal as a frame
abbrev pub frame_of : Pushed → Return
frame_of p = record { place = p.predicate; y = p.arguments }

-- goals' frames above the return behind their group
abbrev pub frames_on : List Pushed → Return → List Return → List Return
frames_on ps w ws = map frame_of ps ++ w ∷ ws

-- with a fork more, and no return
abbrev pub with_fork : Fork → List Return → Kept → Kept
with_fork f ws k = record { returns = []; moments = []; forks = record { fork = f; returns = ws; moments = k.moments } ∷ k.forks }

-- goals were kept for a fork at this moment, above a return behind a place
pub record HasKept (v : Store) (to : ℕ) (y : List ℕ) (ps : List Pushed) (k l : Kept) : Type 0 where
  pub fork : Fork
  pub behind : Return
  pub cells : fork.cells ≡ length v.cells
  pub bindings : fork.trail ≡ length v.trail
  pub mark : IsMark v.cells v.trail fork.cells fork.trail
  pub leads : undone v fork.cells fork.trail ≡ v.cells
  pub count : fork.goals ≡ length ps
  pub place : behind.place ≡ to + 1
  pub held_y : (n : ℕ) → held behind.y n ≡ held y n
  pub few : length behind.y ≤ length y
  pub kept : l ≡ with_fork fork (frames_on ps behind k.returns) k

-- the goals of the group at a place were kept, or nothing was kept, and where an instruction can't be taken the cells are as before
abbrev pub ForksTo : Compiled → ℕ → Store → List ℕ → List ℕ → Option Gathered → Store → List ℕ → List ℕ → List Pushed → Kept → Kept → Type 0
ForksTo code at v x y (Some (Forks to)) w x' y' ps k l = HasPushed code at v.cells x y to w.cells x' y' ps × HasKept w to y' ps k l
ForksTo code at v x y (Some (Plain to)) w x' y' ps k l = LeadsPlain code at v.cells x y to w.cells x' y' × (l ≡ k)
ForksTo code at v x y None w x' y' ps k l = IsCutOff code at v.cells x y × (w.cells ≡ v.cells) × (l ≡ k)

-- ---- as its callers see it

-- The group's goals were pushed, and the search is at a new fork, behind which the old choice points are.
pub record HasForked (code : Compiled) (s t : Paused) : Type 0 where
  pub at : ℕ
  pub to : ℕ
  pub there_x : List ℕ
  pub there_y : List ℕ
  pub behind : Return
  pub forked : Forked
  pub here : s.machine.now ≡ inside at
  pub gathered : IsGathered code at s.machine.cells s.machine.x s.machine.y to forked.cells there_x there_y forked.goals
  pub returns : forked.returns ≡ behind ∷ s.machine.returns
  pub place : behind.place ≡ to + 1
  pub y : (n : ℕ) → held behind.y n ≡ held there_y n
  pub at_fork : IsAtFork (record { forked = forked; points = s.machine.points }) (record { forked = forked; points = s.machine.points } ∷ s.older) s t
  pub known : AllByRecursion (IsKnown code) forked.goals
  pub within : AreWithin (length forked.cells) forked.returns
  pub arguments : AreInside (length forked.cells) forked.goals
  pub inside_cells : AllByRecursion (λ r. r < length forked.cells) s.machine.roots
  pub returns_before : AreWithin (length s.machine.cells) s.machine.returns
  pub roots_before : AllByRecursion (λ r. r < length s.machine.cells) s.machine.roots

-- the group leads to a place, where its goals stand one after another
pub record HasPlainWay (code : Compiled) (m : Machine) (to : ℕ) : Type 0 where
  pub at : ℕ
  pub here : m.now ≡ inside at
  pub way : IsPlainWay code at m.cells m.x m.y to

-- control is where the group's goals stand one after another
pub record HasGonePlain (code : Compiled) (s t : Paused) : Type 0 where
  pub to : ℕ
  pub leads : HasPlainWay code s.machine to
  pub goes_on : t ≡ record s { machine = record s.machine { now = inside to } }

-- an instruction of the group can't be taken
pub record IsCut (code : Compiled) (s t : Paused) : Type 0 where
  pub at : ℕ
  pub here : s.machine.now ≡ inside at
  pub cut : IsCutOff code at s.machine.cells s.machine.x s.machine.y
  pub cells : t.machine.cells ≡ s.machine.cells
  pub now : t.machine.now ≡ failed
  pub rest : SameRest s.machine t.machine
  pub stays : Stays s t

-- control is there as a check of the group doesn't hold
pub record IsForced (code : Compiled) (s t : Paused) : Type 0 where
  pub gone : HasGonePlain code s t
  pub fails : FailsCheck s.machine.cells (held s.machine.x) (held s.machine.y) gone.leads.way.check

abbrev pub HasGoneOn : Compiled → Paused → Paused → Type 0
HasGoneOn code s t = IsForced code s t ⊎ IsCut code s t
