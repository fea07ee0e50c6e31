-- What a section is after some moves.
use Rattle.std.specs.Prelude.{◌≡◌, ℕ, ◌+◌, ◌-◌, ◌<◌, ◌≤◌, ◌⊎◌, replicate, false}
use Rattle.ap_term.specs.Tree.{Trees}
use Rattle.ap_frames.specs.declared.frame.Frame.{Frame}
use Rattle.ap_frames.specs.Rows.{row, opened}
use Rattle.ap_instr.specs.Code.{Compiled}
use Rattle.ap_machine.specs.declared.advance.Turn.{Turn as SearchTurn}
use Rattle.ap_machine.specs.declared.advance.Turn.TheVariants.{Answer, Failed, Spent, More, Stopped, Group}
use Rattle.ap_machine.specs.Stands.{IsAtEnd, IsAtGroup}
use Rattle.ap_machine.specs.Forking.{HasGoneOn}
use Rattle.ap_tie.specs.Sections as seen
use Rattle.ap_tie.specs.Sections.{section}
use Rattle.ap_tie.specs.Tied.{IsAtAnswer}
use Rattle.ap_tied.specs.Ties.{Goes}
use Rattle.ap_section.specs.declared.section.Section.{Section, out-Section}
use Rattle.ap_section.specs.Views.{view_of, spent_in, budget_in}
use Rattle.ap_section.specs.Lending.{frames_in, count_in}
use Rattle.ap_section.specs.declared.advance.Turn.{Turn}
use Rattle.ap_section.specs.Ends.{IsCallNext, Ends}
use Rattle.ap_section.specs.Owed.{owed}

-- events of the core lead there, no call was taken back, and no more is owed but what was called
pub record HasMoved (code : Compiled) (s t : seen.Section) : Type 0 where
  pub goes : Goes code s t
  pub more : spent_in s ≤ spent_in t
  pub budget : budget_in t ≡ budget_in s
  pub owes : owed t ≤ owed s + (spent_in t - spent_in s)

-- a first round of so many goals, with that rest
abbrev pub IsOpened : ℕ → ℕ → Frame Section Trees → Type 0
IsOpened n rest f = row f ≡ opened Section Trees rest (replicate n false)

-- Why the section's search came back: at an answer; nothing newer than the frames is left; another call is due, and the budget is
-- spent, or as many calls were made as were asked for; it stands at a group.
abbrev pub IsEndedBy : Compiled → ℕ → seen.Section → seen.Section → SearchTurn → Type 0
IsEndedBy code left s (section m c b st) Answer = IsAtAnswer m
IsEndedBy code left s (section m c b st) Failed = IsAtEnd m
IsEndedBy code left s (section m c b st) Spent = IsCallNext code m × (b ≤ c)
IsEndedBy code left (section n d e su) (section m c b st) More = IsCallNext code m × (c < b) × (c ≡ d + left)
IsEndedBy code left s t Stopped = Unit {0}
IsEndedBy code left s (section m c b st) Group = IsAtGroup code m

-- why it comes back there, wherever it began
abbrev pub IsRested : Compiled → seen.Section → Turn → Type 0
IsRested code t turn = (n : ℕ) (s : seen.Section) → Ends code n s t turn

-- ---- what is wanted

-- a group was left, a check of which doesn't hold, or an instruction of which can't be taken
pub record LeavesGroup (code : Compiled) (s t : Section) : Type 0 where
  pub from : Section
  pub moved : HasMoved code (view_of s) (view_of from)
  pub frames : frames_in t ≡ frames_in s
  pub gone_on : HasGoneOn code (out-Section from).search (out-Section t).search

-- a frame was dropped, or a group was left as it can't be forked
abbrev pub GoesPast : Compiled → Section → Section → Type 0
GoesPast code s t = (count_in t < count_in s) ⊎ LeavesGroup code s t
