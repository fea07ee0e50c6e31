-- The open sections of a search, and what becomes of them.
use Rattle.std.specs.Prelude.{◌≡◌, ℕ, ◌<◌, ◌≤◌, true, false, List, []}
use Rattle.std.specs.List.{AllByRecursion}
use Rattle.ap_core.specs.Tasks.{Task}
use Rattle.ap_core.specs.Relation.{Rules}
use Rattle.ap_tracked.specs.Tracked.{Tracked}
use Rattle.ap_instr.specs.Code.{Compiled}
use Rattle.ap_tie.specs.Sections as seen
use Rattle.ap_open.specs.Away.{Away, Level, OpenBeside, Carries}
use Rattle.ap_open.specs.Calling.{IsAnswering, IsDone, IsSpent}
use Rattle.ap_open.specs.Opened.{spent_in}
use Rattle.ap_open.specs.Sharing.{first_of}
use Rattle.ap_section.specs.Views.{view_of}
use Rattle.ap_section.specs.Ready.{IsReady}
use Rattle.ap_section.specs.Slots.{IsAtFrame}
use Rattle.ap_post.specs.declared.post.Post.{Post}
use Rattle.ap_post.specs.Posts.{posted_in, SameBelow, SameJobs}
use Rattle.ap_stack.specs.declared.stack.Stack.{Stack}
use Rattle.ap_stack.specs.declared.stack.Step.{Step}
use Rattle.ap_stack.specs.declared.stack.Step.TheVariants.{Went, Waits, Began, Finished, Answer, Ended}
use Rattle.ap_stack.specs.declared.stack.Ending.TheVariants.{Failed, Spent}
use Rattle.ap_stack.specs.Counts.{Counts}
use Rattle.ap_stack.specs.Levels.{aways_in, levels_of, AreOut, IsOpen, Rise}

-- ---- as the laws name it

abbrev pub code_in : Stack → Compiled
code_in s = s.sound.now

-- without the newest one, the outermost first
abbrev pub levels_in : Post → Stack → List Level
levels_in p s = levels_of p s.outer.items

-- the newest one
abbrev pub section_in : Stack → seen.Section
section_in s = view_of s.newest

abbrev pub away_in : Post → Stack → List Away
away_in p s = aways_in p s.frame

-- how many calls the outermost one has made
abbrev pub spent_outside : Post → Stack → ℕ
spent_outside p s = spent_in (first_of (levels_in p s) (section_in s))

-- ---- what always stands

-- Each section goes on by the code, those outside at their newest frames; goals are out of frames that aren't settled alone, and
-- under numbers of their own.
pub record IsGood (p : Post) (s : Stack) : Type 0 where
  pub ready : IsReady (code_in s) s.newest
  pub outer : AllByRecursion (IsOpen (code_in s) p) s.outer.items
  pub at_frame : s.tends ≡ true → IsAtFrame (section_in s)
  pub none_out : s.tends ≡ false → posted_in p s.frame ≡ []
  pub out : AreOut (code_in s) (section_in s) (posted_in p s.frame)
  pub rise : Rise s.first s.outer.items s.frame
  pub below : s.frame < p.next

-- ---- what a move does

-- where the sections are tied to anything, and the share counts what they owe, it counts what they owe then
abbrev pub Pays : Post → Stack → Stack → Type 0
Pays p s t = (b : ℕ) (r : Rules) (o : Tracked) (u : Task) → OpenBeside (code_in s) r o (levels_in p s) (section_in s) (away_in p s) u → Counts b s → Counts b t

-- The search goes on from there to here: whatever the sections are tied to, events lead it to what they are tied to then. No goal
-- of a search with smaller numbers is touched, and none that was taken.
pub record Goes (p : Post) (s : Stack) (q : Post) (t : Stack) : Type 0 where
  pub good : IsGood q t
  pub sound : code_in t ≡ code_in s
  pub first : t.first ≡ s.first
  pub carries : Carries (code_in s) (levels_in p s) (section_in s) (away_in p s) (levels_in q t) (section_in t) (away_in q t)
  pub pays : Pays p s t
  pub below : SameBelow s.first p q
  pub jobs : SameJobs p q
  pub next : p.next ≤ q.next

-- The search stands at an answer, has nothing left to do, or has spent its budget; its own section is the only one.
abbrev pub IsStep : Post → Stack → Step → Type 0
IsStep p s Went = Unit {0}
IsStep p s Waits = Unit {0}
IsStep p s (Began i) = Unit {0}
IsStep p s (Finished i) = Unit {0}
IsStep p s Answer = (s.outer.items ≡ []) × (s.tends ≡ false) × IsAnswering (section_in s)
IsStep p s (Ended Failed) = (s.outer.items ≡ []) × (posted_in p s.frame ≡ []) × IsDone (section_in s)
IsStep p s (Ended Spent) = (s.outer.items ≡ []) × (posted_in p s.frame ≡ []) × IsSpent (code_in s) (section_in s)
