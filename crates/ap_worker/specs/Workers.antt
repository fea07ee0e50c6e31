-- A worker, and the searches of the goals that it took.
use Rattle.std.specs.Prelude.{◌≡◌, ◌≢◌, ℕ, suc, ◌≤◌, List, [], ◌∷◌, ◌++◌, Option, Some, None, Result, Ok, Err}
use Rattle.ap_term.specs.Tree.{Tree}
use Rattle.ap_term.specs.declared.memory.NoMemory.{NoMemory}
use Rattle.ap_core.specs.Relation.{Rules}
use Rattle.ap_tracked.specs.Forks.{alone}
use Rattle.ap_tied.specs.Ties.{IsSearched}
use Rattle.ap_open.specs.Away.{IsGoalOf, IsSearch}
use Rattle.ap_post.specs.declared.job.Job.{Job}
use Rattle.ap_post.specs.declared.post.Post.{Post}
use Rattle.ap_post.specs.Jobs.{key_of}
use Rattle.ap_post.specs.Posts.{jobs_in, SameBelow, SamePosted, IsNew}
use Rattle.ap_stack.specs.declared.stack.Stack.{Stack}
use Rattle.ap_stack.specs.declared.stack.Step.{Step}
use Rattle.ap_stack.specs.Counts.{Counts}
use Rattle.ap_stack.specs.Stacks.{code_in, levels_in, section_in, away_in, IsGood, IsStep}
use Rattle.ap_worker.specs.declared.taken.Taken.{Taken}
use Rattle.ap_worker.specs.declared.worker.Worker.{Worker}

-- The search is one of the job's goal, whatever that goal's variables are named, and its share counts what it owes.
pub record IsTaken (p : Post) (s : Stack) (j : Job) : Type 0 where
  pub good : IsGood p s
  pub code : code_in s ≡ j.sound.now
  pub search : (r : Rules) (g : Tree) (n : ℕ) → IsGoalOf j.sound.now (key_of j) g n → IsSearched j.sound.now r (alone g n)
      → IsSearch j.sound.now r (alone g n) j.rest (levels_in p s) (section_in s) (away_in p s)
  pub counts : (r : Rules) (g : Tree) (n : ℕ) → IsGoalOf j.sound.now (key_of j) g n → IsSearched j.sound.now r (alone g n) → Counts j.rest s

abbrev pub IsTakenAs : Post → Stack → Option Job → Type 0
IsTakenAs p s None = ⊥
IsTakenAs p s (Some j) = IsTaken p s j

-- a search for each of these jobs, with frames under rising numbers, from lo on and below hi
abbrev pub AreTaken : Post → ℕ → List Taken → List (Option Job) → ℕ → Type 0
AreTaken p lo [] [] hi = lo ≤ hi
AreTaken p lo [] (j ∷ js) hi = ⊥
AreTaken p lo (t ∷ ts) [] hi = ⊥
AreTaken p lo (t ∷ ts) (j ∷ js) hi = (lo ≤ t.stack.first) × IsTakenAs p t.stack j × AreTaken p (suc t.stack.frame) ts js hi

abbrev pub IsStaffed : Worker → Type 0
IsStaffed w = AreTaken w.post w.floor w.taken.items (jobs_in w.post) w.post.next

-- the search of the goal that was taken last was taken off; its frames' numbers begin with this one
pub record IsShort (w : Worker) (first : ℕ) : Type 0 where
  pub jobs : List (Option Job)
  pub last : Option Job
  pub held : jobs_in w.post ≡ jobs ++ last ∷ []
  pub before : AreTaken w.post w.floor w.taken.items jobs first
  pub next : first ≤ w.post.next

-- this one was
pub record IsOff (w : Worker) (s : Stack) : Type 0 where
  pub short : IsShort w s.first
  pub last : IsTakenAs w.post s short.last

-- the goal that was taken last has no search yet
pub record IsAwaiting (w : Worker) (j : Job) : Type 0 where
  pub jobs : List (Option Job)
  pub held : jobs_in w.post ≡ jobs ++ Some j ∷ []
  pub before : AreTaken w.post w.floor w.taken.items jobs w.post.next

-- it has taken none, and none of its own goals is out
pub record IsIdle (w : Worker) : Type 0 where
  pub new : IsNew w.post
  pub taken : w.taken.items ≡ []
  pub floor : w.floor ≡ 0

-- frames with smaller numbers are left alone; where a goal was taken before, those below the floor are
pub record WorkerGoes (v w : Worker) : Type 0 where
  pub staffed : IsStaffed w
  pub below : SameBelow v.floor v.post w.post
  pub floor : v.floor ≤ w.floor
  pub next : v.post.next ≤ w.post.next

-- it has taken one more goal at most; where that is its only one the frames' numbers begin anew
pub record WorkerHelps (v w : Worker) : Type 0 where
  pub staffed : IsStaffed w
  pub posted : SamePosted v.post w.post
  pub floor : v.floor ≤ w.floor
  pub next : v.post.next ≤ w.post.next
  pub risen : v.taken.items ≡ [] → w.taken.items ≢ [] → w.floor ≡ v.post.next

-- why a search is left
abbrev pub IsStepOf : Worker → Stack → Result Step NoMemory → Type 0
IsStepOf w s (Ok step) = IsStep w.post s step
IsStepOf w s (Err e) = Unit {0}
