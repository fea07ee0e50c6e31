-- Where the search of a query begins, how it gives answers, and which block they are.
use Rattle.std.specs.Prelude.{◌≡◌, ℕ, ◌<◌, ◌≤◌, true, false, List, [], ◌∷◌, ◌++◌, map, length}
use Rattle.ap_term.specs.Tree.{Trees}
use Rattle.ap_term.specs.Goals.{Program, Query}
use Rattle.ap_term.specs.Search.{State, start, search}
use Rattle.ap_term.specs.Blocks.{IsPrefix, End, no_more, budget_spent, stopped, IsBlock}
use Rattle.ap_term.specs.UpToNames.{SameUpToNames}
use Rattle.ap_term.specs.WellFormed.{IsQuery}
use Rattle.ap_core.specs.Relation.{Rules}
use Rattle.ap_tracked.specs.Tracked.{Tracked}
use Rattle.ap_graft.specs.Starts.{tracked_start}
use Rattle.ap_instr.specs.Code.{Compiled}
use Rattle.ap_standing.specs.Machine.{Machine, failed}
use Rattle.ap_standing.specs.Holds.{Holds}
use Rattle.ap_tie.specs.Sections.{Section, section, bottom}
use Rattle.ap_tied.specs.Settling.{IsAnswerIn}
use Rattle.ap_tied.specs.Ties.{IsSearched}
use Rattle.ap_open.specs.Ungrouped.{AreCalls, IsUngrouped}
use Rattle.ap_open.specs.Opened.{Outer, IsSolving, spent_in}
use Rattle.ap_open.specs.Away.{Away, Level, IsSolvingBeside}
use Rattle.ap_open.specs.Calling.{IsAnswering, IsDone, IsSpent}

-- a section at its answer, when it goes on
abbrev pub past_answer : Section → Section
past_answer (section m c b st) = section (record m { now = failed }) c b st

-- what is printed of tuples that are the same up to names is the same
abbrev pub IsUpToNames : {L : Type 0} → (Trees → L) → Type 0
IsUpToNames line = (t u : Trees) → SameUpToNames t u → line t ≡ line u

-- With each smaller number of calls sequential search hasn't ended, and what it finds begins the lines.
abbrev pub IsCharged : {L : Type 0} → (Trees → L) → Program → State → ℕ → List L → Type 0
IsCharged line p q c ls = (n : ℕ) → n < c → ((search p n (q ∷ [])).ended ≡ false) × IsPrefix (map line (search p n (q ∷ [])).answers) ls

pub record SolvingLaw : Type 0 where
  pub begun : (code : Compiled) (p : Rules) (q : Query) (m : Machine) (rest : ℕ) → IsQuery q → IsSearched code p (tracked_start q) → Holds code m (tracked_start q ∷ [])
      → IsSolving code p (tracked_start q) (start q) rest [] (section m 0 rest bottom) []
  -- the query's own section gives its answer, and goes on behind it with what is left
  pub emits : (code : Compiled) (p : Rules) (o : Tracked) (q : State) (rest : ℕ) (s : Section) (given : List Trees) (tuple : Trees) → IsAnswering s → IsAnswerIn s tuple
      → IsSolving code p o q rest [] s given → IsSolving code p o q rest [] (past_answer s) (given ++ tuple ∷ [])

-- The search of a query by sections, which has given some answers.
pub record BlockLaw : Type 0 where
  pub ends : (line : Trees → List ℕ) (code : Compiled) (p : Rules) (q : Query) (budget limit : ℕ) (s : Section) (given : List Trees) → IsUpToNames line → IsQuery q
      → IsSolving code p (tracked_start q) (start q) budget [] s given → length given < limit → IsDone s → IsBlock line p.program (start q) budget limit (map line given) no_more
  pub spends : (line : Trees → List ℕ) (code : Compiled) (p : Rules) (q : Query) (budget limit : ℕ) (s : Section) (given : List Trees) → IsUpToNames line → IsQuery q
      → IsSolving code p (tracked_start q) (start q) budget [] s given → length given < limit → IsSpent code s → IsBlock line p.program (start q) budget limit (map line given) budget_spent
  pub stops : (line : Trees → List ℕ) (code : Compiled) (p : Rules) (q : Query) (budget limit : ℕ) (s : Section) (given : List Trees) → IsUpToNames line → IsQuery q
      → IsSolving code p (tracked_start q) (start q) budget [] s given → length given ≡ limit → IsBlock line p.program (start q) budget limit (map line given) stopped
  -- what was given begins a block, however the search goes on
  pub goes_on : (line : Trees → List ℕ) (code : Compiled) (p : Rules) (q : Query) (budget limit : ℕ) (outer : List Outer) (s : Section) (given : List Trees) → IsUpToNames line → IsQuery q
      → IsSolving code p (tracked_start q) (start q) budget outer s given → length given ≤ limit → (rest : List (List ℕ)) × (end : End) × IsBlock line p.program (start q) budget limit (map line given ++ rest) end
  -- the same where goals are away
  pub goes_on_beside : (line : Trees → List ℕ) (code : Compiled) (p : Rules) (q : Query) (budget limit : ℕ) (levels : List Level) (s : Section) (aways : List Away) (given : List Trees) → IsUpToNames line → IsQuery q
      → IsSolvingBeside code p (tracked_start q) (start q) budget levels s aways given → length given ≤ limit → (rest : List (List ℕ)) × (end : End) × IsBlock line p.program (start q) budget limit (map line given ++ rest) end
  -- what the query's own section has spent is charged for them
  pub charges : (line : Trees → List ℕ) (code : Compiled) (p : Rules) (q : Query) (budget : ℕ) (s : Section) (given : List Trees) → IsUpToNames line → IsQuery q
      → IsSolving code p (tracked_start q) (start q) budget [] s given → IsCharged line p.program (start q) (spent_in s) (map line given)
  -- where its budget is spent, all of it is
  pub charges_all : (line : Trees → List ℕ) (code : Compiled) (p : Rules) (q : Query) (budget : ℕ) (s : Section) (given : List Trees) → IsUpToNames line → IsQuery q
      → IsSolving code p (tracked_start q) (start q) budget [] s given → IsSpent code s → IsCharged line p.program (start q) budget (map line given)
  -- without groups sequential search finds them with just as many calls, and ends with those where nothing is left to do
  pub finds_all : (line : Trees → List ℕ) (code : Compiled) (p : Rules) (q : Query) (budget : ℕ) (s : Section) (given : List Trees) → IsUpToNames line → IsUngrouped p.program → AreCalls q.question.body
      → IsSolving code p (tracked_start q) (start q) budget [] s given → IsPrefix (map line given) (map line (search p.program (spent_in s) (start q ∷ [])).answers)
  pub ends_then : (code : Compiled) (p : Rules) (q : Query) (budget : ℕ) (s : Section) (given : List Trees) → IsUngrouped p.program → AreCalls q.question.body
      → IsSolving code p (tracked_start q) (start q) budget [] s given → IsDone s → (search p.program (spent_in s) (start q ∷ [])).ended ≡ true
