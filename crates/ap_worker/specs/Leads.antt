-- The worker that searches the query.
use Rattle.std.specs.Prelude.{◌≡◌, ◌≢◌, ℕ, ◌<◌, ◌≤◌, false, List, [], ◌∷◌, Result, Ok}
use Rattle.ap_term.specs.declared.memory.NoMemory.{NoMemory}
use Rattle.ap_term.specs.Tree.{Trees}
use Rattle.ap_tied.specs.Settling.{IsAnswerIn}
use Rattle.ap_tied.specs.Ties.{stack_in}
use Rattle.ap_tie.specs.Sections as seen
use Rattle.ap_tie.specs.Sections.{bottom}
use Rattle.ap_open.specs.Away.{Carries}
use Rattle.ap_stack.specs.declared.stack.Step.{Step}
use Rattle.ap_stack.specs.declared.stack.Step.TheVariants.{Answer, Ended, Waits}
use Rattle.ap_stack.specs.Counts.{IsLone}
use Rattle.ap_stack.specs.declared.stack.Ending.{Ending}
use Rattle.ap_stack.specs.declared.stack.Ending.TheVariants.{Failed, Spent}
use Rattle.ap_stack.specs.Stacks.{code_in, levels_in, section_in, away_in, IsGood, Pays, IsStep}
use Rattle.ap_worker.specs.declared.emission.End.{End}
use Rattle.ap_worker.specs.declared.emission.End.TheVariants as end
use Rattle.ap_worker.specs.declared.emission.End.TheVariants.{NoMore}
use Rattle.ap_worker.specs.declared.lead.Lead.{Lead}
use Rattle.ap_worker.specs.Workers.{IsStaffed}

-- the frames of goals that were taken have numbers above those of the query's
pub record IsLeading (l : Lead) : Type 0 where
  pub staffed : IsStaffed l.worker
  pub good : IsGood l.worker.post l.query
  pub above : l.worker.taken.items ≢ [] → l.query.frame < l.worker.floor

-- whatever the query's sections are tied to, events lead it to what they are tied to then; where its share counts what they owe, it
-- does so then
pub record LeadGoes (l m : Lead) : Type 0 where
  pub leads : IsLeading m
  pub code : code_in m.query ≡ code_in l.query
  pub carries : Carries (code_in l.query) (levels_in l.worker.post l.query) (section_in l.query) (away_in l.worker.post l.query) (levels_in m.worker.post m.query) (section_in m.query) (away_in m.worker.post m.query)
  pub pays : Pays l.worker.post l.query m.query

-- the query's search stays, and what is out of it
pub record LeadStays (l m : Lead) : Type 0 where
  pub leads : IsLeading m
  pub query : m.query ≡ l.query
  pub levels : levels_in m.worker.post m.query ≡ levels_in l.worker.post l.query
  pub away : away_in m.worker.post m.query ≡ away_in l.worker.post l.query

abbrev pub IsStepOfQuery : Lead → Step → Type 0
IsStepOfQuery l step = IsStep l.worker.post l.query step

-- ---- without groups

-- the query's search is one section without a frame, and no goal was taken
pub record IsAlone (l : Lead) : Type 0 where
  pub query : IsLone l.query
  pub taken : l.worker.taken.items ≡ []

-- where that section has no frame then, it is so still, and there was something to do
abbrev pub StaysAlone : Lead → Lead → Result Step NoMemory → Type 0
StaysAlone l m result = IsAlone l → stack_in (section_in m.query) ≡ bottom → IsAlone m × (result ≡ Ok Waits → ⊥)

-- it made no more calls than so many
abbrev pub MadeNoMore : Lead → ℕ → Type 0
MadeNoMore l n = (l.query.share ≤ n) × (l.worker.taken.items ≡ [])

-- ---- what is put

-- a section's answer was put as its line
abbrev pub IsLineAt : (Trees → List ℕ) → seen.Section → List (List ℕ) → Type 0
IsLineAt line s put = (t : Trees) × IsAnswerIn s t × (put ≡ line t ∷ [])

-- how answers end by how their search did
abbrev pub end_after : Ending → End
end_after Failed = NoMore
end_after Spent = end.Spent
