-- Whether a search's share counts the calls that its sections owe.
use Rattle.std.specs.Prelude.{◌≡◌, ℕ, ◌+◌, ◌-◌, ◌≤◌, false, List, [], ◌∷◌, Result, Ok}
use Rattle.ap_term.specs.declared.memory.NoMemory.{NoMemory}
use Rattle.ap_ledger.specs.Counts.{capped}
use Rattle.ap_tie.specs.Sections.{bottom}
use Rattle.ap_tied.specs.Ties.{stack_in}
use Rattle.ap_open.specs.Opened.{rest_in}
use Rattle.ap_section.specs.Views.{view_of, spent_in, budget_in}
use Rattle.ap_section.specs.Owed.{owed}
use Rattle.ap_stack.specs.declared.stack.Open.{Open}
use Rattle.ap_stack.specs.declared.stack.Stack.{Stack}
use Rattle.ap_stack.specs.declared.stack.Step.{Step}
use Rattle.ap_stack.specs.declared.stack.Step.TheVariants.{Waits}

-- what all sections owe, where the newest one owes so much: a section's calls before its slot's round were charged then
abbrev pub owed_by : List Open → ℕ → ℕ
owed_by [] n = n
owed_by (e ∷ es) n = owed (view_of e.section) + (owed_by es n - e.since)

-- the first one may make so many calls in all, and each other one as many more as are left to the one outside of it; the newest
-- one has that budget
abbrev pub AreGiven : ℕ → List Open → ℕ → Type 0
AreGiven b [] n = n ≡ b
AreGiven b (e ∷ es) n = (budget_in (view_of e.section) ≡ b) × AreGiven (e.since + rest_in (view_of e.section)) es n

-- of a search that may make so many calls
pub record Counts (b : ℕ) (s : Stack) : Type 0 where
  pub given : AreGiven b s.outer.items (budget_in (view_of s.newest))
  pub paid : capped (owed_by s.outer.items (owed (view_of s.newest))) ≤ s.share

-- ---- without frames

-- one section, at no frame of its own; the share counts its calls and no other ones
pub record IsLone (s : Stack) : Type 0 where
  pub outer : s.outer.items ≡ []
  pub runs : s.tends ≡ false
  pub counted : s.share ≡ capped (spent_in (view_of s.newest))

-- where its section has no frame then, it is one still, and it doesn't wait
abbrev pub StaysLone : Stack → Stack → Result Step NoMemory → Type 0
StaysLone s t result = IsLone s → stack_in (view_of t.newest) ≡ bottom → IsLone t × (result ≡ Ok Waits → ⊥)
