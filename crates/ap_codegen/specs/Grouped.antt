-- The code of clauses with groups, whose steps pass over others: a group's checks, then its goals side by side, and then the
-- goals one after another, for where a check doesn't hold or no goals are wanted.
use Rattle.std.specs.Prelude.{◌≡◌, ℕ, zero, suc, ◌+◌, ◌≤◌, Bool, true, false, not, ◌&&◌, ◌==◌, if◌then◌else◌, List, [], ◌∷◌, ◌++◌, map, length}
use Rattle.std.specs.List.{list_all}
use Rattle.ap_term.specs.declared.clauses.Check.{Check}
use Rattle.ap_term.specs.declared.clauses.Check.TheVariants.{Ground, Indep}
use Rattle.ap_term.specs.Tree.{Tree, Trees, var, none, more, count_trees}
use Rattle.ap_term.specs.Vars.{has, add_vars, add_all_vars}
use Rattle.ap_term.specs.Goals.{Part, call as goal, group as parallel, Clause}
use Rattle.ap_tracked.specs.Marks.{Unmarked}
use Rattle.ap_instr.specs.declared.instruction.Slot.TheVariants.{Y}
use Rattle.ap_instr.specs.Step.{Step, put_variable, execute, proceed, jump, check_ground, check_indep, group, push, wait}
use Rattle.ap_instr.specs.Runs.{Runs, Reads, AsksOpenly, arguments}
use Rattle.ap_codegen.specs.CodeOf.{calls_apart}
use Rattle.ap_codegen.specs.declared.steps.Step.{Step as Emitted}
use Rattle.ap_codegen.specs.Emitted.{Lead, leads_of}
use Rattle.ap_codegen.specs.Said.{AreNumbered}
use Rattle.ap_codegen.specs.Temporary.{ends}
use Rattle.ap_codegen.specs.Permanent.{name, is_builtin, goal_code, asking, gets}

-- ---- steps that are run

-- a jump passes over others always
abbrev pub passed_over : Lead → ℕ
passed_over (jump, n) = n
passed_over _ = 0

-- the steps that run where all checks hold, the first n of them being passed over
abbrev pub flow : ℕ → List Lead → List Step
flow n [] = []
flow (suc n) (l ∷ ls) = flow n ls
flow zero (l ∷ ls) = l.0 ∷ flow (passed_over l) ls

abbrev pub straight : List Step → List Lead
straight is = map (λ i. (i, 0)) is

-- The steps `to` ask for what the steps `from` ask for, without the marks of the group that comes first.
pub record Unmarks (from to : List Step) : Type 0 where
  pub only : (x y : ℕ → Tree) (bs : Trees) → Runs to none x y bs → (ms : Trees) × Unmarked ms bs × Runs from none x y ms
  pub each : (x y : ℕ → Tree) (ms bs : Trees) → Unmarked ms bs → Runs from none x y ms → Runs to none x y bs
  pub openly : AsksOpenly to

-- whether a step may lead to its group's goals in turn: a check that doesn't hold, and the one that begins the goals side by side
abbrev pub has_turns : Step → Bool
has_turns (check_ground v) = true
has_turns (check_indep v w) = true
has_turns (group n) = true
has_turns _ = false

-- the rest of a group from such a step on, before others, without a check's own mark
abbrev pub rest_from : Step → List Step → List Step
rest_from (group n) is = group n ∷ is
rest_from i is = is

-- each check, and each group, leads beside to the group's goals in turn, with those steps behind
abbrev pub AreTurns : List Lead → List Lead → Type 0
AreTurns [] rest = Unit {0}
AreTurns (l ∷ ls) rest = (has_turns l.0 ≡ true → Unmarks (rest_from l.0 (flow 0 (ls ++ rest))) (flow l.1 (ls ++ rest))) × AreTurns ls rest

-- whatever stands behind the steps, they read as the clause with its groups, and test nothing behind a goal
pub record IsGroupedCode (c : Clause) (ls : List Lead) : Type 0 where
  pub reads : (rest : List Lead) → Reads (flow 0 (ls ++ rest)) c
  pub openly : (rest : List Lead) → AsksOpenly (flow 0 (ls ++ rest))
  pub turns : (rest : List Lead) → AreTurns ls rest
  pub apart : list_all (λ l. calls_apart l.0) ls ≡ true

-- just the last step ends, and none leads past it
abbrev pub IsEnded : List Lead → Type 0
IsEnded [] = ⊥
IsEnded (l ∷ []) = (ends l.0 ≡ true) × (l.1 ≡ 0)
IsEnded (l ∷ m ∷ ls) = (ends l.0 ≡ false) × (l.1 ≤ length ls) × IsEnded (m ∷ ls)

-- ---- the code of a body

-- the variables that a check names
abbrev pub see_check : Check → List ℕ → List ℕ
see_check (Ground x) seen = add_vars (var x) seen
see_check (Indep x y) seen = add_vars (var y) (add_vars (var x) seen)

abbrev pub see_checks : List Check → List ℕ → List ℕ
see_checks [] seen = seen
see_checks (c ∷ cs) seen = see_checks cs (see_check c seen)

-- a variable that a check names and that was not seen is made before
abbrev pub make : ℕ → List ℕ → List Step
make x seen = if has seen x then [] else put_variable (Y x) 1 ∷ []

abbrev pub make_check : Check → List ℕ → List Step
make_check (Ground x) seen = make x seen
make_check (Indep x y) seen = make x seen ++ make y (add_vars (var x) seen)

abbrev pub make_checks : List Check → List ℕ → List Step
make_checks [] seen = []
make_checks (c ∷ cs) seen = make_check c seen ++ make_checks cs (see_check c seen)

-- each goal is pushed
abbrev pub pushes : Trees → List ℕ → List Step
pushes none seen = []
pushes (more g gs) seen = goal_code g seen ++ (push (name g) (count_trees (arguments g)) ∷ pushes gs (add_vars g seen))

-- the goals one after another
abbrev pub in_turn : Trees → List ℕ → List Step
in_turn none seen = []
in_turn (more g gs) seen = goal_code g seen ++ (asking g ∷ in_turn gs (add_vars g seen))

abbrev pub check_step : Check → Step
check_step (Ground x) = check_ground (Y x)
check_step (Indep x y) = check_indep (Y x) (Y y)

-- Checks before others and so many steps more: each leads past them and the jump.
abbrev pub check_leads : List Check → ℕ → List Lead
check_leads [] n = []
check_leads (c ∷ cs) n = (check_step c, length cs + n + 1) ∷ check_leads cs n

-- the goals side by side, behind the step that begins them
abbrev pub sides : Trees → List ℕ → List Lead
sides gs seen = straight (pushes gs seen ++ wait ∷ [])

abbrev pub turns : Trees → List ℕ → List Lead
turns gs seen = straight (in_turn gs seen)

-- The goals side by side: their first step leads past them and the jump.
abbrev pub side_leads : Trees → List ℕ → List Lead
side_leads gs seen = (group (count_trees gs), length (sides gs seen) + 1) ∷ sides gs seen

-- a jump over the goals one after another, and these
abbrev pub turn_leads : Trees → List ℕ → List Lead
turn_leads gs seen = (jump, length (turns gs seen)) ∷ turns gs seen

-- a group's checks and goals, and behind them the same goals one after another
abbrev pub ways : List Check → Trees → List ℕ → List Lead
ways cs gs seen = check_leads cs (length (side_leads gs seen)) ++ (side_leads gs seen ++ turn_leads gs seen)

abbrev pub group_leads : List Check → Trees → List ℕ → List Lead
group_leads cs gs seen = straight (make_checks cs seen) ++ ways cs gs (see_checks cs seen)

-- whether a goal is a call with nothing behind it
abbrev pub is_last_part : Tree → List Part → Bool
is_last_part g [] = if is_builtin g then false else true
is_last_part g (p ∷ ps) = false

abbrev pub body_leads : List Part → List ℕ → List Lead
body_leads [] seen = straight (proceed ∷ [])
body_leads (goal g ∷ ps) seen =
    if is_last_part g ps
    then straight (goal_code g seen ++ execute (name g) (count_trees (arguments g)) ∷ [])
    else straight (goal_code g seen ++ asking g ∷ []) ++ body_leads ps (add_vars g seen)
body_leads (parallel cs gs ∷ ps) seen = group_leads cs gs seen ++ body_leads ps (add_all_vars gs (see_checks cs seen))

-- a part with others behind it, or that is no call
abbrev pub part_leads : Part → List ℕ → List Lead
part_leads (goal g) seen = straight (goal_code g seen ++ asking g ∷ [])
part_leads (parallel cs gs) seen = group_leads cs gs seen

abbrev pub see_part : Part → List ℕ → List ℕ
see_part (goal g) seen = add_vars g seen
see_part (parallel cs gs) seen = add_all_vars gs (see_checks cs seen)

-- whether a part is a call with so many parts behind it, and these are none
abbrev pub ends_body : Part → ℕ → Bool
ends_body (goal g) n = (n == 0) && not (is_builtin g)
ends_body (parallel cs gs) n = false

-- the code of a clause but for its environment
abbrev pub clause_leads : Clause → List Lead
clause_leads c = straight (gets (arguments c.head) 1 [] (count_trees (arguments c.head) + 1)) ++ body_leads c.body (add_all_vars (arguments c.head) [])

-- ---- steps that are written

-- behind these steps so many goals of a group were pushed, where so many were before
abbrev pub Numbers : ℕ → ℕ → List Emitted → Type 0
Numbers k n es = (rest : List Emitted) → AreNumbered n rest → AreNumbered k (es ++ rest)

-- the steps have these leads, and the goals of their groups are numbered
abbrev pub IsWritten : List Emitted → List Lead → Type 0
IsWritten es ls = (leads_of es ≡ ls) × ((k : ℕ) → AreNumbered k es)
