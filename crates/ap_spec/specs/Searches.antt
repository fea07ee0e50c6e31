-- What a search found, the answers that come first, and bounds on the numbers of a state.
use Rattle.std.specs.Prelude.{ℕ, ◌+◌, ◌*◌, ◌≤◌, Bool, true, false, not, ◌&&◌, if◌then◌else◌, List, [], ◌∷◌, ◌++◌, is_none}
use Rattle.std.specs.List.{flat_map}
use Rattle.ap_term.specs.Tree.{Trees}
use Rattle.ap_term.specs.Goals.{Program}
use Rattle.ap_spec.specs.declared.searches.Found.{Found}
use Rattle.ap_spec.specs.declared.searches.Answers.{Answers}
use Rattle.ap_term.specs.Search as search

abbrev pub found_of : Found → search.Found
found_of f = record { answers = f.answers; ended = f.ended; fault = f.fault }

abbrev pub answers_of : Answers → search.Answers
answers_of a = record { tuples = a.tuples; fault = a.fault }

-- a state is open where it has goals; where it has none and met no fault, it is an answer
abbrev pub has_goals : search.State → Bool
has_goals s = search.by_goals s.goals false true

abbrev pub is_answer : search.State → Bool
is_answer s = not (has_goals s) && is_none s.fault

-- the tuples of the answers that come first, and the states from the first one on that is none
abbrev pub answers_first : List search.State → List Trees
answers_first [] = []
answers_first (s ∷ ss) = if is_answer s then s.tuple ∷ answers_first ss else []

abbrev pub behind_answers : List search.State → List search.State
behind_answers [] = []
behind_answers (s ∷ ss) = if is_answer s then behind_answers ss else s ∷ ss

-- what is found behind answers that were found before
abbrev pub with_answers : List Trees → search.Found → search.Found
with_answers ts f = record { answers = ts ++ f.answers; ended = f.ended; fault = f.fault }

abbrev pub with_tuples : List Trees → search.Answers → search.Answers
with_tuples ts a = record { tuples = ts ++ a.tuples; fault = a.fault }

-- the first unused variable and the calls made are no greater than these
pub record IsWithin (next steps : ℕ) (s : search.State) : Type 0 where
  pub vars : s.next ≤ next
  pub calls : s.steps ≤ steps

-- the first unused variable of a state is bounded by the calls made, which are at most d
pub record IsShallow (d : ℕ) (s : search.State) : Type 0 where
  pub vars : s.next ≤ 256 + 256 * s.steps
  pub calls : s.steps ≤ d

-- the answers of some states, one after another, up to the first fault
abbrev pub answers_of_all : Program → List search.State → ℕ → search.Answers
answers_of_all p ss d = search.cut (flat_map (λ s. search.outcomes_to_depth p s d) ss)
