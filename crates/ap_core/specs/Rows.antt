-- Schedules of small programs, computed.
use Rattle.std.specs.Prelude.{◌≡◌, ℕ, Bool, true, false, List, [], ◌∷◌, ◌++◌, Option, Some, None, pos}
use Rattle.ap_term.specs.declared.fixed.TheConstants.{IS, DIVIDE, FAIL}
use Rattle.ap_term.specs.Tree.{Tree, Trees, var, int, atom, node, none, more}
use Rattle.ap_term.specs.Goals.{Part, call, group, Program}
use Rattle.ap_term.specs.Search.{State}
use Rattle.ap_core.specs.declared.events.Kind.{Kind}
use Rattle.ap_core.specs.declared.events.Kind.TheVariants.{Infer, Fork, Start, Answer, Fail, Spend, Join, Break, Redo, Drain, Replay}
use Rattle.ap_core.specs.declared.tasks.Status.{Status}
use Rattle.ap_core.specs.declared.tasks.Status.TheVariants.{NoBudget}
use Rattle.ap_core.specs.Conditions.{is_exhausted}
use Rattle.ap_core.specs.Relation.{Rules, Core}
use Rattle.ap_core.specs.Reached.{Happening, beginning, after_all}
use Rattle.ap_core.specs.Telling.{told}

abbrev pub number : ℕ → Tree
number n = int (pos n)

abbrev pub one : ℕ → Tree → Tree
one a t = node a (more t none)

abbrev pub two : ℕ → Tree → Tree → Tree
two a t u = node a (more t (more u none))

-- a(1). a(X) :- X is 1 // 0. f :- fail. g :- a(X) & f. h :- f & a(X).
-- b(0). b(1). q(X,Y) :- b(X) & b(Y). s(X,Y,Z) :- b(X) & q(Y,Z).
abbrev pub program : Program
program =
    record { head = one 900 (number 1); body = []; vars = 0; line = 1 }
    ∷ record { head = one 900 (var 1); body = call (two IS (var 1) (two DIVIDE (number 1) (number 0))) ∷ []; vars = 1; line = 1 }
    ∷ record { head = atom 901; body = call (atom FAIL) ∷ []; vars = 0; line = 1 }
    ∷ record { head = atom 902; body = group [] (more (one 900 (var 1)) (more (atom 901) none)) ∷ []; vars = 1; line = 1 }
    ∷ record { head = atom 903; body = group [] (more (atom 901) (more (one 900 (var 1)) none)) ∷ []; vars = 1; line = 1 }
    ∷ record { head = one 904 (number 0); body = []; vars = 0; line = 1 }
    ∷ record { head = one 904 (number 1); body = []; vars = 0; line = 1 }
    ∷ record { head = two 905 (var 1) (var 2); body = group [] (more (one 904 (var 1)) (more (one 904 (var 2)) none)) ∷ []; vars = 2; line = 1 }
    ∷ record { head = node 906 (more (var 1) (more (var 2) (more (var 3) none))); body = group [] (more (one 904 (var 1)) (more (two 905 (var 2) (var 3)) none)) ∷ []; vars = 3; line = 1 } ∷ []

-- a, g and h may meet a fault
abbrev pub rules : Rules
rules = record { program = program; loud = told ((900, 1) ∷ (902, 0) ∷ (903, 0) ∷ []) }

abbrev pub asked : Tree → Trees → ℕ → ℕ → Core
asked g T next budget = beginning rules (record { goals = call g ∷ []; tuple = T; next = next; steps = 0; fault = None }) budget

abbrev pub status_after : Option Core → Option Status
status_after None = None
status_after (Some c) = Some c.status

abbrev pub emitted_after : Option Core → List Trees
emitted_after None = []
emitted_after (Some c) = c.emitted

abbrev pub has_ended : Option Core → Bool
has_ended None = false
has_ended (Some c) = is_exhausted c.root

abbrev pub root : Kind → Happening
root k = (k, [])

abbrev pub in_slot : ℕ → Kind → Happening
in_slot i k = (k, i ∷ [])

abbrev pub inside : Kind → Happening
inside k = (k, 2 ∷ [])

abbrev pub deep : ℕ → Kind → Happening
deep i k = (k, 2 ∷ i ∷ [])

-- of g: the right goal fails, beside an answer of the left one, which may go on
abbrev pub to_the_failure : List Happening
to_the_failure =
    root Infer ∷ root Fork ∷ in_slot 1 Start ∷ in_slot 2 Start ∷ in_slot 1 Infer ∷ in_slot 1 Answer ∷ in_slot 2 Infer ∷ in_slot 2 Infer ∷ in_slot 2 Fail ∷ []

-- of s(X,Y,Z): a frame inside the right slot, up to both goals' first answers
abbrev pub to_the_first : List Happening
to_the_first =
    root Infer ∷ root Fork ∷ in_slot 1 Start ∷ in_slot 2 Start ∷ in_slot 1 Infer ∷ in_slot 1 Answer ∷ inside Infer ∷ inside Fork
    ∷ deep 1 Start ∷ deep 2 Start ∷ deep 1 Infer ∷ deep 1 Answer ∷ deep 2 Infer ∷ deep 2 Answer ∷ inside Join ∷ inside Answer ∷ []

abbrev pub out : List Happening
out = inside Join ∷ inside Answer ∷ root Join ∷ root Answer ∷ []

-- the right goal's four answers come once by calls, and once more from what is stored
abbrev pub eight : List Happening
eight =
    to_the_first ++ (root Join ∷ root Answer
    ∷ root Redo ∷ inside Redo ∷ deep 2 Answer ∷ (out
    ++ (root Redo ∷ inside Redo ∷ deep 1 Answer ∷ inside Replay ∷ (out
    ++ (root Redo ∷ inside Redo ∷ deep 2 Answer ∷ (out
    ++ (root Redo ∷ inside Break ∷ inside Fail ∷ root Break ∷ root Redo ∷ in_slot 1 Answer ∷ root Replay ∷ root Join ∷ root Answer
    ∷ root Redo ∷ in_slot 2 Answer ∷ root Join ∷ root Answer ∷ root Redo ∷ in_slot 2 Answer ∷ root Join ∷ root Answer
    ∷ root Redo ∷ in_slot 2 Answer ∷ root Join ∷ root Answer ∷ root Break ∷ [])))))))

abbrev pub three : ℕ → ℕ → ℕ → Trees
three m n o = more (number m) (more (number n) (more (number o) none))

abbrev pub variables : Trees
variables = more (var 1) (more (var 2) (more (var 3) none))

abbrev pub asked_three : ℕ → Core
asked_three budget = asked (node 906 variables) variables 4 budget

-- Stored answers come at no cost: five calls give eight answers, and with a call less the first ones of both goals are
-- more than the budget. A frame isn't broken beside a goal that may meet a fault and has an alternative; that one is
-- drained. Where no such goal is left of the failed one, the frame is broken at once.
abbrev pub RowsLaw : Type 0
RowsLaw =
    (emitted_after (after_all eight (asked_three 5)) ≡ three 0 0 0 ∷ three 0 0 1 ∷ three 0 1 0 ∷ three 0 1 1 ∷ three 1 0 0 ∷ three 1 0 1 ∷ three 1 1 0 ∷ three 1 1 1 ∷ [])
    × (has_ended (after_all eight (asked_three 5)) ≡ true)
    × (after_all eight (asked_three 4) ≡ None)
    × (status_after (after_all (to_the_first ++ root Spend ∷ []) (asked_three 4)) ≡ Some NoBudget)
    × (after_all (to_the_failure ++ root Break ∷ []) (asked (atom 902) none 1 5) ≡ None)
    × (status_after (after_all (to_the_failure ++ root Drain ∷ in_slot 1 Spend ∷ root Spend ∷ []) (asked (atom 902) none 1 4)) ≡ Some NoBudget)
    × (has_ended (after_all (root Infer ∷ root Fork ∷ in_slot 1 Start ∷ in_slot 1 Infer ∷ in_slot 1 Infer ∷ in_slot 1 Fail ∷ root Break ∷ []) (asked (atom 903) none 1 3)) ≡ true)
