-- What a part of a program is worth.
use Rattle.std.specs.Prelude.{◌≡◌, ℕ, List, [], ◌∷◌}
use Rattle.std.specs.List.{AllByRecursion, flat_map}
use Rattle.ap_term.specs.Tree.{Tree, Trees}
use Rattle.ap_term.specs.WellFormed.{IsProgram}
use Rattle.ap_term.specs.Blocks.{End, IsBlock}
use Rattle.ap_term.specs.Goals.{Program, Query, joined, plain_goals}
use Rattle.ap_term.specs.Search.{State, search, start, clause_way, answers_to_depth}
use Rattle.ap_reach.specs.declared.called.Called.{Called}
use Rattle.ap_reach.specs.Reached.{IsAmong, AreAmong, CallsAmong, IsReached}

-- each goal that is among those that are called has the same ways on by the clauses of either program
abbrev pub AreSameFor : Program → List Called → Program → Program → Type 0
AreSameFor w ks p r = (n : ℕ) (g : Tree) → IsAmong w ks g → flat_map (clause_way n g) r ≡ flat_map (clause_way n g) p

abbrev pub IsStateAmong : Program → List Called → State → Type 0
IsStateAmong w ks s = AreAmong w ks (plain_goals s.goals)

-- Where all goals of a program and of some states are among those that are called, any program that has the same ways on from such
-- goals has the same search of those states.
abbrev pub SameSearchLaw : Type 0
SameSearchLaw =
    (w : Program) (ks : List Called) (p r : Program) → CallsAmong w ks r → AreSameFor w ks p r → (n : ℕ) (ss : List State) → AllByRecursion (IsStateAmong w ks) ss → search r n ss ≡ search p n ss

-- Beside the part that it reaches a query has the search that it has beside the whole program.
abbrev pub RestrictionLaw : Type 0
RestrictionLaw = (p : Program) (q : Query) (r : Program) → IsProgram p → IsReached p q r → (n : ℕ) → search (joined r q) n (start q ∷ []) ≡ search (joined p q) n (start q ∷ [])

abbrev pub AnswersLaw : Type 0
AnswersLaw = (p : Program) (q : Query) (r : Program) → IsProgram p → IsReached p q r → (d : ℕ) → answers_to_depth (joined r q) (start q) d ≡ answers_to_depth (joined p q) (start q) d

-- A query's block beside the part that it reaches is its block beside the whole program.
abbrev pub BlockLaw : Type 0
BlockLaw =
    (line : Trees → List ℕ) (p : Program) (q : Query) (r : Program) (budget limit : ℕ) (ls : List (List ℕ)) (end : End) → IsProgram p → IsReached p q r
    → IsBlock line (joined r q) (start q) budget limit ls end → IsBlock line (joined p q) (start q) budget limit ls end
