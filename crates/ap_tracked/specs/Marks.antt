-- Goals with their groups, as one list of trees. Before a group's goals stand marks, which are no goals: of each check that
-- it holds, with what it is asked of, and that so many goals are behind. So a list of trees tells its groups, and an
-- instance of it those of the instances.
use Rattle.std.specs.Prelude.{ℕ, ◌+◌, List, [], ◌∷◌, pos}
use Rattle.ap_term.specs.declared.clauses.Check.{Check}
use Rattle.ap_term.specs.declared.clauses.Check.TheVariants.{Ground, Indep}
use Rattle.ap_term.specs.Tree.{Tree, Trees, int, none, more, count_trees, append_trees}
use Rattle.ap_term.specs.Substitution.{instance_all}
use Rattle.ap_tracked.specs.Tracked.{Goal, call, fork, Tracked, opened}

-- integers are no goals
abbrev pub ground_mark : Tree
ground_mark = int (pos 0)

abbrev pub apart_mark : Tree
apart_mark = int (pos 1)

abbrev pub group_mark : ℕ → Tree
group_mark n = int (pos (n + 2))

abbrev pub check_marks : (ℕ → Tree) → List Check → Trees → Trees
check_marks own [] ts = ts
check_marks own (Ground x ∷ cs) ts = more ground_mark (more (own x) (check_marks own cs ts))
check_marks own (Indep x y ∷ cs) ts = more apart_mark (more (own x) (more (own y) (check_marks own cs ts)))

abbrev pub marked : List Goal → Trees
marked [] = none
marked (call t ∷ gs) = more t (marked gs)
marked (fork cs ts own now ∷ gs) = check_marks own cs (more (group_mark (count_trees ts)) (append_trees (instance_all own ts) (marked gs)))

-- what is left where the marks of a group that comes first are passed over
pub data Unmarked : Trees → Trees → Type 0 where
  past_ground : {t : Tree} {ts us : Trees} → Unmarked ts us → Unmarked (more ground_mark (more t ts)) us
  past_apart : {t u : Tree} {ts us : Trees} → Unmarked ts us → Unmarked (more apart_mark (more t (more u ts))) us
  past_group : (n : ℕ) {ts : Trees} → Unmarked (more (group_mark n) ts) ts

-- with a group that comes first as a conjunction
abbrev pub opening : Tracked → Tracked
opening s = record { goals = opened s.goals; tuple = s.tuple; next = s.next; steps = s.steps; fault = s.fault }
