-- Entering a clause: the places stand as variables beside the clause's own, each is unified with its argument of the
-- head, and then they are let go.
use Rattle.std.specs.Prelude.{ℕ, zero, suc, ◌+◌, ◌-◌, if◌then◌else◌, List, [], ◌∷◌, ◌++◌, map}
use Rattle.ap_term.specs.Tree.{Tree, Trees, var, atom, none, more, count_trees}
use Rattle.ap_term.specs.Unification.{Equations}
use Rattle.ap_sharing.specs.VarSet.{has, empty, just, union}
use Rattle.ap_sharing.specs.Sets.{insert_set, sets_of}
use Rattle.ap_sharing.specs.Share.{norm}
use Rattle.ap_absunify.specs.declared.states.State.{State}
use Rattle.ap_absunify.specs.declared.states.State.TheVariants.{Unreachable, Reachable}
use Rattle.ap_absunify.specs.State.{made, project}
use Rattle.ap_absunify.specs.AfterEqual.{after_all}
use Rattle.ap_patterns.specs.Places.{arguments, argument}

-- the variables from 1 to n
abbrev pub own : ℕ → ℕ
own zero = empty
own (suc n) = union (own n) (just (suc n))

-- the sets, and each of these variables alone
abbrev pub with_own : ℕ → List ℕ → List ℕ
with_own zero ss = ss
with_own (suc n) ss = insert_set (with_own n ss) (just (suc n))

-- each of these variables alone
abbrev pub own_sets : ℕ → List ℕ
own_sets zero = []
own_sets (suc n) = own_sets n ++ just (suc n) ∷ []

-- place i of k places as variable n + i
abbrev pub beside : ℕ → ℕ → ℕ → ℕ
beside n zero s = empty
beside n (suc k) s = union (beside n k s) (if has s (suc k) then just (n + suc k) else empty)

-- a pattern of k places beside n variables that are free and share nothing
abbrev pub beside_own : ℕ → ℕ → State → State
beside_own n k Unreachable = Unreachable
beside_own n k (Reachable sh fr) =
    made (norm (record { sets = with_own n (sets_of (map (beside n k) sh.sets)); any = beside n k sh.any })) (union (own n) (beside n k fr))

-- each place from i on, and its argument of the head
abbrev pub head_equations : ℕ → Trees → Equations
head_equations i none = []
head_equations i (more h hs) = (i, h) ∷ head_equations (suc i) hs

-- the state in which a clause of n variables is entered
abbrev pub enter : ℕ → Tree → State → State
enter n head pattern = project (after_all (beside_own n (count_trees (arguments head)) pattern) (head_equations (n + 1) (arguments head))) (own n)

-- a clause's own variables renamed apart, beside the arguments of a call
abbrev pub entered : ℕ → ℕ → Trees → ℕ → Tree
entered n next gs x = if has (own n) x then var (x + next) else argument 1 gs (x - n)

-- the instances of a clause's own variables once u has unified its head with the call
abbrev pub own_after : ℕ → ℕ → (ℕ → Tree) → ℕ → Tree
own_after n next u x = if has (own n) x then u (x + next) else atom 0
