-- The places of a goal's arguments, counted from 1. A pattern is a state over places in the place of variables.
use Rattle.std.specs.Prelude.{ℕ, suc, nat_eq, if◌then◌else◌, List, [], ◌∷◌, map}
use Rattle.ap_term.specs.Tree.{Tree, Trees, var, int, atom, node, none, more}
use Rattle.ap_sharing.specs.VarSet.{empty, just, union, meets}
use Rattle.ap_sharing.specs.Sets.{sets_of}
use Rattle.ap_sharing.specs.Share.{Share, norm}
use Rattle.ap_absunify.specs.TermSets.{var_set}
use Rattle.ap_absunify.specs.declared.states.State.{State}
use Rattle.ap_absunify.specs.declared.states.State.TheVariants.{Unreachable, Reachable}
use Rattle.ap_absunify.specs.State.{made}
use Rattle.ap_absunify.specs.AfterUnify.{is_free}

abbrev pub arguments : Tree → Trees
arguments (var x) = none
arguments (int z) = none
arguments (atom a) = none
arguments (node a ts) = ts

-- the argument at place j, where the first has place i; beside the arguments there is nothing that has a variable
abbrev pub argument : ℕ → Trees → ℕ → Tree
argument i none j = atom 0
argument i (more t ts) j = if nat_eq j i then t else argument (suc i) ts j

-- the variables of each argument
abbrev pub argument_sets : Trees → List ℕ
argument_sets none = []
argument_sets (more t ts) = var_set t ∷ argument_sets ts

-- the places, from i on, whose argument has a variable in s
abbrev pub places : ℕ → ℕ → List ℕ → ℕ
places i s [] = empty
places i s (a ∷ args) = union (if meets s a then just i else empty) (places (suc i) s args)

-- the places, from i on, whose argument is a free variable
abbrev pub free_places : ℕ → ℕ → Trees → ℕ
free_places i fr none = empty
free_places i fr (more t ts) = union (if is_free fr t then just i else empty) (free_places (suc i) fr ts)

abbrev pub call_share : Share → List ℕ → Share
call_share sh args = norm (record { sets = sets_of (map (λ s. places 1 s args) sh.sets); any = places 1 sh.any args })

-- what a state says of the arguments of a goal
abbrev pub call_pattern : State → Tree → State
call_pattern Unreachable goal = Unreachable
call_pattern (Reachable sh fr) goal = made (call_share sh (argument_sets (arguments goal))) (free_places 1 fr (arguments goal))
