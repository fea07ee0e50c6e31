-- The state after a variable and a term were unified. The members of the variable, and those of the term's variables,
-- are joined two by two; each side's are closed under union first, unless one side is a free variable.
use Rattle.std.specs.Prelude.{ℕ, Bool, true, false, not, ◌||◌, ◌&&◌, if◌then◌else◌, List}
use Rattle.std.specs.List.{filter}
use Rattle.ap_term.specs.Tree.{Tree, var, int, atom, node}
use Rattle.ap_sharing.specs.VarSet.{has, just, union, without, meets}
use Rattle.ap_sharing.specs.Sets.{join_sets, pairs, closure, too_many}
use Rattle.ap_sharing.specs.Share.{Share, nonground, norm, met}
use Rattle.ap_absunify.specs.TermSets.{var_set}
use Rattle.ap_absunify.specs.declared.states.State.{State}
use Rattle.ap_absunify.specs.declared.states.State.TheVariants.{Unreachable, Reachable}
use Rattle.ap_absunify.specs.State.{made, ground}

-- the sets that meet v
abbrev pub meeting : Share → ℕ → List ℕ
meeting sh v = filter (λ s. meets s v) sh.sets

-- a side's sets, as they are where it is plain
abbrev pub side : Bool → List ℕ → List ℕ
side plain ss = if plain then ss else closure ss

-- whether the members of both sides come to `any`: one of them is there already, or they are too many
abbrev pub is_wide : Bool → Share → ℕ → ℕ → Bool
is_wide plain sh a b =
    meets (union (met sh a) (met sh b)) sh.any || (not plain && (too_many (closure (meeting sh a)) || too_many (closure (meeting sh b))))

-- the Share whose `any` has these variables too
abbrev pub widened_by : Share → ℕ → Share
widened_by sh met = norm (record { sets = sh.sets; any = union sh.any met })

-- the Share after the variables a of one side and b of the other were unified
abbrev pub unify_share : Bool → Share → ℕ → ℕ → Share
unify_share plain sh a b =
    if is_wide plain sh a b
    then widened_by sh (union (met sh a) (met sh b))
    else norm (record {
      sets = join_sets (pairs (side plain (meeting sh a)) (side plain (meeting sh b))) (filter (λ s. not (meets s (union a b))) sh.sets);
      any = sh.any;
    })

-- whether a term is a free variable
abbrev pub is_free : ℕ → Tree → Bool
is_free fr (var x) = has fr x
is_free fr (int z) = false
is_free fr (atom a) = false
is_free fr (node a ts) = false

-- what stays free, of two sides that are free variables or not and met these variables
abbrev pub free_after : Bool → Bool → ℕ → ℕ → ℕ → ℕ
free_after true true fr a b = fr
free_after true false fr a b = without fr a
free_after false true fr a b = without fr b
free_after false false fr a b = without fr (union a b)

-- neither side is ground
abbrev pub unify_sides : Share → ℕ → ℕ → Tree → State
unify_sides sh fr x t =
    made (unify_share (has fr x || is_free fr t) sh (just x) (var_set t)) (free_after (has fr x) (is_free fr t) fr (met sh (just x)) (met sh (var_set t)))

abbrev pub after_unify : State → ℕ → Tree → State
after_unify Unreachable x t = Unreachable
after_unify (Reachable sh fr) x t =
    if not (has (nonground sh) x) then ground (Reachable sh fr) (var_set t)
    else (if not (meets (nonground sh) (var_set t)) then ground (Reachable sh fr) (just x) else unify_sides sh fr x t)
