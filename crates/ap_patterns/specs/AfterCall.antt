-- The state after a call succeeded, by the success pattern of its predicate.
use Rattle.std.specs.Prelude.{◌≡◌, ℕ, suc, Bool, true, false, not, ◌||◌, ◌&&◌, if◌then◌else◌, List, [], ◌∷◌}
use Rattle.std.specs.List.{filter}
use Rattle.ap_term.specs.Tree.{Tree, Trees, var, none, more}
use Rattle.ap_term.specs.Vars.{occurs}
use Rattle.ap_sharing.specs.VarSet.{has, empty, union, without, meets}
use Rattle.ap_sharing.specs.Sets.{join_sets, all_of, closure, too_many}
use Rattle.ap_sharing.specs.Share.{Share, nonground, met, is_member, norm, ground_share}
use Rattle.ap_absunify.specs.TermSets.{var_set, var_set_all}
use Rattle.ap_absunify.specs.declared.states.State.{State}
use Rattle.ap_absunify.specs.declared.states.State.TheVariants.{Unreachable, Reachable}
use Rattle.ap_absunify.specs.State.{made}
use Rattle.ap_absunify.specs.AfterUnify.{is_free, meeting, widened_by}
use Rattle.ap_patterns.specs.Places.{arguments, argument_sets, places}

-- the variables of the arguments, from place i on, whose place is in no member of the success
abbrev pub grounded : ℕ → Share → List ℕ → ℕ
grounded i success [] = empty
grounded i success (a ∷ args) = union (if not (has (nonground success) i) then a else empty) (grounded (suc i) success args)

-- the arguments, from place i on, that are free variables before and whose place is free after
abbrev pub kept_free : ℕ → ℕ → ℕ → Trees → ℕ
kept_free i fr success none = empty
kept_free i fr success (more t ts) = union (if is_free fr t && has success i then var_set t else empty) (kept_free (suc i) fr success ts)

-- whether the sets that meet the goal's variables come to `any`: `any` meets them too, or they are too many
abbrev pub is_wide_call : Share → ℕ → Bool
is_wide_call sh goal = meets sh.any goal || too_many (closure (meeting sh goal))

-- of these sets those whose places are a member of the success
abbrev pub returned_sets : List ℕ → Share → List ℕ → List ℕ
returned_sets args success ss = filter (λ s. is_member (places 1 s args) success) ss

-- the Share whose `any` has the variables of the sets that meet the goal too
abbrev pub widened_call : Share → ℕ → Share
widened_call sh goal = widened_by sh (all_of (meeting sh goal))

-- in the place of the sets that meet the goal those of others that the success has among its members
abbrev pub joined_call : Share → List ℕ → ℕ → Share → List ℕ → Share
joined_call sh args goal success closed = norm (record { sets = join_sets (filter (λ s. not (meets s goal)) sh.sets) (returned_sets args success closed); any = sh.any })

-- the sets that meet the goal become those unions of them that the success has among its members
abbrev pub returned_share : Share → List ℕ → ℕ → Share → Share
returned_share sh args goal success =
    if is_wide_call sh goal then widened_call sh goal else joined_call sh args goal success (closure (meeting sh goal))

-- what stays free: of the goal's variables those that are kept, of the others those that shared no member with one
-- of the goal's that isn't
abbrev pub returned_free : Share → ℕ → ℕ → ℕ → ℕ
returned_free sh fr goal kept = union kept (without (without fr goal) (met sh (without goal kept)))

abbrev pub after_return : Share → ℕ → Trees → Share → ℕ → State
after_return sh fr ts success sfr =
    made (returned_share (ground_share sh (grounded 1 success (argument_sets ts))) (argument_sets ts) (var_set_all ts) success)
    (returned_free sh fr (var_set_all ts) (kept_free 1 fr sfr ts))

abbrev pub after_call : State → Tree → State → State
after_call Unreachable goal success = Unreachable
after_call (Reachable sh fr) goal Unreachable = Unreachable
after_call (Reachable sh fr) goal (Reachable success sfr) = after_return sh fr (arguments goal) success sfr

-- an answer k of a call: the caller's other variables stay, and what the goal's get is the goal's or nobody's
pub record Answers (goal : Tree) (f k : ℕ → Tree) : Type 0 where
  pub others : (r y : ℕ) → occurs r (f y) ≡ true → occurs r goal ≡ false → k r ≡ var r
  pub fresh : (r w y : ℕ) → occurs r goal ≡ true → occurs w (k r) ≡ true → occurs w goal ≡ false → occurs w (f y) ≡ false
