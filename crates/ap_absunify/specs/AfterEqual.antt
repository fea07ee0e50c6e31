-- The state after two terms were unified: the equations into which they come apart, one after another.
use Rattle.std.specs.Prelude.{[], ◌∷◌, Option, Some, None, ◌==◌, if◌then◌else◌}
use Rattle.std.specs.Ordering.{int_eq}
use Rattle.ap_term.specs.Tree.{Tree, Trees, var, int, atom, node, none, more}
use Rattle.ap_term.specs.Unification.{both, Equations}
use Rattle.ap_absunify.specs.declared.states.State.{State}
use Rattle.ap_absunify.specs.declared.states.State.TheVariants.{Unreachable}
use Rattle.ap_absunify.specs.AfterUnify.{after_unify}

-- the equations in order
abbrev pub after_all : State → Equations → State
after_all s [] = s
after_all s (e ∷ es) = after_all (after_unify s e.0 e.1) es

abbrev mutual
  -- a = b taken apart by equal functors, left to right, and None at a clash
  pub parts : Tree → Tree → Option Equations
  parts (var x) u = Some ((x, u) ∷ [])
  parts (int z) (var y) = Some ((y, int z) ∷ [])
  parts (int z) (int w) = if int_eq z w then Some [] else None
  parts (int z) (atom b) = None
  parts (int z) (node b us) = None
  parts (atom a) (var y) = Some ((y, atom a) ∷ [])
  parts (atom a) (int w) = None
  parts (atom a) (atom b) = if a == b then Some [] else None
  parts (atom a) (node b us) = None
  parts (node a ts) (var y) = Some ((y, node a ts) ∷ [])
  parts (node a ts) (int w) = None
  parts (node a ts) (atom b) = None
  parts (node a ts) (node b us) = if a == b then parts_all ts us else None

  pub parts_all : Trees → Trees → Option Equations
  parts_all none none = Some []
  parts_all none (more u us) = None
  parts_all (more t ts) none = None
  parts_all (more t ts) (more u us) = both (parts t u) (parts_all ts us)

-- no state is reached after a clash
abbrev pub after_parts : State → Option Equations → State
after_parts s None = Unreachable
after_parts s (Some es) = after_all s es

abbrev pub after_equal : State → Tree → Tree → State
after_equal s a b = after_parts s (parts a b)
