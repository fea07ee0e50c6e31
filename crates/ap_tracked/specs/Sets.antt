-- Sets of instances of states, and what a goal's call makes of a set. No variable has a name in it.
use Rattle.std.specs.Prelude.{◌≡◌, ℕ, ℤ, ◌↔◌, List, [], ◌∷◌, map}
use Rattle.ap_term.specs.declared.fixed.TheConstants.{UNIFY, IS}
use Rattle.ap_term.specs.Tree.{Tree, Trees, int, node, none, more, append_trees}
use Rattle.ap_term.specs.Substitution.{instance, instance_all}
use Rattle.ap_term.specs.Goals.{Clause}
use Rattle.ap_tracked.specs.Tracked.{placed, Tracked}
use Rattle.ap_tracked.specs.Marks.{marked}
use Rattle.ap_tracked.specs.Instances.{Inst}

-- the same goals with the same tuples
abbrev pub SameSet : (Trees → Trees → Type 0) → (Trees → Trees → Type 0) → Type 0
SameSet I J = (gs t : Trees) → I gs t ↔ J gs t

-- the instances of the only state; of none, where there is no state
abbrev pub IsSetOf : (Trees → Trees → Type 0) → List Tracked → Type 0
IsSetOf I [] = (gs t : Trees) → I gs t → ⊥
IsSetOf I (s ∷ ss) = SameSet I (Inst s) × (ss ≡ [])

-- a first goal of which each other one is an instance
abbrev pub IsGeneralGoal : (Trees → Trees → Type 0) → Tree → Type 0
IsGeneralGoal I g = ((gs t : Trees) × I (more g gs) t) × ((h : Tree) (hs us : Trees) → I (more h hs) us → (f : ℕ → Tree) × (h ≡ instance f g))

-- a tuple of which each other one is an instance
abbrev pub IsGeneralTuple : (Trees → Trees → Type 0) → Trees → Type 0
IsGeneralTuple I t = ((gs : Trees) × I gs t) × ((hs us : Trees) → I hs us → (f : ℕ → Tree) × (us ≡ instance_all f t))

-- ---- what a goal's call makes of a set

-- the body of an instance of the clause takes the place of the first goal, which is its head
abbrev pub Resolved : (Trees → Trees → Type 0) → Clause → Trees → Trees → Type 0
Resolved I c gs t =
    (h : ℕ → Tree) × (qs : Trees) × I (more (instance h c.head) qs) t × (gs ≡ append_trees (marked (map (placed h) c.body)) qs)

-- the first goal is left out
abbrev pub Behind : (Trees → Trees → Type 0) → Trees → Trees → Type 0
Behind I gs t = (g : Tree) × I (more g gs) t

-- the first goal is an equation of one tree with itself
abbrev pub Equated : (Trees → Trees → Type 0) → Trees → Trees → Type 0
Equated I gs t = (a : Tree) × I (more (node UNIFY (more a (more a none))) gs) t

-- the first goal gives an expression the value z
abbrev pub Valued : (Trees → Trees → Type 0) → ℤ → Trees → Trees → Type 0
Valued I z gs t = (b : Tree) × I (more (node IS (more (int z) (more b none))) gs) t
