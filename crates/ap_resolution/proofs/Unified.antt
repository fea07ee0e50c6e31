-- The child of a state by a unification.
use Rattle.std.proofs.Common.{◌≡◌, ℕ, ◌+◌, List, [], ◌∷◌, ◌++◌, map, Option, Some, None, refl, ap, sym, ◌∙◌}
use Rattle.ap_tracked.specs.Sets.{SameSet, IsSetOf}
use Rattle.ap_term.specs.Tree.{Tree, Trees, more}
use Rattle.ap_term.specs.Substitution.{instance, instance_all, Subst, value}
use Rattle.ap_term.specs.Unification.{mgu}
use Rattle.ap_term.specs.Unifier.{IsMostGeneral}
use Rattle.ap_term.proofs.Copies.{instance_twice, instance_all_twice}
use Rattle.ap_term.proofs.Solvable.{mgu-general}
use Rattle.ap_term.proofs.Locals.{instance_all-same}
use Rattle.ap_tracked.specs.Tracked.{Goal, call, moved, Tracked, child_if}
use Rattle.ap_tracked.specs.Marks.{marked}
use Rattle.ap_tracked.specs.Instances.{Inst}
use Rattle.ap_tracked.proofs.Marks.{marks}

-- instances of the goals ps under a unifier of two trees
abbrev pub Meets : Tracked → Tree → Tree → List Goal → Trees → Trees → Type 0
Meets s a b ps gs t = (f : ℕ → Tree) × (instance f a ≡ instance f b) × (gs ≡ instance_all f (marked ps)) × (t ≡ instance_all f s.tuple)

pub goals-are : (s : Tracked) (g : Tree) (rest : List Goal) → s.goals ≡ call g ∷ rest → marked s.goals ≡ more g (marked rest)
goals-are s g rest e = ap marked e

-- a set and its equal
pub IsSetOf-same : (I J : Trees → Trees → Type 0) → SameSet I J → (ss : List Tracked) → IsSetOf I ss → IsSetOf J ss
IsSetOf-same I J same [] h = λ gs t j. h gs t ((same gs t).1 j)
IsSetOf-same I J same (s ∷ ss) h = (λ gs t. (λ j. (h.0 gs t).0 ((same gs t).1 j), λ i. (same gs t).0 ((h.0 gs t).1 i)), h.1)

-- the child by a most general unifier has the instances under all unifiers
pub by_unifier : (s : Tracked) (rest body : List Goal) (takes : ℕ) (a b : Tree) (m : Option Subst) → IsMostGeneral a b m
    → IsSetOf (Meets s a b (body ++ rest)) (child_if s rest m body takes)
by_unifier s rest body takes a b None general = λ gs t h. general h.0 h.1
by_unifier s rest body takes a b (Some u) general = (λ gs t. (there gs t, back gs t), refl)
  where
    ps : List Goal
    ps = body ++ rest

    goals_of : (f : ℕ → Tree) → instance_all f (marked (map (moved (value u)) ps)) ≡ instance_all (λ x. instance f (value u x)) (marked ps)
    goals_of f = ap (instance_all f) (marks.moves (value u) ps) ∙ instance_all_twice (value u) f (marked ps)

    the_child : Tracked
    the_child = record { goals = map (moved (value u)) ps; tuple = instance_all (value u) s.tuple; next = s.next + takes; steps = s.steps + 1; fault = None }

    there : (gs t : Trees) → Meets s a b ps gs t → Inst the_child gs t
    there gs t h =
        let same : (x : ℕ) → instance h.0 (value u x) ≡ h.0 x = general.1 h.0 h.1 in (
          h.0,
          h.2 ∙ sym (goals_of h.0 ∙ instance_all-same (λ x. instance h.0 (value u x)) h.0 same (marked ps)),
          h.3 ∙ sym (instance_all_twice (value u) h.0 s.tuple ∙ instance_all-same (λ x. instance h.0 (value u x)) h.0 same s.tuple),
        )

    back : (gs t : Trees) → Inst the_child gs t → Meets s a b ps gs t
    back gs t h = (
      λ x. instance h.0 (value u x),
      sym (instance_twice (value u) h.0 a) ∙ ap (instance h.0) general.0 ∙ instance_twice (value u) h.0 b,
      h.1 ∙ goals_of h.0,
      h.2 ∙ instance_all_twice (value u) h.0 s.tuple,
    )

pub unified_child : (s : Tracked) (rest body : List Goal) (takes : ℕ) (a b : Tree) → IsSetOf (Meets s a b (body ++ rest)) (child_if s rest (mgu a b) body takes)
unified_child s rest body takes a b = by_unifier s rest body takes a b (mgu a b) (mgu-general a b)
