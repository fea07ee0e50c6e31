-- What the states are worth: each operation's state covers what the goal makes of what was covered.
use Rattle.std.specs.Prelude.{◌≡◌, ℕ, false, Some, IsTrue}
use Rattle.ap_term.specs.Tree.{Tree}
use Rattle.ap_term.specs.Vars.{occurs}
use Rattle.ap_term.specs.WellFormed.{callable}
use Rattle.ap_term.specs.Substitution.{instance, Subst, value}
use Rattle.ap_term.specs.Builtins.{builtin}
use Rattle.ap_sharing.specs.Covering.{only}
use Rattle.ap_absunify.specs.TermSets.{var_set}
use Rattle.ap_absunify.specs.MostGeneral.{MostGeneral}
use Rattle.ap_absunify.specs.declared.states.State.{State}
use Rattle.ap_absunify.specs.State.{Covers, ground, unite, project}
use Rattle.ap_absunify.specs.AfterUnify.{after_unify}
use Rattle.ap_absunify.specs.AfterEqual.{after_equal}
use Rattle.ap_absunify.specs.AfterBuiltin.{after_builtin}

-- a variable and a term were unified
abbrev pub AfterUnifyLaw : Type 0
AfterUnifyLaw = (s : State) (x : ℕ) (t : Tree) (f u : ℕ → Tree) → Covers s f → MostGeneral (f x) (instance f t) u → Covers (after_unify s x t) (λ y. instance u (f y))

-- two terms were unified
abbrev pub AfterEqualLaw : Type 0
AfterEqualLaw = (s : State) (a b : Tree) (f u : ℕ → Tree) → Covers s f → MostGeneral (instance f a) (instance f b) u → Covers (after_equal s a b) (λ x. instance u (f x))

-- a built-in goal succeeded with a substitution
abbrev pub AfterBuiltinLaw : Type 0
AfterBuiltinLaw =
    (s : State) (goal : Tree) (f : ℕ → Tree) (b : Subst) → IsTrue (callable goal) → Covers s f → builtin (instance f goal) ≡ Some (Some b)
    → Covers (after_builtin s goal) (λ x. instance (value b) (f x))

-- a term's variables are known to be ground
abbrev pub KnownGroundLaw : Type 0
KnownGroundLaw = (s : State) (t : Tree) (f : ℕ → Tree) → ((r : ℕ) → occurs r (instance f t) ≡ false) → Covers s f → Covers (ground s (var_set t)) f

-- what one of two states covers
abbrev pub UniteLaw : Type 0
UniteLaw = (s r : State) (f : ℕ → Tree) → (Covers s f → Covers (unite s r) f) × (Covers r f → Covers (unite s r) f)

-- the other variables are no more looked at
abbrev pub ProjectLaw : Type 0
ProjectLaw = (s : State) (keep : ℕ) (f : ℕ → Tree) → Covers s f → Covers (project s keep) (only keep f)

-- states don't see the names of variables: substitutions that are instances of one another are covered alike
abbrev pub RenamedLaw : Type 0
RenamedLaw = (s : State) (f1 f2 g h : ℕ → Tree) → ((x : ℕ) → instance g (f1 x) ≡ f2 x) → ((x : ℕ) → instance h (f2 x) ≡ f1 x) → Covers s f1 → Covers s f2
