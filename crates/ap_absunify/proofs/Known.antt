-- The state after variables are known to be ground covers.
use Rattle.std.proofs.Common.{◌≡◌, ℕ, ℤ, true, false, refl, sym}
use Rattle.std.proofs.lemmas.Bool.{false≢true}
use Rattle.ap_term.specs.Tree.{Tree, var, int}
use Rattle.ap_term.specs.Substitution.{instance}
use Rattle.ap_term.specs.Vars.{occurs}
use Rattle.ap_sharing.specs.VarSet.{has}
use Rattle.ap_absunify.specs.TermSets.{var_set}
use Rattle.ap_absunify.specs.MostGeneral.{MostGeneral}
use Rattle.ap_absunify.specs.declared.states.State.{State}
use Rattle.ap_absunify.specs.State.{Covers, ground}
use Rattle.ap_absunify.specs.AfterBuiltin.{after_is}
use Rattle.ap_absunify.proofs.AfterUnify.{from_tree, into_tree, ground_side}
use Rattle.ap_absunify.proofs.Grounding.{ground-covers}
use Rattle.ap_absunify.proofs.Renamed.{Covers-same}
use Rattle.ap_sharing.proofs.Elements.{clash}
use Rattle.ap_term.proofs.Copies.{instance_var}

-- what is ground already can be said so
pub set-known : (s : State) (v : ℕ) (f : ℕ → Tree) → ((r z : ℕ) → has v z ≡ true → occurs r (f z) ≡ true → ⊥) → Covers s f → Covers (ground s v) f
set-known s v f h c =
    Covers-same (ground s v) (λ x. instance (λ y. var y) (f x)) f (λ x. instance_var (f x))
    (ground-covers s v f (λ y. var y) (λ r. false) (λ r w k. absurd (false≢true k)) (λ r k. refl) (λ r k. absurd (false≢true k))
    (λ r z k o. absurd (h r z k o)) c)

pub ground-known : (s : State) (t : Tree) (f : ℕ → Tree) → ((r : ℕ) → occurs r (instance f t) ≡ false) → Covers s f → Covers (ground s (var_set t)) f
ground-known s t f h c = set-known s (var_set t) f (λ r z k o. clash (occurs r (instance f t)) (into_tree f t r z k o) (h r)) c

-- X is E, whose right side is ground since it has a value, and whose left side is unified with an integer
pub after_is-covers : (s : State) (a b : Tree) (f u : ℕ → Tree) (z : ℤ) → ((r : ℕ) → occurs r (instance f b) ≡ false) → MostGeneral (instance f a) (int z) u
    → Covers s f → Covers (after_is s a b) (λ x. instance u (f x))
after_is-covers s a b f u z h m c =
    ground_side (ground s (var_set b)) f u (int z) (instance f a) (var_set a) (sym m.0, λ k e. m.1 k (sym e)) (λ r. refl) (from_tree f a) (into_tree f a) (ground-known s b f h c)
