-- What a state gives holds, and what never holds there doesn't.
use Rattle.std.proofs.Common.{◌≡◌, ℕ, true, false, not, List, [], ◌∷◌, if◌then◌else◌, ap, sym, ◌∙◌, refl}
use Rattle.std.specs.List.{list_any}
use Rattle.std.proofs.lemmas.Bool.{false≢true, not-true}
use Rattle.ap_term.specs.declared.clauses.Check.{Check}
use Rattle.ap_term.specs.declared.clauses.Check.TheVariants.{Ground, Indep}
use Rattle.ap_term.specs.Tree.{Tree}
use Rattle.ap_term.specs.Vars.{occurs}
use Rattle.ap_term.specs.Independence.{Holds}
use Rattle.ap_sharing.specs.VarSet.{has}
use Rattle.ap_sharing.specs.Share.{nonground, may_share}
use Rattle.ap_sharing.proofs.Elements.{same_test}
use Rattle.ap_sharing.proofs.Covers.{apart, surely_ground}
use Rattle.ap_absunify.specs.declared.states.State.{State}
use Rattle.ap_absunify.specs.declared.states.State.TheVariants.{Unreachable, Reachable}
use Rattle.ap_absunify.specs.State.{Covers}
use Rattle.ap_conditions.specs.Simplified.{gives, never, left, simplified}
use Rattle.ap_conditions.specs.declared.simplifications.Simplified.TheVariants.{Keep, NeverTrue}
use Rattle.ap_conditions.proofs.Numbers.{filter_none}

pub given-holds : (s : State) (c : Check) (f : ℕ → Tree) → Covers s f → gives s c ≡ true → Holds f c
given-holds Unreachable c f h g = absurd h
given-holds (Reachable sh fr) (Ground x) f h g = surely_ground sh f x h.0 (not-true (has (nonground sh) x) g)
given-holds (Reachable sh fr) (Indep x y) f h g = apart sh f x y h.0 (not-true (may_share sh x y) g)

pub never-holds : (s : State) (c : Check) (f : ℕ → Tree) → Covers s f → never s c ≡ true → Holds f c → ⊥
never-holds Unreachable c f h g k = absurd h
never-holds (Reachable sh fr) (Ground x) f h g k =
    let r = h.1 x g in
    false≢true (sym (k r.0) ∙ ap (occurs r.0) r.1 ∙ same_test r.0)
never-holds (Reachable sh fr) (Indep x y) f h g k = absurd (false≢true g)

-- ---- an unreachable state leaves nothing

never-none : (cs : List Check) → list_any (never Unreachable) cs ≡ false
never-none [] = refl
never-none (c ∷ cs) = never-none cs

pub unreachable-left : (cs : List Check) → simplified cs Unreachable ≡ Keep []
unreachable-left cs =
    ap (λ b. if b then NeverTrue else Keep (left Unreachable cs)) (never-none cs) ∙ ap Keep (filter_none (λ c. not (gives Unreachable c)) cs (λ c. refl))
