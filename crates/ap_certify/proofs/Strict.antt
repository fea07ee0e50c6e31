-- Checks that hold, written or not, are the full condition.
use Rattle.std.proofs.Common.{◌≡◌, ℕ, inl, inr, Bool, true, false, ◌&&◌, nat_eq, List, [], ◌∷◌, refl, sym, subst}
use Rattle.std.specs.List.{All}
use Rattle.std.proofs.lemmas.Bool.{false≢true}
use Rattle.std.proofs.lemmas.List.Elements.{All-head, All-tail}
use Rattle.ap_term.specs.declared.clauses.Check.{Check}
use Rattle.ap_term.specs.declared.clauses.Check.TheVariants.{Ground, Indep}
use Rattle.ap_term.specs.Tree.{Tree}
use Rattle.ap_term.specs.Independence.{Holds, IsInFullCondition}
use Rattle.ap_term.proofs.Conditions.{full-condition, swapped}
use Rattle.ap_term.proofs.Solutions.{same_var}
use Rattle.ap_absunify.proofs.Vars.{or_cases, and_both}
use Rattle.ap_certify.specs.Written.{same_check, is_written}
use Rattle.ap_tracked.specs.Forks.{Fork}
use Rattle.ap_tracked.specs.Safe.{IsIndependent}
use Rattle.ap_certify.specs.Certificate.{MissingHold}

same_holds : (f : ℕ → Tree) (c k : Check) → same_check c k ≡ true → Holds f k → Holds f c
same_holds f (Ground x) (Ground y) e h = subst (λ z. Holds f (Ground z)) (sym (same_var x y e)) h
same_holds f (Ground x) (Indep y z) e h = absurd (false≢true e)
same_holds f (Indep x y) (Ground z) e h = absurd (false≢true e)
same_holds f (Indep x y) (Indep z w) e h =
    elim (or_cases (nat_eq x z && nat_eq y w) (nat_eq x w && nat_eq y z) e) [
      | inl k ↦
          let r = and_both (nat_eq x z) (nat_eq y w) k in
          subst (λ a. Holds f (Indep a y)) (sym (same_var x z r.0)) (subst (λ b. Holds f (Indep z b)) (sym (same_var y w r.1)) h)
      | inr k ↦
          let r = and_both (nat_eq x w) (nat_eq y z) k in
          subst (λ a. Holds f (Indep a y)) (sym (same_var x w r.0)) (subst (λ b. Holds f (Indep w b)) (sym (same_var y z r.1)) (swapped (f z) (f w) h))
    ]

written_holds : (f : ℕ → Tree) (c : Check) (cs : List Check) → is_written c cs ≡ true → All (Holds f) cs → Holds f c
written_holds f c [] e h = absurd (false≢true e)
written_holds f c (k ∷ cs) e h =
    elim (or_cases (same_check c k) (is_written c cs) e) [
      | inl q ↦ same_holds f c k q (All-head (Holds f) k cs h)
      | inr q ↦ written_holds f c cs q (All-tail (Holds f) k cs h)
    ]

pub strict : (f : Fork) → MissingHold f → IsIndependent f
strict f m h = full-condition f.own f.goals (λ c i. go c i (is_written c f.checks) refl)
  where
    go : (c : Check) → IsInFullCondition f.goals c → (b : Bool) → is_written c f.checks ≡ b → Holds f.own c
    go c i true e = written_holds f.own c f.checks e h
    go c i false e = m c i e
