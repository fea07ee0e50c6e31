-- United states, and projections, cover.
use Rattle.std.proofs.Common.{◌≡◌, ℕ, true, cond, ap, sym, ◌∙◌, subst}
use Rattle.std.proofs.lemmas.Bool.{and_parts}
use Rattle.ap_term.specs.Tree.{Tree, atom}
use Rattle.ap_sharing.specs.VarSet.{has, both}
use Rattle.ap_sharing.specs.Share.{nonground, unite_shares, project_share}
use Rattle.ap_sharing.specs.Covering.{only}
use Rattle.ap_freeness.specs.Free.{IsVar, CoversFree}
use Rattle.ap_sharing.proofs.Elements.{has-both, both_left}
use Rattle.ap_sharing.proofs.Covers as shares
use Rattle.ap_absunify.specs.declared.states.State.{State}
use Rattle.ap_absunify.specs.declared.states.State.TheVariants.{Unreachable, Reachable}
use Rattle.ap_absunify.specs.State.{Covers, project, unite}

both_parts : (s t x : ℕ) → has (both s t) x ≡ true → (has s x ≡ true) × (has t x ≡ true)
both_parts s t x h = and_parts (has s x) (has t x) (sym (has-both s t x) ∙ h)

pub unite-left : (s r : State) (f : ℕ → Tree) → Covers s f → Covers (unite s r) f
unite-left Unreachable r f c = absurd c
unite-left (Reachable sh fr) Unreachable f c = c
unite-left (Reachable sh fr) (Reachable sh2 fr2) f c =
    (shares.unite_first-covers sh sh2 f c.0, λ x k. c.1 x (both_parts fr fr2 x (both_left (both fr fr2) (nonground (unite_shares sh sh2)) x k)).0)

pub unite-right : (s r : State) (f : ℕ → Tree) → Covers r f → Covers (unite s r) f
unite-right Unreachable r f c = c
unite-right (Reachable sh fr) Unreachable f c = absurd c
unite-right (Reachable sh fr) (Reachable sh2 fr2) f c =
    (shares.unite_second-covers sh sh2 f c.0, λ x k. c.1 x (both_parts fr fr2 x (both_left (both fr fr2) (nonground (unite_shares sh sh2)) x k)).1)

pub project-covers : (s : State) (keep : ℕ) (f : ℕ → Tree) → Covers s f → Covers (project s keep) (only keep f)
project-covers Unreachable keep f c = absurd c
project-covers (Reachable sh fr) keep f c = (shares.project-covers sh keep f c.0, λ x o. free x (both_left (both fr keep) (nonground (project_share sh keep)) x o))
  where
    free : CoversFree (both fr keep) (only keep f)
    free x o = let p = both_parts fr keep x o in subst IsVar (sym (ap (λ b. cond b (f x) (atom 0)) p.1)) (c.1 x p.0)
