-- What stays free.
use Rattle.std.proofs.Common.{◌≡◌, ℕ, true, false, cond, ap, sym, ◌∙◌, subst}
use Rattle.std.proofs.lemmas.Bool.{and_parts}
use Rattle.ap_term.specs.Tree.{Tree, atom}
use Rattle.ap_term.specs.Vars.{occurs}
use Rattle.ap_term.specs.Substitution.{instance}
use Rattle.ap_sharing.specs.VarSet.{has}
use Rattle.ap_sharing.specs.Covering.{only}
use Rattle.ap_sharing.proofs.Elements.{same_test, has-both, both_left, without_parts}
use Rattle.ap_freeness.specs.Free.{IsVar, CoversFree, unite_free, project_free, remove_free}

pub unite_first-covers : (fr gr : ℕ) (f : ℕ → Tree) → CoversFree fr f → CoversFree (unite_free fr gr) f
unite_first-covers fr gr f h x k = h x (both_left fr gr x k)

pub unite_second-covers : (fr gr : ℕ) (f : ℕ → Tree) → CoversFree gr f → CoversFree (unite_free fr gr) f
unite_second-covers fr gr f h x k = h x (and_parts (has fr x) (has gr x) (sym (has-both fr gr x) ∙ k)).1

pub project-covers : (fr keep : ℕ) (f : ℕ → Tree) → CoversFree fr f → CoversFree (project_free fr keep) (only keep f)
project-covers fr keep f h x k =
    let p = and_parts (has fr x) (has keep x) (sym (has-both fr keep x) ∙ k) in
    subst IsVar (sym (ap (λ b. cond b (f x) (atom 0)) p.1)) (h x p.0)

pub remove-covers : (fr v : ℕ) (f u : ℕ → Tree)
    → ((x : ℕ) → has fr x ≡ true → has v x ≡ false → (r : ℕ) → occurs r (f x) ≡ true → IsVar (u r))
    → CoversFree fr f → CoversFree (remove_free fr v) (λ x. instance u (f x))
remove-covers fr v f u kept h x k =
    let p = without_parts fr v x k in
    let r = h x p.0 in
    let w = kept x p.0 p.1 r.0 (ap (occurs r.0) r.1 ∙ same_test r.0) in
    (w.0, ap (instance u) r.1 ∙ w.1)
