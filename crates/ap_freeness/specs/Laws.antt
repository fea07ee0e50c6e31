-- What the operations are worth.
use Rattle.std.specs.Prelude.{◌≡◌, ℕ, true, false}
use Rattle.ap_term.specs.Tree.{Tree}
use Rattle.ap_term.specs.Substitution.{instance}
use Rattle.ap_term.specs.Vars.{occurs}
use Rattle.ap_sharing.specs.VarSet.{has}
use Rattle.ap_sharing.specs.Covering.{only}
use Rattle.ap_freeness.specs.Free.{IsVar, CoversFree, unite_free, project_free, remove_free}

-- what is covered stays covered
pub record FreeLaw : Type 0 where
  pub unite_first : (fr gr : ℕ) (f : ℕ → Tree) → CoversFree fr f → CoversFree (unite_free fr gr) f
  pub unite_second : (fr gr : ℕ) (f : ℕ → Tree) → CoversFree gr f → CoversFree (unite_free fr gr) f
  pub project : (fr keep : ℕ) (f : ℕ → Tree) → CoversFree fr f → CoversFree (project_free fr keep) (only keep f)
  pub remove : (fr v : ℕ) (f u : ℕ → Tree) → ((x : ℕ) → has fr x ≡ true → has v x ≡ false → (r : ℕ) → occurs r (f x) ≡ true → IsVar (u r)) → CoversFree fr f → CoversFree (remove_free fr v) (λ x. instance u (f x))
