-- Which variables of a clause are surely free at run time: a set of variables whose instances are variables
-- (Muthukumar and Hermenegildo, Combined Determination of Sharing and Freeness of Program Variables Through Abstract
-- Interpretation).
use Rattle.std.specs.Prelude.{◌≡◌, ℕ, true}
use Rattle.ap_term.specs.Tree.{Tree, var}
use Rattle.ap_sharing.specs.VarSet.{has, both, without}

abbrev pub IsVar : Tree → Type 0
IsVar t = (v : ℕ) × (t ≡ var v)

-- each free variable has a variable as its instance
abbrev pub CoversFree : ℕ → (ℕ → Tree) → Type 0
CoversFree fr f = (x : ℕ) → has fr x ≡ true → IsVar (f x)

-- what is free in both
abbrev pub unite_free : ℕ → ℕ → ℕ
unite_free fr gr = both fr gr

abbrev pub project_free : ℕ → ℕ → ℕ
project_free fr keep = both fr keep

-- what is free and isn't among the variables of v
abbrev pub remove_free : ℕ → ℕ → ℕ
remove_free fr v = without fr v
