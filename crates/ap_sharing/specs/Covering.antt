-- What a Share says of the instances of a clause's variables. Each number that is no variable of the clause has a
-- ground instance.
use Rattle.std.specs.Prelude.{◌≡◌, ℕ, Bool, true, false, if◌then◌else◌}
use Rattle.ap_term.specs.Tree.{Tree, var, atom}
use Rattle.ap_term.specs.Vars.{occurs}
use Rattle.ap_sharing.specs.VarSet.{has}
use Rattle.ap_sharing.specs.Share.{Share, Member}

-- for each variable at run time, the variables whose instances have it are a member
abbrev pub CoversShare : Share → (ℕ → Tree) → Type 0
CoversShare sh f = (u x : ℕ) → occurs u (f x) ≡ true → Member sh (λ y. occurs u (f y))

-- the instances of the variables that are kept
abbrev pub only : ℕ → (ℕ → Tree) → ℕ → Tree
only keep f x = if has keep x then f x else atom 0

-- u makes the instances of v ground and leaves all else alone; q tells what stands in them
pub record Grounds (v : ℕ) (q : ℕ → Bool) (f u : ℕ → Tree) : Type 0 where
  pub inside : (r : ℕ) → q r ≡ true → (z : ℕ) × (has v z ≡ true) × (occurs r (f z) ≡ true)
  pub outside : (r z : ℕ) → q r ≡ false → has v z ≡ true → occurs r (f z) ≡ false
  pub bound : (r w : ℕ) → q r ≡ true → occurs w (u r) ≡ false
  pub alone : (r : ℕ) → q r ≡ false → u r ≡ var r
