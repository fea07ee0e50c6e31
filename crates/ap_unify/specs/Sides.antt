-- What two cells ask for.
use Rattle.std.specs.Prelude.{◌≡◌, ℕ, List}
use Rattle.ap_term.specs.Tree.{Tree}
use Rattle.ap_term.specs.Substitution.{instance}
use Rattle.ap_cells.specs.declared.cells.Raw.{Raw}
use Rattle.ap_cells.specs.declared.cells.Raw.TheVariants.{Free, Same, Int, Atom, Node}
use Rattle.ap_cells.specs.Trees.{step}
use Rattle.ap_unify.specs.declared.unification.Sides.{Sides}
use Rattle.ap_unify.specs.declared.unification.Sides.TheVariants.{Both, Left, Right, Equal, Apart, Args}

abbrev pub IsTerm : Raw → Type 0
IsTerm Free = ⊥
IsTerm (Same j) = ⊥
IsTerm (Int z) = Unit {0}
IsTerm (Atom a) = Unit {0}
IsTerm (Node a p n) = Unit {0}

abbrev pub Fits : Raw → Raw → Sides → Type 0
Fits c d Both = (c ≡ Free) × (d ≡ Free)
Fits c d Left = (c ≡ Free) × IsTerm d
Fits c d Right = IsTerm c × (d ≡ Free)
Fits c d Equal = (ts : List Tree) (i j : ℕ) → step ts i c ≡ step ts j d
Fits c d Apart = (ts : List Tree) (i j : ℕ) (g : ℕ → Tree) → instance g (step ts i c) ≡ instance g (step ts j d) → ⊥
Fits c d (Args p q n) = (a : ℕ) × (c ≡ Node a p n) × (d ≡ Node a q n)
