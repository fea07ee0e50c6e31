-- A state as the set of its instances: goals, groups told by marks, with a tuple. No variable has a name in it.
use Rattle.std.specs.Prelude.{◌≡◌, ℕ}
use Rattle.ap_term.specs.Tree.{Tree, Trees}
use Rattle.ap_term.specs.Substitution.{instance_all}
use Rattle.ap_tracked.specs.Tracked.{Tracked}
use Rattle.ap_tracked.specs.Marks.{marked}

-- an instance of the state has these goals and this tuple
abbrev pub Inst : Tracked → Trees → Trees → Type 0
Inst s gs t = (f : ℕ → Tree) × (gs ≡ instance_all f (marked s.goals)) × (t ≡ instance_all f s.tuple)
