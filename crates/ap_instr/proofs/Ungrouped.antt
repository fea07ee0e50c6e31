-- Bodies without groups ask for their goals alone.
use Rattle.std.proofs.Common.{◌≡◌, ℕ, map, refl, ap}
use Rattle.ap_term.specs.Tree.{Tree, Trees, none, more}
use Rattle.ap_term.specs.Substitution.{instance, instance_all}
use Rattle.ap_term.specs.Goals.{calls}
use Rattle.ap_tracked.specs.Tracked.{placed}
use Rattle.ap_tracked.specs.Marks.{marked}

pub marked-calls : (f : ℕ → Tree) (ts : Trees) → marked (map (placed f) (calls ts)) ≡ instance_all f ts
marked-calls f none = refl
marked-calls f (more t ts) = ap (more (instance f t)) (marked-calls f ts)
