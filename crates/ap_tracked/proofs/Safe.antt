-- Certificates along a search.
use Rattle.std.proofs.Common.{◌≡◌, ℕ, suc, ◌+◌, arith, subst}
use Rattle.ap_term.specs.Tree.{Tree}
use Rattle.ap_term.specs.Substitution.{instance}
use Rattle.ap_term.specs.Goals.{Program}
use Rattle.ap_tracked.specs.Tracked.{Tracked, IsOneOf, children}
use Rattle.ap_tracked.specs.Forks.{Fork, Forks, here, below, beside, alone, IsUnused, IsGoalOf, ComesFirst}
use Rattle.ap_tracked.specs.Safe.{IsIndependent, IsSafe}
use Rattle.ap_tracked.specs.Laws.{SafeLaw}

-- to a greater depth the search comes to the same groups
pub deeper : {p : Program} {s : Tracked} {d : ℕ} {f : Fork} (e : ℕ) → Forks p s d f → Forks p s (d + e) f
deeper e (here h c) = here (omega (arith, h)) c
deeper e (below t h o k) = below t (omega (arith, h)) o (deeper e k)
deeper e (beside a g n k i u m) = beside a g n (deeper e k) i u (deeper e m)

child : (p : Program) (s t : Tracked) → IsSafe p s → IsOneOf t (children p s) → IsSafe p t
child p s t h o d f k = h (d + suc s.steps) f (below t (omega arith) o (deeper (suc s.steps) k))

first : (p : Program) (s : Tracked) (f : Fork) → IsSafe p s → ComesFirst f s.goals → IsIndependent f
first p s f h c = h s.steps f (here (omega arith) c)

goal : (p : Program) (s : Tracked) (f : Fork) (g : Tree) (n : ℕ) → IsSafe p s → ComesFirst f s.goals → IsGoalOf g f.goals → IsUnused n (instance f.own g) → IsSafe p (alone (instance f.own g) n)
goal p s f g n h c i u d e k = h (s.steps + d) e (beside f g n (here (omega arith) c) i u (up k))
  where
    up : Forks p (alone (instance f.own g) n) d e → Forks p (alone (instance f.own g) n) (s.steps + d) e
    up k = let m : d + s.steps ≡ s.steps + d = omega arith in subst (λ j. Forks p (alone (instance f.own g) n) j e) m (deeper s.steps k)

pub safe : SafeLaw
safe = record { children = child; goals = goal; group = first }
