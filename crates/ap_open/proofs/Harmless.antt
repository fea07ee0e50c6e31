-- As long as no call ends a search by a fault, no goal meets one.
use Rattle.std.proofs.Common.{◌≡◌, ℕ, zero, suc, ◌+◌, List, [], ◌∷◌, map, Option, Some, None, refl, sym, subst}
use Rattle.std.specs.List.{flat_map, AllByRecursion}
use Rattle.ap_term.specs.Tree.{Tree, Trees, none, more}
use Rattle.ap_term.specs.Substitution.{instance, Subst, shift}
use Rattle.ap_term.specs.Unification.{mgu}
use Rattle.ap_term.specs.Goals.{Part, Program, instance_part}
use Rattle.ap_term.specs.Builtins.{builtin}
use Rattle.ap_term.specs.Search.{Way, way_if, clause_way, ways_by}
use Rattle.ap_term.proofs.Zips.{AllByRecursion-append, AllByRecursion-map}
use Rattle.ap_laws.specs.Plain.{Plain, state, faulted, PlainWay, way, fault_way, way_by, plain_way, plain_ways, plain_children_by, IsAnswer}
use Rattle.ap_laws.specs.Trace.{trace, AllAnswers}
use Rattle.ap_laws.specs.Graft.{alone, IsHarmless}
use Rattle.ap_laws.proofs.Traces.{AllAnswers-flat_map}

abbrev HasNoFault : Way → Type 0
HasNoFault w = w.fault ≡ None

none_if : (o : Option Subst) (body : List Part) (n : ℕ) → AllByRecursion HasNoFault (way_if o body n)
none_if None body n = tt
none_if (Some s) body n = (refl, tt)

none_by : (p : Program) (n : ℕ) (g : Tree) (o : Option (Option Subst)) → AllByRecursion HasNoFault (ways_by p n g o)
none_by p n g (Some o) = none_if o [] 0
none_by [] n g None = tt
none_by (c ∷ p) n g None =
    AllByRecursion-append HasNoFault (clause_way n g c) (flat_map (clause_way n g) p) (none_if (mgu g (instance (shift n) c.head)) (map (instance_part (shift n)) c.body) (c.vars + 1)) (none_by p n g None)

abbrev IsWay : PlainWay → Type 0
IsWay (way s b u) = Unit {0}
IsWay (fault_way e) = ⊥

way_is : (w : Way) → HasNoFault w → IsWay (plain_way w)
way_is w h = subst (λ e. IsWay (way_by e w)) (sym h) tt

abbrev IsState : Plain → Type 0
IsState (state G T n k) = Unit {0}
IsState (faulted e k) = ⊥

children_are : (G T : Trees) (n k : ℕ) (l : List PlainWay) → AllByRecursion IsWay l → AllByRecursion IsState (plain_children_by G T n k l)
children_are G T n k [] h = tt
children_are G T n k (way s b u ∷ l) h = (tt, children_are G T n k l h.1)
children_are G T n k (fault_way e ∷ l) h = absurd h.0

none_met : (p : Program) (r : ℕ) (s : Plain) → IsState s → AllAnswers (λ a l. IsAnswer a) (trace (plain_ways p) r s)
unfolding trace
none_met p zero (state none T n k) h = (tt, tt)
none_met p (suc r) (state none T n k) h = (tt, tt)
none_met p zero (faulted e k) h = absurd h
none_met p (suc r) (faulted e k) h = absurd h
none_met p zero (state (more g G) T n k) h = tt
none_met p (suc r) (state (more g G) T n k) h =
    AllAnswers-flat_map (λ a l. IsAnswer a) IsState (λ s. trace (plain_ways p) r s) (none_met p r) (plain_children_by G T n k (plain_ways p g n))
    (children_are G T n k (plain_ways p g n) (AllByRecursion-map HasNoFault IsWay plain_way way_is (ways_by p n g (builtin g)) (none_by p n g (builtin g))))

pub harmless : (p : Program) (g : Tree) (b : ℕ) → IsHarmless (plain_ways p) g b
harmless p g b r = none_met p r (alone g b) tt
