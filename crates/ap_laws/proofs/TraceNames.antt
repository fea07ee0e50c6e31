-- Traces of plain states that are the same up to names.
use Rattle.std.proofs.Common.{◌≡◌, ℕ, zero, suc, ◌+◌, List, [], ◌∷◌, Option, Some, None, refl, ap}
use Rattle.std.specs.List.{AllZip}
use Rattle.ap_term.specs.Tuples.{arguments}
use Rattle.ap_term.specs.declared.faults.Fault.{Fault}
use Rattle.ap_term.specs.Search.{State}
use Rattle.ap_term.specs.Tree.{Tree, Trees, var, int, atom, node, none, more, append_trees}
use Rattle.ap_term.specs.Substitution.{value}
use Rattle.ap_laws.specs.Renaming.{Renamed, RenamedAll, Linked}
use Rattle.ap_term.specs.Goals.{plain_goals}
use Rattle.ap_laws.specs.Plain.{Plain, state, faulted, PlainWay, way, fault_way, Ways, plain_child, plain_children_by, RenamedPlainWay, RenamedPlainWays, Renames, SamePlain, SamePlainBy, plain_ways, plain_by, plain_of}
use Rattle.ap_laws.specs.Trace.{trace, SameAction}
use Rattle.ap_laws.specs.SearchLaws.{TraceRenamingLaw}
use Rattle.ap_term.proofs.Zips.{AllZip-flat_map}
use Rattle.ap_laws.proofs.Renamed.{Renamed-weaken, RenamedAll-weaken, Renamed-value, RenamedAll-instance_all}
use Rattle.ap_laws.proofs.Ways.{IsOneToOne-Linked, Linked-more, continued, Continues-continued, Linked-continued}
use Rattle.ap_laws.proofs.Plain.{RenamedAll-append_trees, RenamedAll-plain_goals, Renames-plain_ways}

module _ (f g : ℕ → ℕ) (G T H U : Trees) (n m k j : ℕ) (hG : RenamedAll (Linked f g n m) G H) (hT : RenamedAll (Linked f g n m) T U) (hk : k ≡ j) where
  SamePlain-plain_child : (v w : PlainWay) → RenamedPlainWay f g n m v w → SamePlain (plain_child G T n k v) (plain_child H U m j w)
  SamePlain-plain_child (way s b u) (way r c v) h = (
    f,
    g,
    (
      RenamedAll-instance_all R R (value s) (value r) values (append_trees b G) (append_trees c H)
          (RenamedAll-append_trees R b c G H h.2 (RenamedAll-weaken (Linked f g n m) R (Linked-more f g n m u v) G H hG)),
      RenamedAll-instance_all R R (value s) (value r) values T U (RenamedAll-weaken (Linked f g n m) R (Linked-more f g n m u v) T U hT),
      ap (λ i. i + 1) hk,
    ),
  )
    where
      R : ℕ → ℕ → Type 0
      R = Linked f g (n + u) (m + v)

      values : (x y : ℕ) → R x y → Renamed R (value s x) (value r y)
      values = Renamed-value R (IsOneToOne-Linked f g (n + u) (m + v)) s r h.1
  SamePlain-plain_child (fault_way e) (fault_way i) h = (f, g, (h, ap (λ i. i + 1) hk))
  SamePlain-plain_child (way s b u) (fault_way i) h = absurd h
  SamePlain-plain_child (fault_way e) (way r c v) h = absurd h

  SamePlain-plain_children_by : (l l' : List PlainWay) → RenamedPlainWays f g n m l l' → AllZip SamePlain (plain_children_by G T n k l) (plain_children_by H U m j l')
  SamePlain-plain_children_by [] [] h = tt
  SamePlain-plain_children_by (v ∷ l) (w ∷ l') h = (SamePlain-plain_child v w h.0, SamePlain-plain_children_by l l' h.1)
  SamePlain-plain_children_by [] (_ ∷ _) h = absurd h
  SamePlain-plain_children_by (_ ∷ _) [] h = absurd h

module _ (A : Ways) (renames : Renames A) where
  pub SameAction-trace : (r : ℕ) (s t : Plain) → SamePlain s t → AllZip SameAction (trace A r s) (trace A r t)
  unfolding trace
  SameAction-trace zero (state none T n k) (state none U m j) h = ((h, refl), tt)
  SameAction-trace (suc r) (state none T n k) (state none U m j) h = ((h, refl), tt)
  SameAction-trace zero (faulted e k) (faulted i j) h = ((h, refl), tt)
  SameAction-trace (suc r) (faulted e k) (faulted i j) h = ((h, refl), tt)
  SameAction-trace r (state _ _ _ _) (faulted _ _) h = absurd h.2
  SameAction-trace r (faulted _ _) (state _ _ _ _) h = absurd h.2
  SameAction-trace zero (state (more a G) T n k) (state (more b H) U m j) h = (tt, tt)
  SameAction-trace (suc r) (state (more a G) T n k) (state (more b H) U m j) h = (
    tt,
    AllZip-flat_map SamePlain SameAction (λ s. trace A r s) (λ s. trace A r s) (SameAction-trace r) (plain_children_by G T n k (A a n)) (plain_children_by H U m j (A b m))
        (SamePlain-plain_children_by f g G T H U n m k j (RenamedAll-weaken (Linked h.0 h.1 n m) (Linked f g n m) (Linked-continued h.0 h.1 n m) G H h.2.0.1)
        (RenamedAll-weaken (Linked h.0 h.1 n m) (Linked f g n m) (Linked-continued h.0 h.1 n m) T U h.2.1) h.2.2 (A a n) (A b m)
        (renames f g n m a b (Continues-continued h.0 n m) (Continues-continued h.1 m n) (Renamed-weaken (Linked h.0 h.1 n m) (Linked f g n m) (Linked-continued h.0 h.1 n m) a b h.2.0.0))),
  )
    where
      f : ℕ → ℕ
      f = continued h.0 n m

      g : ℕ → ℕ
      g = continued h.1 m n
  SameAction-trace zero (state none _ _ _) (state (more _ _) _ _ _) h = absurd h.2.0
  SameAction-trace (suc _) (state none _ _ _) (state (more _ _) _ _ _) h = absurd h.2.0
  SameAction-trace zero (state (more _ _) _ _ _) (state none _ _ _) h = absurd h.2.0
  SameAction-trace (suc _) (state (more _ _) _ _ _) (state none _ _ _) h = absurd h.2.0

RenamedAll-arguments : (R : ℕ → ℕ → Type 0) (t u : Tree) → Renamed R t u → RenamedAll R (arguments t) (arguments u)
RenamedAll-arguments R (var x) (var y) h = (h, tt)
RenamedAll-arguments R (int x) (int y) h = tt
RenamedAll-arguments R (atom x) (atom y) h = tt
RenamedAll-arguments R (node a ts) (node b us) h = h.1
RenamedAll-arguments R _ _ h = absurd h

SamePlainBy-plain_by : (f g : ℕ → ℕ) (s t : State) → RenamedAll (Linked f g s.next t.next) (plain_goals s.goals) (plain_goals t.goals) → RenamedAll (Linked f g s.next t.next) s.tuple t.tuple
    → s.steps ≡ t.steps → s.fault ≡ t.fault → SamePlainBy f g (plain_of s) (plain_of t)
SamePlainBy-plain_by f g s t h k q r = go s.fault t.fault (plain_goals s.goals) (plain_goals t.goals) r h
  where
    go : (e i : Option Fault) (G H : Trees) → e ≡ i → RenamedAll (Linked f g s.next t.next) G H → SamePlainBy f g (plain_by e G s.tuple s.next s.steps) (plain_by i H t.tuple t.next t.steps)
    go e i (more a G) (more b H) r h = (h, k, q)
    go None None none none r h = (tt, k, q)
    go (Some e) (Some i) none none r h = (cc, q)
    go None (Some i) none none r h = cc
    go (Some e) None none none r h = cc
    go e i none (more _ _) r h = absurd h
    go e i (more _ _) none r h = absurd h

pub trace_renaming : TraceRenamingLaw
trace_renaming p good = (
  λ s t h. (h.0, h.1, SamePlainBy-plain_by h.0 h.1 s t (RenamedAll-plain_goals (Linked h.0 h.1 s.next t.next) s.goals t.goals h.2.0) h.2.1 h.2.2 h.2.3),
  λ f g b c t u h. (f, g, ((h, tt), RenamedAll-arguments (Linked f g b c) t u h, refl)),
  λ s t h r. SameAction-trace (plain_ways p) (Renames-plain_ways p good) r s t h,
)
