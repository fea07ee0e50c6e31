-- What a task has left, read as plain states, and that its base leads there.
use Rattle.std.proofs.Common.{◌≡◌, ℕ, ◌+◌, ◌-◌, ◌<◌, ◌≤◌, ◌⊎◌, inl, inr, true, List, [], ◌∷◌, ◌++◌, refl, ap, sym, ◌∙◌, subst, arith, append-nil}
use Rattle.ap_term.specs.Tuples.{arguments}
use Rattle.ap_term.specs.Tree.{Tree, Trees, more, append_trees}
use Rattle.ap_term.specs.Vars.{occurs_all, LocalAll}
use Rattle.ap_term.specs.Substitution.{instance, instance_all}
use Rattle.ap_term.specs.Independence.{AreApart}
use Rattle.ap_term.proofs.Copies.{instance_all_twice}
use Rattle.ap_term.proofs.Locals.{LocalAll-occurs_all, LocalAll-instance_all, LocalAll-append_trees}
use Rattle.ap_laws.specs.Plain.{Plain, state, faulted, Ways, next_of, Renames, Locals, IsPlainBelow}
use Rattle.ap_laws.specs.Graft.{alone, lifted, lifted_var, fitted, graft, grafts, IsOwn, IsOf, AreOf}
use Rattle.ap_term.proofs.Zips.{AllByRecursion-append}
use Rattle.ap_term.proofs.TreeLists.{LocalAll-arguments}
use Rattle.ap_laws.specs.Gives.{Gives, Rejoins}
use Rattle.ap_laws.specs.Tasks.{Round, first, later, closed, Task, task, Alternatives, exhausted, plain, frame, Slots, no_slot, fresh, stored, busy, held, redone, again, drained, joined_if, flat_task, flat_alternatives, flat_slots, left, edge_alternatives, edge_slots, slot_goals}
use Rattle.ap_laws.proofs.Invariant.{base, base_alternatives, base_slots, cost, cost_alternatives, cost_slots, HasGiven, Strong, Pivot, Weak, TaskInvariant, AlternativesInvariant}
use Rattle.ap_laws.proofs.Graft.{lifted-old, lifted-new, Linked-lifted, LocalAll-IsOwn_below, IsOf-alone, graft-alone}
use Rattle.ap_laws.proofs.Dead.{Local-fitted}
use Rattle.ap_laws.proofs.Gives.{Gives-then, Gives-beside, Gives-none, Gives-less, Gives-graft, graft-answer}
use Rattle.std.proofs.lemmas.Bool.{cases_lt}

pub IsPlainBelow-IsOf : (g : Tree) (b : ℕ) (s : Plain) → IsOf g b s → IsPlainBelow s
IsPlainBelow-IsOf g b (faulted e j) o = tt
IsPlainBelow-IsOf g b (state G U m j) o = (LocalAll-IsOwn_below g b m G o.2, LocalAll-IsOwn_below g b m U o.3)

-- a graft on a state of a goal's search is one again
pub IsOf-graft : (h : Tree) (c : ℕ) (g : Tree) (K T : Trees) (b n k : ℕ) → b ≤ n → IsOf h c (state (more g K) T n k) → (a : Plain) → IsOf g b a → IsOf h c (graft b (state (more g K) T n k) a)
IsOf-graft h c g K T b n k bn o (faulted e j) q = tt
IsOf-graft h c g K T b n k bn o (state G U m j) q = (
  (λ x. instance (fitted g b n U) (o.0 x)),
  ap (instance_all (fitted g b n U)) o.1 ∙ instance_all_twice o.0 (fitted g b n U) (arguments h),
  LocalAll-append_trees (IsOwn h c (n + (m - b))) (instance_all (lifted_var b n) G) (instance_all (fitted g b n U) K) (LocalAll-instance_all (IsOwn g b m) (IsOwn h c (n + (m - b))) (lifted_var b n) moved G q.2) (rest K o.2.1),
  rest T o.3,
  omega (arith, o.4),
)
  where
    moved : (x : ℕ) → IsOwn g b m x → IsOwn h c (n + (m - b)) (lifted b n x)
    moved x p = ((Linked-lifted b n m (n + (m - b)) bn q.4 refl x p.0).3, go (cases_lt x b))
      where
        go : (x < b) ⊎ (b ≤ x) → lifted b n x < c → occurs_all (lifted b n x) (arguments h) ≡ true
        go (inl z) l = subst (λ v. occurs_all v (arguments h) ≡ true) (sym (lifted-old b n x z)) ((LocalAll-occurs_all (IsOwn h c n) (arguments g) (LocalAll-arguments (IsOwn h c n) g o.2.0) x (p.1 z)).1 (subst (λ v. v < c) (lifted-old b n x z) l))
        go (inr z) l = absurd (lem (lifted-new b n x z))
          where
            lem : lifted b n x ≡ n + (x - b) → ⊥
            lem e = omega (arith, e, l, o.4)

    rest : (ts : Trees) → LocalAll (IsOwn h c n) ts → LocalAll (IsOwn h c (n + (m - b))) (instance_all (fitted g b n U) ts)
    rest ts hs = LocalAll-instance_all (IsOwn h c n) (IsOwn h c (n + (m - b))) (fitted g b n U) (Local-fitted (IsOwn h c (n + (m - b))) (IsOwn h c n) g b n m q.0 U q.1 q.3 moved (λ x l p. (omega (arith, l.0), l.1))) ts hs

pub AreOf-grafts : (h : Tree) (c : ℕ) (g : Tree) (K T : Trees) (b n k : ℕ) → b ≤ n → IsOf h c (state (more g K) T n k) → (l : List Plain) → AreOf g b l → AreOf h c (grafts b (state (more g K) T n k) l)
AreOf-grafts h c g K T b n k bn o [] q = tt
AreOf-grafts h c g K T b n k bn o (a ∷ l) q = (IsOf-graft h c g K T b n k bn o a q.0, AreOf-grafts h c g K T b n k bn o l q.1)

pub minus-le : (a b c e : ℕ) → a ≤ b + e → a - c ≤ (b - c) + e
minus-le a b c e h = omega arith

pub more_than : (x a b c : ℕ) → a ≤ b + c → x + a ≤ (x + b) + c
more_than x a b c h = omega arith

pub next_of-le : (s : Plain) (n : ℕ) → next_of s ≡ n → next_of s ≤ n
next_of-le s n e = omega arith

module _ (A : Ways) (renames : Renames A) (locals : Locals A) where
  mutual
    pub Weak-Strong : (w : Slots) (b : ℕ) → Strong A b w → Weak A b w
    Weak-Strong no_slot b h = tt
    Weak-Strong (fresh g w) b h = (h.0, Weak-Strong w b h.1)
    Weak-Strong (stored g m w) b h = (h.0, h.1, Weak-Strong w b h.2)
    Weak-Strong (busy g t w) b h = (h.0, h.1, Weak-Strong w b h.3, h.2)
    Weak-Strong (held g m a t c w) b h = (h.0, h.1, h.2, h.3, Weak-Strong w b h.5, h.6)
    Weak-Strong (redone g m t i w) b h = absurd h
    Weak-Strong (again g m a t c w) b h = absurd h
    Weak-Strong (drained g m t i e w) b h = (h.0, h.1, Weak-Strong w b h.5, h.2)

    pub Weak-Pivot : (w : Slots) (b : ℕ) → Pivot A b w → Weak A b w
    Weak-Pivot no_slot b h = absurd h
    Weak-Pivot (fresh g w) b h = absurd h
    Weak-Pivot (stored g m w) b h = absurd h
    Weak-Pivot (busy g t w) b h = absurd h
    Weak-Pivot (held g m a t c w) b h = (h.0, h.1, h.2, h.3, Weak-Pivot w b h.4, h.5)
    Weak-Pivot (redone g m t i w) b h = (h.0, h.1, Weak-Strong w b h.2, h.3)
    Weak-Pivot (again g m a t c w) b h = (h.0, h.1, h.2, h.3, Weak-Strong w b h.4, h.5)
    Weak-Pivot (drained g m t i e w) b h = absurd h

  -- all that a task has left are states of its goal's search
  mutual
    pub AreOf-flat_task : (t : Task) (h : Tree) (z : ℕ) → TaskInvariant A h z t → AreOf h z (flat_task t)
    AreOf-flat_task (task c l) h z i = AreOf-flat_alternatives l h z i

    pub AreOf-flat_alternatives : (l : Alternatives) (h : Tree) (z : ℕ) → AlternativesInvariant A h z l → AreOf h z (flat_alternatives l)
    AreOf-flat_alternatives exhausted h z i = tt
    AreOf-flat_alternatives (plain s l) h z i = (i.0, AreOf-flat_alternatives l h z i.2)
    AreOf-flat_alternatives (frame s first w l) h z i =
        AllByRecursion-append (IsOf h z) (flat_slots w first (next_of s) s) (flat_alternatives l)
        (subst (λ x. AreOf h z (flat_slots w first (next_of s) x)) (sym i.1.4) (AreOf-flat_slots w h z first (next_of s) i.1.0 i.1.1 i.1.2 i.1.3 (next_of-le s i.1.2 (ap next_of i.1.4)) i.1.5 (subst (IsOf h z) i.1.4 i.0) (Weak-Strong w (next_of s) i.2)))
        (AreOf-flat_alternatives l h z i.4)
    AreOf-flat_alternatives (frame s later w l) h z i =
        AllByRecursion-append (IsOf h z) (flat_slots w later (next_of s) s) (flat_alternatives l)
        (subst (λ x. AreOf h z (flat_slots w later (next_of s) x)) (sym i.1.4) (AreOf-flat_slots w h z later (next_of s) i.1.0 i.1.1 i.1.2 i.1.3 (next_of-le s i.1.2 (ap next_of i.1.4)) i.1.5 (subst (IsOf h z) i.1.4 i.0) (Weak-Pivot w (next_of s) i.2)))
        (AreOf-flat_alternatives l h z i.4)
    AreOf-flat_alternatives (frame s closed w l) h z i =
        AllByRecursion-append (IsOf h z) (flat_slots w closed (next_of s) s) (flat_alternatives l)
        (subst (λ x. AreOf h z (flat_slots w closed (next_of s) x)) (sym i.1.4) (AreOf-flat_slots w h z closed (next_of s) i.1.0 i.1.1 i.1.2 i.1.3 (next_of-le s i.1.2 (ap next_of i.1.4)) i.1.5 (subst (IsOf h z) i.1.4 i.0) i.2))
        (AreOf-flat_alternatives l h z i.4)

    pub AreOf-flat_slots : (w : Slots) (h : Tree) (z : ℕ) (r : Round) (b : ℕ) (K T : Trees) (n k : ℕ) → b ≤ n → AreApart (slot_goals w) → IsOf h z (state (append_trees (slot_goals w) K) T n k) → Weak A b w
        → AreOf h z (flat_slots w r b (state (append_trees (slot_goals w) K) T n k))
    AreOf-flat_slots no_slot h z first b K T n k bn ind o i = (o, tt)
    AreOf-flat_slots no_slot h z later b K T n k bn ind o i = (o, tt)
    AreOf-flat_slots no_slot h z closed b K T n k bn ind o i = tt
    AreOf-flat_slots (fresh g w) h z r b K T n k bn ind o i = (o, tt)
    AreOf-flat_slots (stored g m w) h z r b K T n k bn ind o i = (o, tt)
    AreOf-flat_slots (busy g t w) h z r b K T n k bn ind o i = AreOf-grafts h z g (append_trees (slot_goals w) K) T b n k bn o (flat_task t) (AreOf-flat_task t g b i.1)
    AreOf-flat_slots (redone g m t j w) h z r b K T n k bn ind o i = AreOf-grafts h z g (append_trees (slot_goals w) K) T b n k bn o (flat_task t) (AreOf-flat_task t g b i.1)
    AreOf-flat_slots (drained g m t j e w) h z r b K T n k bn ind o i = AreOf-grafts h z g (append_trees (slot_goals w) K) T b n k bn o (flat_task t) (AreOf-flat_task t g b i.1)
    AreOf-flat_slots (held g m a t c w) h z r b K T n k bn ind o i =
        let q = graft-answer g (slot_goals w) K T b n k a bn (IsPlainBelow-IsOf h z (state (more g (append_trees (slot_goals w) K)) T n k) o) ind.0 i.2 i.3.0 in
        AllByRecursion-append (IsOf h z) (flat_slots w r b (graft b (state (more g (append_trees (slot_goals w) K)) T n k) a)) (grafts b (state (more g (append_trees (slot_goals w) K)) T n k) (flat_task t))
        (subst (λ x. AreOf h z (flat_slots w r b x)) (sym q.4)
        (AreOf-flat_slots w h z r b q.0 q.1 q.2 q.3 q.6 ind.1 (subst (IsOf h z) q.4 (IsOf-graft h z g (append_trees (slot_goals w) K) T b n k bn o a i.2)) i.4))
        (AreOf-grafts h z g (append_trees (slot_goals w) K) T b n k bn o (flat_task t) (AreOf-flat_task t g b i.1))
    AreOf-flat_slots (again g m a t c w) h z r b K T n k bn ind o i =
        let q = graft-answer g (slot_goals w) K T b n k a bn (IsPlainBelow-IsOf h z (state (more g (append_trees (slot_goals w) K)) T n k) o) ind.0 i.2 i.3.0 in
        AllByRecursion-append (IsOf h z) (flat_slots w r b (graft b (state (more g (append_trees (slot_goals w) K)) T n k) a)) (grafts b (state (more g (append_trees (slot_goals w) K)) T n k) (flat_task t))
        (subst (λ x. AreOf h z (flat_slots w r b x)) (sym q.4)
        (AreOf-flat_slots w h z r b q.0 q.1 q.2 q.3 q.6 ind.1 (subst (IsOf h z) q.4 (IsOf-graft h z g (append_trees (slot_goals w) K) T b n k bn o a i.2)) i.4))
        (AreOf-grafts h z g (append_trees (slot_goals w) K) T b n k bn o (flat_task t) (AreOf-flat_task t g b i.1))

  mutual
    pub AreOf-base : (t : Task) (h : Tree) (z : ℕ) → TaskInvariant A h z t → AreOf h z (base t)
    AreOf-base (task c l) h z i = AreOf-base_alternatives l h z i

    pub AreOf-base_alternatives : (l : Alternatives) (h : Tree) (z : ℕ) → AlternativesInvariant A h z l → AreOf h z (base_alternatives l)
    AreOf-base_alternatives exhausted h z i = tt
    AreOf-base_alternatives (plain s l) h z i = (i.0, AreOf-flat_alternatives l h z i.2)
    AreOf-base_alternatives (frame s first w l) h z i = (i.0, AreOf-flat_alternatives l h z i.4)
    AreOf-base_alternatives (frame s later w l) h z i =
        AllByRecursion-append (IsOf h z) (base_slots w (next_of s) s) (flat_alternatives l)
        (subst (λ x. AreOf h z (base_slots w (next_of s) x)) (sym i.1.4) (AreOf-base_slots w h z (next_of s) i.1.0 i.1.1 i.1.2 i.1.3 (next_of-le s i.1.2 (ap next_of i.1.4)) i.1.5 (subst (IsOf h z) i.1.4 i.0) i.2))
        (AreOf-flat_alternatives l h z i.4)
    AreOf-base_alternatives (frame s closed w l) h z i = AreOf-flat_alternatives (frame s closed w l) h z i

    pub AreOf-base_slots : (w : Slots) (h : Tree) (z : ℕ) (b : ℕ) (K T : Trees) (n k : ℕ) → b ≤ n → AreApart (slot_goals w) → IsOf h z (state (append_trees (slot_goals w) K) T n k) → Pivot A b w
        → AreOf h z (base_slots w b (state (append_trees (slot_goals w) K) T n k))
    AreOf-base_slots no_slot h z b K T n k bn ind o i = absurd i
    AreOf-base_slots (fresh g w) h z b K T n k bn ind o i = absurd i
    AreOf-base_slots (stored g m w) h z b K T n k bn ind o i = absurd i
    AreOf-base_slots (busy g t w) h z b K T n k bn ind o i = absurd i
    AreOf-base_slots (drained g m t j e w) h z b K T n k bn ind o i = absurd i
    AreOf-base_slots (redone g m t j w) h z b K T n k bn ind o i = AreOf-grafts h z g (append_trees (slot_goals w) K) T b n k bn o (base t) (AreOf-base t g b i.1)
    AreOf-base_slots (held g m a t c w) h z b K T n k bn ind o i =
        let q = graft-answer g (slot_goals w) K T b n k a bn (IsPlainBelow-IsOf h z (state (more g (append_trees (slot_goals w) K)) T n k) o) ind.0 i.2 i.3.0 in
        AllByRecursion-append (IsOf h z) (base_slots w b (graft b (state (more g (append_trees (slot_goals w) K)) T n k) a)) (grafts b (state (more g (append_trees (slot_goals w) K)) T n k) (flat_task t))
        (subst (λ x. AreOf h z (base_slots w b x)) (sym q.4)
        (AreOf-base_slots w h z b q.0 q.1 q.2 q.3 q.6 ind.1 (subst (IsOf h z) q.4 (IsOf-graft h z g (append_trees (slot_goals w) K) T b n k bn o a i.2)) i.4))
        (AreOf-grafts h z g (append_trees (slot_goals w) K) T b n k bn o (flat_task t) (AreOf-flat_task t g b i.1))
    AreOf-base_slots (again g m a t c w) h z b K T n k bn ind o i =
        (IsOf-graft h z g (append_trees (slot_goals w) K) T b n k bn o a i.2, AreOf-grafts h z g (append_trees (slot_goals w) K) T b n k bn o (flat_task t) (AreOf-flat_task t g b i.1))

  -- from the base to what is read
  mutual
    pub Gives-flat_task : (t : Task) (h : Tree) (z : ℕ) → TaskInvariant A h z t → (e : ℕ) × Gives A (base t) [] (flat_task t) e × (left t ≤ cost t + e)
    Gives-flat_task (task c l) h z i = let q = Gives-flat_alternatives l h z i in (q.0, q.1, omega (arith, q.2))

    pub Gives-flat_alternatives : (l : Alternatives) (h : Tree) (z : ℕ) → AlternativesInvariant A h z l → (e : ℕ) × Gives A (base_alternatives l) [] (flat_alternatives l) e × (edge_alternatives l ≤ cost_alternatives l + e)
    Gives-flat_alternatives exhausted h z i = (0, Gives-none A [], omega arith)
    Gives-flat_alternatives (plain s l) h z i = (0, Gives-none A (s ∷ flat_alternatives l), omega arith)
    Gives-flat_alternatives (frame s first w l) h z i = (
      edge_slots w,
      Gives-beside A (s ∷ []) [] (flat_slots w first (next_of s) s) (flat_alternatives l) (edge_slots w)
          (subst (λ x. Gives A (x ∷ []) [] (flat_slots w first (next_of s) x) (edge_slots w)) (sym i.1.4)
          (Gives-Strong w first (λ x. refl) (next_of s) i.1.0 i.1.1 i.1.2 i.1.3 (next_of-le s i.1.2 (ap next_of i.1.4)) i.1.5 (subst IsPlainBelow i.1.4 (IsPlainBelow-IsOf h z s i.0)) i.2)),
      omega arith,
    )
    Gives-flat_alternatives (frame s later w l) h z i =
        let q = Gives-Pivot w (next_of s) i.1.0 i.1.1 i.1.2 i.1.3 (next_of-le s i.1.2 (ap next_of i.1.4)) i.1.5 (subst IsPlainBelow i.1.4 (IsPlainBelow-IsOf h z s i.0)) i.2 in (
          q.0,
          Gives-beside A (base_slots w (next_of s) s) [] (flat_slots w later (next_of s) s) (flat_alternatives l) q.0
              (subst (λ x. Gives A (base_slots w (next_of s) x) [] (flat_slots w later (next_of s) x) q.0) (sym i.1.4) q.1),
          q.2,
        )
    Gives-flat_alternatives (frame s closed w l) h z i = (0, Gives-none A (flat_slots w closed (next_of s) s ++ flat_alternatives l), omega arith)

    pub Gives-Strong : (w : Slots) (r : Round) → ((s : Plain) → joined_if r s ≡ s ∷ []) → (b : ℕ) (K T : Trees) (n k : ℕ) → b ≤ n → AreApart (slot_goals w) → IsPlainBelow (state (append_trees (slot_goals w) K) T n k) → Strong A b w
        → Gives A (state (append_trees (slot_goals w) K) T n k ∷ []) [] (flat_slots w r b (state (append_trees (slot_goals w) K) T n k)) (edge_slots w)
    Gives-Strong no_slot r e b K T n k bn ind o i = subst (λ x. Gives A (state K T n k ∷ []) [] x 0) (sym (e (state K T n k))) (Gives-none A (state K T n k ∷ []))
    Gives-Strong (fresh g w) r e b K T n k bn ind o i = Gives-none A (state (more g (append_trees (slot_goals w) K)) T n k ∷ [])
    Gives-Strong (stored g m w) r e b K T n k bn ind o i = Gives-none A (state (more g (append_trees (slot_goals w) K)) T n k ∷ [])
    Gives-Strong (busy g t w) r e b K T n k bn ind o i =
        let q = Gives-flat_task t g b i.1 in
        subst (λ x. Gives A (x ∷ []) [] (grafts b (state (more g (append_trees (slot_goals w) K)) T n k) (flat_task t)) (left t)) (graft-alone g (append_trees (slot_goals w) K) T b n k i.0)
        (Gives-graft A renames locals g (append_trees (slot_goals w) K) T b n k bn o (alone g b ∷ []) (flat_task t) (left t) (IsOf-alone g b i.0, tt) (AreOf-flat_task t g b i.1)
        (Gives-less A (alone g b ∷ []) [] (flat_task t) (cost t + q.0) (left t) q.2 (Gives-then A (alone g b ∷ []) [] (base t) [] (flat_task t) (cost t) q.0 i.2 q.1)))
    Gives-Strong (held g m a t c w) r e b K T n k bn ind o i =
        let s : Plain = state (more g (append_trees (slot_goals w) K)) T n k in
        let q = graft-answer g (slot_goals w) K T b n k a bn o ind.0 i.2 i.3.0 in
        Gives-then A (s ∷ []) [] (graft b s a ∷ grafts b s (flat_task t)) [] (flat_slots w r b (graft b s a) ++ grafts b s (flat_task t)) c (edge_slots w)
        (subst (λ x. Gives A (x ∷ []) [] (graft b s a ∷ grafts b s (flat_task t)) c) (graft-alone g (append_trees (slot_goals w) K) T b n k i.0)
        (Gives-graft A renames locals g (append_trees (slot_goals w) K) T b n k bn o (alone g b ∷ []) (a ∷ flat_task t) c (IsOf-alone g b i.0, tt) (i.2, AreOf-flat_task t g b i.1) i.4))
        (Gives-beside A (graft b s a ∷ []) [] (flat_slots w r b (graft b s a)) (grafts b s (flat_task t)) (edge_slots w)
        (subst (λ x. Gives A (x ∷ []) [] (flat_slots w r b x) (edge_slots w)) (sym q.4) (Gives-Strong w r e b q.0 q.1 q.2 q.3 q.6 ind.1 q.5 i.5)))
    Gives-Strong (redone g m t j w) r e b K T n k bn ind o i = absurd i
    Gives-Strong (again g m a t c w) r e b K T n k bn ind o i = absurd i
    Gives-Strong (drained g m t j x w) r e b K T n k bn ind o i =
        let s : Plain = state (more g (append_trees (slot_goals w) K)) T n k in
        let q = Gives-flat_task t g b i.1 in
        Gives-less A (s ∷ []) [] (grafts b s (flat_task t)) ((x + (cost t - j)) + q.0) (x + (left t - j)) (more_than x (left t - j) (cost t - j) q.0 (minus-le (left t) (cost t) j q.0 q.2))
        (Gives-then A (s ∷ []) [] (grafts b s (base t)) [] (grafts b s (flat_task t)) (x + (cost t - j)) q.0 (i.4 K T n k bn o)
        (Gives-graft A renames locals g (append_trees (slot_goals w) K) T b n k bn o (base t) (flat_task t) q.0 (AreOf-base t g b i.1) (AreOf-flat_task t g b i.1) q.1))

    pub Gives-Pivot : (w : Slots) (b : ℕ) (K T : Trees) (n k : ℕ) → b ≤ n → AreApart (slot_goals w) → IsPlainBelow (state (append_trees (slot_goals w) K) T n k) → Pivot A b w
        → (e : ℕ) × Gives A (base_slots w b (state (append_trees (slot_goals w) K) T n k)) [] (flat_slots w later b (state (append_trees (slot_goals w) K) T n k)) e × (edge_slots w ≤ cost_slots w + e)
    Gives-Pivot no_slot b K T n k bn ind o i = absurd i
    Gives-Pivot (fresh g w) b K T n k bn ind o i = absurd i
    Gives-Pivot (stored g m w) b K T n k bn ind o i = absurd i
    Gives-Pivot (busy g t w) b K T n k bn ind o i = absurd i
    Gives-Pivot (drained g m t j x w) b K T n k bn ind o i = absurd i
    Gives-Pivot (redone g m t j w) b K T n k bn ind o i =
        let q = Gives-flat_task t g b i.1 in
        (q.0, Gives-graft A renames locals g (append_trees (slot_goals w) K) T b n k bn o (base t) (flat_task t) q.0 (AreOf-base t g b i.1) (AreOf-flat_task t g b i.1) q.1, minus-le (left t) (cost t) j q.0 q.2)
    Gives-Pivot (held g m a t c w) b K T n k bn ind o i =
        let s : Plain = state (more g (append_trees (slot_goals w) K)) T n k in
        let q = graft-answer g (slot_goals w) K T b n k a bn o ind.0 i.2 i.3.0 in
        let v = Gives-Pivot w b q.0 q.1 q.2 q.3 q.6 ind.1 q.5 i.4 in (
          v.0,
          Gives-beside A (base_slots w b (graft b s a)) [] (flat_slots w later b (graft b s a)) (grafts b s (flat_task t)) v.0
              (subst (λ x. Gives A (base_slots w b x) [] (flat_slots w later b x) v.0) (sym q.4) v.1),
          omega (arith, v.2),
        )
    Gives-Pivot (again g m a t c w) b K T n k bn ind o i =
        let s : Plain = state (more g (append_trees (slot_goals w) K)) T n k in
        let q = graft-answer g (slot_goals w) K T b n k a bn o ind.0 i.2 i.3.0 in (
          edge_slots w,
          Gives-beside A (graft b s a ∷ []) [] (flat_slots w later b (graft b s a)) (grafts b s (flat_task t)) (edge_slots w)
              (subst (λ x. Gives A (x ∷ []) [] (flat_slots w later b x) (edge_slots w)) (sym q.4) (Gives-Strong w later (λ x. refl) b q.0 q.1 q.2 q.3 q.6 ind.1 q.5 i.4)),
          omega arith,
        )

  -- 'right' of each slot's task, with its answers so far
  pub Rejoins-HasGiven : (g : Tree) (b : ℕ) (m : List Plain) (t : Task) → TaskInvariant A g b t → HasGiven A g b m t → Rejoins A (alone g b) m (flat_task t) (left t)
  Rejoins-HasGiven g b m t i p =
      let q = Gives-flat_task t g b i in
      Gives-less A (alone g b ∷ []) m (flat_task t) (cost t + q.0) (left t) q.2
      (subst (λ z. Gives A (alone g b ∷ []) z (flat_task t) (cost t + q.0)) (append-nil m)
      (Gives-then A (alone g b ∷ []) m (base t) [] (flat_task t) (cost t) q.0 p q.1))
