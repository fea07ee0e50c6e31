-- The algebra of what searches give.
use Rattle.std.proofs.Common.{◌≡◌, ℕ, suc, ◌+◌, ◌-◌, ◌<◌, ◌≤◌, Bool, true, false, List, [], ◌∷◌, ◌++◌, refl, ap, ap₂, sym, ◌∙◌, subst, arith, append-nil, append_assoc, le_trans}
use Rattle.std.proofs.lemmas.Bool.{false≢true}
use Rattle.std.proofs.lemmas.Grind.{flat_map-append}
use Rattle.ap_term.specs.Tuples.{arguments}
use Rattle.ap_term.specs.Tree.{Tree, Trees, none, more, append_trees}
use Rattle.ap_term.specs.Vars.{occurs, occurs_all, Local, LocalAll}
use Rattle.ap_term.specs.Substitution.{instance_all}
use Rattle.ap_term.specs.Independence.{IsApart, AreApart}
use Rattle.ap_term.proofs.Locals.{Local-each, Local-weaken}
use Rattle.ap_term.proofs.TreeLists.{instance_all-append_trees}
use Rattle.ap_laws.specs.Plain.{Plain, state, faulted, Ways, IsAnswer, IsEnded, steps_of, plain_children, Renames, Locals, IsPlainBelow}
use Rattle.ap_laws.specs.Trace.{Action, called, cut, answered, trace, trace_to, traces, answers_in, calls_in, followed, AllAnswers, NoAnswers}
use Rattle.ap_laws.specs.Graft.{alone, fitted, graft, grafts, IsOf, AreOf, IsDead, AreHarmless}
use Rattle.ap_laws.specs.Gives.{Thins, thins_none, thins_keep, thins_drop, GivesAt, Gives}
use Rattle.ap_laws.proofs.Graft.{followed-append, flat_map-grafts, trace-graft, IsOf-alone}
use Rattle.ap_laws.proofs.Traces.{AllAnswers-append, AllAnswers-and, AllAnswers-IsOf, answers_in-append, calls_in-append, trace-more}
use Rattle.ap_laws.proofs.Dead.{occurs_all-arguments, instance-fitted_apart, IsPlainBelow-graft, NoAnswers-followed, AllAnswers-weaken, trace-split}

pub followed-none : (p : List Action) (k : Plain → ℕ → List Action) → NoAnswers p → followed p k ≡ p
followed-none [] k h = refl
followed-none (called ∷ p) k h = ap (λ z. called ∷ z) (followed-none p k h)
followed-none (cut ∷ p) k h = ap (λ z. cut ∷ z) (followed-none p k h)
followed-none (answered s l ∷ p) k h = absurd h.0

pub NoAnswers-none : (p : List Action) → answers_in p ≡ [] → NoAnswers p
NoAnswers-none [] h = tt
NoAnswers-none (called ∷ p) h = NoAnswers-none p h
NoAnswers-none (cut ∷ p) h = NoAnswers-none p h
NoAnswers-none (answered s l ∷ p) h = cc

pub answers_in-none : (p : List Action) → NoAnswers p → answers_in p ≡ []
answers_in-none [] h = refl
answers_in-none (called ∷ p) h = answers_in-none p h
answers_in-none (cut ∷ p) h = answers_in-none p h
answers_in-none (answered s l ∷ p) h = absurd h.0

-- ---- calls left out

pub Thins-same : (es : List Action) → Thins es es
Thins-same [] = thins_none
Thins-same (x ∷ es) = thins_keep (Thins-same es)

pub Thins-append : {a b : List Action} (c d : List Action) → Thins a b → Thins c d → Thins (a ++ c) (b ++ d)
Thins-append c d thins_none k = k
Thins-append c d (thins_keep h) k = thins_keep (Thins-append c d h k)
Thins-append c d (thins_drop q h) k = thins_drop q (Thins-append c d h k)

pub Thins-then : {x y z : List Action} → Thins x y → Thins y z → Thins x z
Thins-then thins_none k = k
Thins-then (thins_drop q h) k = thins_drop q (Thins-then h k)
Thins-then (thins_keep h) (thins_keep k) = thins_keep (Thins-then h k)
Thins-then (thins_keep h) (thins_drop q k) = thins_drop q (Thins-then h k)

-- the first part of what is left of a list, and the second one
pub Thins-parts : (x q y : List Action) → Thins x (q ++ y) → (u : List Action) × (v : List Action) × (x ≡ u ++ v) × Thins u q × Thins v y
Thins-parts x [] y h = ([], x, refl, thins_none, h)
Thins-parts [] (z ∷ q) y h = elim h [ ]
Thins-parts (w ∷ x) (z ∷ q) y (thins_drop e h) = let r = Thins-parts x (z ∷ q) y h in (w ∷ r.0, r.1, ap (λ l. w ∷ l) r.2, thins_drop e r.3, r.4)
Thins-parts (w ∷ x) (z ∷ q) y (thins_keep h) = let r = Thins-parts x q y h in (z ∷ r.0, r.1, ap (λ l. z ∷ l) r.2, thins_keep r.3, r.4)

pub answers_in-Thins : {x y : List Action} → Thins x y → answers_in x ≡ answers_in y
answers_in-Thins thins_none = refl
answers_in-Thins (thins_drop {x = called} q h) = answers_in-Thins h
answers_in-Thins (thins_drop {x = cut} q h) = answers_in-Thins h
answers_in-Thins (thins_drop {x = answered s l} q h) = absurd q
answers_in-Thins (thins_keep {x = called} h) = answers_in-Thins h
answers_in-Thins (thins_keep {x = cut} h) = answers_in-Thins h
answers_in-Thins (thins_keep {x = answered s l} h) = ap (λ z. s ∷ z) (answers_in-Thins h)

pub calls_in-Thins : {x y : List Action} → Thins x y → calls_in y ≤ calls_in x
calls_in-Thins thins_none = omega arith
calls_in-Thins (thins_drop {x = called} q h) = let k = calls_in-Thins h in omega (arith, k)
calls_in-Thins (thins_drop {x = cut} q h) = calls_in-Thins h
calls_in-Thins (thins_drop {x = answered s l} q h) = absurd q
calls_in-Thins (thins_keep {x = called} h) = let k = calls_in-Thins h in omega (arith, k)
calls_in-Thins (thins_keep {x = cut} h) = calls_in-Thins h
calls_in-Thins (thins_keep {x = answered s l} h) = calls_in-Thins h

pub Thins-followed : {x y : List Action} (k : Plain → ℕ → List Action) → Thins x y → Thins (followed x k) (followed y k)
Thins-followed k thins_none = thins_none
Thins-followed k (thins_drop {x = called} q h) = thins_drop q (Thins-followed k h)
Thins-followed k (thins_drop {x = cut} q h) = thins_drop q (Thins-followed k h)
Thins-followed k (thins_drop {x = answered s l} q h) = absurd q
Thins-followed k (thins_keep {x = called} h) = thins_keep (Thins-followed k h)
Thins-followed k (thins_keep {x = cut} h) = thins_keep (Thins-followed k h)
Thins-followed k (thins_keep {x = answered s l} h) = Thins-append _ _ (Thins-same (k s l)) (Thins-followed k h)

-- a trace is more than its answers alone
pub Thins-answers_in : (A : Ways) (d : ℕ) (es : List Action) → AllAnswers (λ a l. (l + steps_of a ≡ (d - 0) + 0) × IsEnded a) es → Thins es (traces A d (answers_in es))
unfolding trace
Thins-answers_in A d [] h = thins_none
Thins-answers_in A d (called ∷ es) h = thins_drop tt (Thins-answers_in A d es h)
Thins-answers_in A d (cut ∷ es) h = thins_drop tt (Thins-answers_in A d es h)
Thins-answers_in A d (answered (state none T n k) l ∷ es) h =
    subst (λ z. Thins (answered (state none T n k) l ∷ es) (answered (state none T n k) z ∷ traces A d (answers_in es))) (left_over d k l h.0.0) (thins_keep (Thins-answers_in A d es h.1))
  where
    left_over : (d k l : ℕ) → l + k ≡ (d - 0) + 0 → l ≡ d - k
    left_over d k l e = omega arith
Thins-answers_in A d (answered (state (more g G) T n k) l ∷ es) h = absurd h.0.1
Thins-answers_in A d (answered (faulted e k) l ∷ es) h =
    subst (λ z. Thins (answered (faulted e k) l ∷ es) (answered (faulted e k) z ∷ traces A d (answers_in es))) (left_over d k l h.0.0) (thins_keep (Thins-answers_in A d es h.1))
  where
    left_over : (d k l : ℕ) → l + k ≡ (d - 0) + 0 → l ≡ d - k
    left_over d k l e = omega arith

module _ (A : Ways) where
  pub GivesAt-then : (d : ℕ) (l a m b r : List Plain) (c e : ℕ) → GivesAt A d l a m c → GivesAt A d m b r e → GivesAt A d l (a ++ b) r (c + e)
  GivesAt-then d l a m b r c e x y =
      let q = Thins-parts x.1 y.0 y.1 (subst (Thins x.1) y.2 x.5) in (
        x.0 ++ q.0,
        q.1,
        x.2 ∙ ap (λ z. x.0 ++ z) q.2 ∙ sym (append_assoc x.0 q.0 q.1),
        answers_in-append x.0 q.0 ∙ ap₂ (λ u v. u ++ v) x.3 (answers_in-Thins q.3 ∙ y.3),
        subst (λ z. c + e ≤ z) (sym (calls_in-append x.0 q.0)) (omega (arith, x.4, y.4, calls_in-Thins q.3)),
        Thins-then q.4 y.5,
      )

  -- one after the other
  pub Gives-then : (l a m b r : List Plain) (c e : ℕ) → Gives A l a m c → Gives A m b r e → Gives A l (a ++ b) r (c + e)
  Gives-then l a m b r c e h j = (h.0 + j.0, λ d k. GivesAt-then d l a m b r c e (h.1 d (omega arith)) (j.1 d (omega arith)))

  -- beside further states
  pub Gives-beside : (l a m r : List Plain) (c : ℕ) → Gives A l a m c → Gives A (l ++ r) a (m ++ r) c
  Gives-beside l a m r c h = (h.0, λ d k. at d (h.1 d k))
    where
      at : (d : ℕ) → GivesAt A d l a m c → GivesAt A d (l ++ r) a (m ++ r) c
      at d x = (
        x.0,
        x.1 ++ traces A d r,
        flat_map-append (λ u. trace_to A d u) l r ∙ ap (λ z. z ++ traces A d r) x.2 ∙ append_assoc x.0 x.1 (traces A d r),
        x.3,
        x.4,
        subst (Thins (x.1 ++ traces A d r)) (sym (flat_map-append (λ u. trace_to A d u) m r)) (Thins-append (traces A d r) (traces A d r) x.5 (Thins-same (traces A d r))),
      )

  -- the same search, or one with more calls
  pub Gives-thin : (l m : List Plain) (n : ℕ) → ((d : ℕ) → n ≤ d → Thins (traces A d l) (traces A d m)) → Gives A l [] m 0
  Gives-thin l m n h = (n, λ d k. ([], traces A d l, refl, refl, omega arith, h d k))

  -- nothing done
  pub Gives-none : (l : List Plain) → Gives A l [] l 0
  Gives-none l = Gives-thin l l 0 (λ d k. Thins-same (traces A d l))

  pub Gives-less : (l a m : List Plain) (c e : ℕ) → e ≤ c → Gives A l a m c → Gives A l a m e
  Gives-less l a m c e h q = (q.0, λ d b. at d (q.1 d b))
    where
      at : (d : ℕ) → GivesAt A d l a m c → GivesAt A d l a m e
      at d x = (x.0, x.1, x.2, x.3, le_trans h x.4, x.5)

  -- an answer taken
  pub Gives-answer : (T : Trees) (n k : ℕ) (l : List Plain) → Gives A (state none T n k ∷ l) (state none T n k ∷ []) l 0
  unfolding trace
  Gives-answer T n k l = (0, λ d q. (answered (state none T n k) (d - k) ∷ [], traces A d l, refl, refl, omega arith, Thins-same (traces A d l)))

  -- a call
  pub Gives-infer : (g : Tree) (G T : Trees) (n k : ℕ) → Gives A (state (more g G) T n k ∷ []) [] (plain_children A (state (more g G) T n k)) 1
  Gives-infer g G T n k = (
    k + 1,
    λ d q. (
      called ∷ [],
      traces A d (plain_children A (state (more g G) T n k)),
      append-nil (trace A (d - k) (state (more g G) T n k)) ∙ trace-more A d k (d - suc k) (omega arith) g G T n,
      refl,
      omega arith,
      Thins-same (traces A d (plain_children A (state (more g G) T n k))),
    ),
  )

module _ (A : Ways) (renames : Renames A) (locals : Locals A) where
  pub traces-grafts : (g : Tree) (K T : Trees) (b n k d : ℕ) → b ≤ n → IsPlainBelow (state (more g K) T n k) → (l : List Plain) → AreOf g b l
      → traces A d (grafts b (state (more g K) T n k) l) ≡ followed (traces A (d - k) l) (λ a i. trace A i (graft b (state (more g K) T n k) a))
  traces-grafts g K T b n k d bn h l o =
      flat_map-grafts g b (state (more g K) T n k) (λ u. trace_to A d u) (λ u. trace_to A (d - k) u) (λ a i. trace A i (graft b (state (more g K) T n k) a)) one l o
    where
      one : (u : Plain) → IsOf g b u → trace_to A d (graft b (state (more g K) T n k) u) ≡ followed (trace_to A (d - k) u) (λ a i. trace A i (graft b (state (more g K) T n k) a))
      one (faulted e j) q =
          let x : d - (k + j) ≡ (d - k) - j = omega arith in
          ap (λ z. trace A z (faulted e (k + j))) x ∙ trace-graft A renames locals g K T b n k bn h.0.1 h.1 ((d - k) - j) (faulted e j) q
      one (state G U m j) q =
          let e : d - (k + j) ≡ (d - k) - j = omega arith in
          ap (λ z. trace A z (graft b (state (more g K) T n k) (state G U m j))) e ∙ trace-graft A renames locals g K T b n k bn h.0.1 h.1 ((d - k) - j) (state G U m j) q

  -- under a graft
  pub Gives-graft : (g : Tree) (K T : Trees) (b n k : ℕ) → b ≤ n → IsPlainBelow (state (more g K) T n k) → (l m : List Plain) (c : ℕ) → AreOf g b l → AreOf g b m
      → Gives A l [] m c → Gives A (grafts b (state (more g K) T n k) l) [] (grafts b (state (more g K) T n k) m) c
  Gives-graft g K T b n k bn h l m c ol om q = (q.0 + k, λ d z. at d (q.1 (d - k) (omega arith)))
    where
      kap : Plain → ℕ → List Action
      kap a i = trace A i (graft b (state (more g K) T n k) a)

      at : (d : ℕ) → GivesAt A (d - k) l [] m c → GivesAt A d (grafts b (state (more g K) T n k) l) [] (grafts b (state (more g K) T n k) m) c
      at d x = (
        x.0,
        followed x.1 kap,
        traces-grafts g K T b n k d bn h l ol ∙ ap (λ z. followed z kap) x.2 ∙ followed-append x.0 x.1 kap
            ∙ ap (λ u. u ++ followed x.1 kap) (followed-none x.0 kap (NoAnswers-none x.0 x.3)),
        x.3,
        x.4,
        subst (Thins (followed x.1 kap)) (sym (traces-grafts g K T b n k d bn h m om)) (Thins-followed kap x.5),
      )

  -- what is left of a state without answers may be dropped, at the cost so far
  pub Gives-drop : (s : Plain) (m : List Plain) (c : ℕ) → ((r : ℕ) → NoAnswers (trace A r s)) → Gives A (s ∷ []) [] m c → Gives A (s ∷ []) [] [] c
  Gives-drop s m c dead h = (h.0, λ d q. at d (h.1 d q))
    where
      at : (d : ℕ) → GivesAt A d (s ∷ []) [] m c → GivesAt A d (s ∷ []) [] [] c
      at d x = (
        x.0 ++ x.1,
        [],
        x.2 ∙ sym (append-nil (x.0 ++ x.1)),
        answers_in-none (x.0 ++ x.1) (subst NoAnswers x.2 (AllAnswers-append (λ a l. ⊥) (trace_to A d s) [] (dead (d - steps_of s)) tt)),
        subst (λ z. c ≤ z) (sym (calls_in-append x.0 x.1)) (omega (arith, x.4)),
        thins_none,
      )

pub instance_all-fitted_apart : (g : Tree) (b n : ℕ) (f : ℕ → Tree) (U : Trees) → U ≡ instance_all f (arguments g) → (gs : Trees) → LocalAll (λ x. occurs x g ≡ false) gs → instance_all (fitted g b n U) gs ≡ gs
instance_all-fitted_apart g b n f U e none h = refl
instance_all-fitted_apart g b n f U e (more t gs) h = ap₂ more (instance-fitted_apart g b n f U e t (Local-weaken (λ x. occurs x g ≡ false) (λ x. occurs_all x (arguments g) ≡ false) (λ x q. occurs_all-arguments x g q) t h.0)) (instance_all-fitted_apart g b n f U e gs h.1)

-- the goals behind g have none of its variables
pub LocalAll-IsApart : (g : Tree) (gs : Trees) → IsApart g gs → LocalAll (λ x. occurs x g ≡ false) gs
LocalAll-IsApart g none h = tt
LocalAll-IsApart g (more t ts) h = (Local-each (λ x. occurs x g ≡ false) t (λ x o. other x o (occurs x g) refl), LocalAll-IsApart g ts h.1)
  where
    other : (x : ℕ) → occurs x t ≡ true → (b : Bool) → occurs x g ≡ b → occurs x g ≡ false
    other x o true e = absurd (false≢true (sym (h.0 x e) ∙ o))
    other x o false e = e

-- the state with the first goal's answer in it
pub graft-answer : (g : Tree) (gs K T : Trees) (b n k : ℕ) (a : Plain) → b ≤ n → IsPlainBelow (state (more g (append_trees gs K)) T n k) → IsApart g gs → IsOf g b a → IsAnswer a
    → (L : Trees) × (V : Trees) × (m : ℕ) × (j : ℕ) × (graft b (state (more g (append_trees gs K)) T n k) a ≡ state (append_trees gs L) V m j) × IsPlainBelow (state (append_trees gs L) V m j) × (b ≤ m)
graft-answer g gs K T b n k (state (more _ _) U m j) bn h ind o e = absurd e
graft-answer g gs K T b n k (faulted _ _) bn h ind o e = absurd e
graft-answer g gs K T b n k (state none U m j) bn h ind o e =
    (instance_all (fitted g b n U) K, instance_all (fitted g b n U) T, n + (m - b), k + j, eq, subst IsPlainBelow eq (IsPlainBelow-graft g (append_trees gs K) T b n k bn h (state none U m j) o), omega arith)
  where
    eq : graft b (state (more g (append_trees gs K)) T n k) (state none U m j) ≡ state (append_trees gs (instance_all (fitted g b n U) K)) (instance_all (fitted g b n U) T) (n + (m - b)) (k + j)
    eq = ap (λ z. state z (instance_all (fitted g b n U) T) (n + (m - b)) (k + j)) (instance_all-append_trees (fitted g b n U) gs K ∙ ap (λ z. append_trees z (instance_all (fitted g b n U) K)) (instance_all-fitted_apart g b n o.0 U o.1 gs (LocalAll-IsApart g gs ind)))

-- a goal with no outcome, behind goals without a fault that are apart, leaves the conjunction none
module _ (A : Ways) (renames : Renames A) (locals : Locals A) where
  pub NoAnswers-IsDead : (g : Tree) (b : ℕ) → IsDead A g b → Local (λ x. x < b) g → (pre K T : Trees) (n k : ℕ) → b ≤ n → IsPlainBelow (state (append_trees pre (more g K)) T n k)
      → LocalAll (λ x. x < b) pre → AreApart (append_trees pre (more g none)) → AreHarmless A b pre → (r : ℕ) → NoAnswers (trace A r (state (append_trees pre (more g K)) T n k))
  NoAnswers-IsDead g b dead hb none K T n k bn h hp apart harmless r =
      subst NoAnswers (sym (trace-split A renames locals g K T b n k r bn h hb))
      (NoAnswers-followed (trace A r (alone g b)) (λ a l. trace A l (graft b (state (more g K) T n k) a)) (AllAnswers-weaken (λ a l. ⊥) _ (λ a l z. absurd z) (trace A r (alone g b)) (dead r)))
  NoAnswers-IsDead g b dead hb (more p pre) K T n k bn h hp apart harmless r =
      subst NoAnswers (sym (trace-split A renames locals p (append_trees pre (more g K)) T b n k r bn h hp.0))
      (NoAnswers-followed (trace A r (alone p b)) (λ a l. trace A l (graft b s a))
      (AllAnswers-weaken (λ a l. IsOf p b a × IsAnswer a) (λ a l. NoAnswers (trace A l (graft b s a))) (λ a l q. each a l q.0 q.1 (NoAnswers-IsDead g b dead hb pre)) (trace A r (alone p b))
      (AllAnswers-and (λ a l. IsOf p b a) (λ a l. IsAnswer a) (trace A r (alone p b)) (AllAnswers-IsOf A renames locals p b r (alone p b) (IsOf-alone p b hp.0)) (harmless.0 r))))
    where
      s : Plain
      s = state (more p (append_trees pre (more g K))) T n k

      one_more : (pre : Trees) → append_trees (append_trees pre (more g none)) K ≡ append_trees pre (more g K)
      one_more none = refl
      one_more (more t ts) = ap (more t) (one_more ts)

      each : (a : Plain) (l : ℕ) → IsOf p b a → IsAnswer a
          → ((K T : Trees) (n k : ℕ) → b ≤ n → IsPlainBelow (state (append_trees pre (more g K)) T n k)
          → LocalAll (λ x. x < b) pre → AreApart (append_trees pre (more g none)) → AreHarmless A b pre → (r : ℕ) → NoAnswers (trace A r (state (append_trees pre (more g K)) T n k)))
          → NoAnswers (trace A l (graft b s a))
      each a l o e ih =
          let eq : s ≡ state (more p (append_trees (append_trees pre (more g none)) K)) T n k = ap (λ G. state (more p G) T n k) (sym (one_more pre)) in
          let q = graft-answer p (append_trees pre (more g none)) K T b n k a bn (subst IsPlainBelow eq h) apart.0 o e in
          let same : graft b s a ≡ state (append_trees pre (more g q.0)) q.1 q.2 q.3 = ap (λ z. graft b z a) eq ∙ q.4 ∙ ap (λ G. state G q.1 q.2 q.3) (more_of pre q.0) in
          subst (λ z. NoAnswers (trace A l z)) (sym same)
          (ih q.0 q.1 q.2 q.3 q.6 (subst (λ G. IsPlainBelow (state G q.1 q.2 q.3)) (more_of pre q.0) q.5) hp.1 apart.1 harmless.1 l)
        where
          more_of : (pre L : Trees) → append_trees (append_trees pre (more g none)) L ≡ append_trees pre (more g L)
          more_of none L = refl
          more_of (more t ts) L = ap (more t) (more_of ts L)
