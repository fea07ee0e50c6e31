-- A search under a graft is the graft of the search.
use Rattle.std.proofs.Common.{◌≡◌, ℕ, zero, suc, ◌+◌, ◌-◌, ◌<◌, ◌≤◌, ◌⊎◌, inl, inr, Bool, true, false, cond, ◌==◌, ◌||◌, List, [], ◌∷◌, ◌++◌, refl, ap, ap₂, sym, ◌∙◌, subst, arith, append-nil, append_assoc}
use Rattle.std.specs.List.{flat_map}
use Rattle.std.proofs.lemmas.Bool.{false≢true, lt-ltb, le-ltb}
use Rattle.ap_term.specs.Tuples.{arguments}
use Rattle.ap_term.specs.declared.faults.Fault.{Fault}
use Rattle.ap_term.specs.Tree.{Tree, Trees, var, int, atom, node, none, more, append_trees}
use Rattle.ap_term.specs.Vars.{occurs, occurs_all, Local, LocalAll}
use Rattle.ap_term.specs.Substitution.{instance, instance_all, Subst, value}
use Rattle.ap_term.proofs.Copies.{instance_var, instance_all_var, instance_twice, instance_all_twice}
use Rattle.ap_term.proofs.Solutions.{same_var, same_test}
use Rattle.ap_term.proofs.Locals.{Local-weaken, LocalAll-weaken, Local-instance, LocalAll-instance_all, instance-Local, instance_all-LocalAll, instance_all-same, Local-and, LocalAll-and, LocalAll-append_trees}
use Rattle.ap_term.proofs.TreeLists.{instance_all-append_trees, append_trees-assoc}
use Rattle.ap_laws.specs.Renaming.{Renamed, RenamedAll, RenamedSubst, Linked, LocalSubst}
use Rattle.ap_laws.specs.Plain.{Plain, state, faulted, PlainWay, way, fault_way, Ways, plain_child, plain_children_by, plain_children, RenamedPlainWay, RenamedPlainWays, Renames, LocalPlainWays, Locals}
use Rattle.ap_laws.specs.Trace.{Action, called, cut, answered, trace, followed}
use Rattle.ap_laws.specs.Graft.{alone, fit, fit_all, lifted, lifted_var, lowered, fitted, graft, grafts, IsOwn, IsOf, AreOf}
use Rattle.ap_laws.proofs.Renamed.{Renamed-value}
use Rattle.ap_laws.proofs.Local.{Local-value, value-other}
use Rattle.ap_laws.proofs.Ways.{IsOneToOne-Linked, Renamed-both}
use Rattle.ap_laws.proofs.Names.{Renamed-is, RenamedAll-is, Local-Renamed, LocalAll-RenamedAll}
use Rattle.ap_laws.proofs.Plain.{Local-arguments_self}
use Rattle.ap_term.proofs.TreeLists.{LocalAll-arguments}
use Rattle.std.proofs.lemmas.Bool.{cases_lt}

pub state-eq : {G G' T T' : Trees} {n n' k k' : ℕ} → G ≡ G' → T ≡ T' → n ≡ n' → k ≡ k' → state G T n k ≡ state G' T' n' k'
state-eq a b c d = cc

pub faulted-eq : {e e' : Fault} {k k' : ℕ} → e ≡ e' → k ≡ k' → faulted e k ≡ faulted e' k'
faulted-eq a b = cc

-- fitting
pub cond-or : (p q : Bool) (t u : Tree) → cond p t (cond q t u) ≡ cond (p || q) t u
cond-or true q t u = refl
cond-or false q t u = refl

mutual
  pub value-fit : (s : ℕ → Tree) (p : Tree) (b : Subst) (x : ℕ) → value (fit p (instance s p) b) x ≡ cond (occurs x p) (s x) (value b x)
  value-fit s (var y) b x = go (y == x) (x == y) refl refl
    where
      go : (c d : Bool) → (y == x) ≡ c → (x == y) ≡ d → cond c (s y) (value b x) ≡ cond d (s x) (value b x)
      go true true e k = ap s (same_var y x e)
      go false false e k = refl
      go true false e k = absurd (false≢true (sym k ∙ same_test x y (sym (same_var y x e))))
      go false true e k = absurd (false≢true (sym e ∙ same_test y x (sym (same_var x y k))))
  value-fit s (int i) b x = refl
  value-fit s (atom a) b x = refl
  value-fit s (node f ts) b x = value-fit_all s ts b x

  pub value-fit_all : (s : ℕ → Tree) (ps : Trees) (b : Subst) (x : ℕ) → value (fit_all ps (instance_all s ps) b) x ≡ cond (occurs_all x ps) (s x) (value b x)
  value-fit_all s none b x = refl
  value-fit_all s (more p ps) b x =
      value-fit s p (fit_all ps (instance_all s ps) b) x ∙ ap (cond (occurs x p) (s x)) (value-fit_all s ps b x) ∙ cond-or (occurs x p) (occurs_all x ps) (s x) (value b x)

-- what holds of an instance holds of what its variables stand for
mutual
  pub Local-at : (P : ℕ → Type 0) (s : ℕ → Tree) (t : Tree) → Local P (instance s t) → (x : ℕ) → occurs x t ≡ true → Local P (s x)
  Local-at P s (var y) h x e = subst (λ z. Local P (s z)) (sym (same_var x y e)) h
  Local-at P s (int i) h x e = absurd (false≢true e)
  Local-at P s (atom a) h x e = absurd (false≢true e)
  Local-at P s (node f ts) h x e = LocalAll-at P s ts h x e

  pub LocalAll-at : (P : ℕ → Type 0) (s : ℕ → Tree) (ts : Trees) → LocalAll P (instance_all s ts) → (x : ℕ) → occurs_all x ts ≡ true → Local P (s x)
  LocalAll-at P s none h x e = absurd (false≢true e)
  LocalAll-at P s (more t ts) h x e = go (occurs x t) refl e (Local-at P s t h.0 x) (LocalAll-at P s ts h.1 x)
    where
      go : (c : Bool) → occurs x t ≡ c → (c || occurs_all x ts) ≡ true → (occurs x t ≡ true → Local P (s x)) → (occurs_all x ts ≡ true → Local P (s x)) → Local P (s x)
      go true p q f g = f p
      go false p q f g = g q

-- the variables on the left of a link
pub LocalAll-below : (f g : ℕ → ℕ) (n m : ℕ) (ts us : Trees) → RenamedAll (Linked f g n m) ts us → LocalAll (λ x. x < n) ts
LocalAll-below f g n m ts us h = LocalAll-RenamedAll (Linked f g n m) (λ x. x < n) (λ x y k. k.2) ts us h

pub LocalSubst-below : (f g : ℕ → ℕ) (n m : ℕ) (s r : Subst) → RenamedSubst (Linked f g n m) s r → LocalSubst (λ x. x < n) s
LocalSubst-below f g n m [] [] h = tt
LocalSubst-below f g n m (p ∷ s) (q ∷ r) h =
    ((h.0.0.2, Local-Renamed (Linked f g n m) (λ x. x < n) (λ x y k. k.2) p.1 q.1 h.0.1), LocalSubst-below f g n m s r h.1)
LocalSubst-below f g n m [] (_ ∷ _) h = absurd h
LocalSubst-below f g n m (_ ∷ _) [] h = absurd h

-- the goal's own variables stay, the new ones move, and back
pub lifted-old : (b n x : ℕ) → x < b → lifted b n x ≡ x
lifted-old b n x h = ap (λ c. cond c x (n + (x - b))) (lt-ltb x b h)

pub lifted-new : (b n x : ℕ) → b ≤ x → lifted b n x ≡ n + (x - b)
lifted-new b n x h = ap (λ c. cond c x (n + (x - b))) (le-ltb x b h)

pub lowered-old : (b n x : ℕ) → x < b → lowered b n x ≡ x
lowered-old b n x h = ap (λ c. cond c x ((x - n) + b)) (lt-ltb x b h)

pub lowered-new : (b n x : ℕ) → b ≤ x → lowered b n x ≡ (x - n) + b
lowered-new b n x h = ap (λ c. cond c x ((x - n) + b)) (le-ltb x b h)

pub Linked-lifted : (b n m N : ℕ) → b ≤ n → b ≤ m → N ≡ n + (m - b) → (x : ℕ) → x < m → Linked (lifted b n) (lowered b n) m N x (lifted b n x)
Linked-lifted b n m N bn bm e x l = go (cases_lt x b)
  where
    go : (x < b) ⊎ (b ≤ x) → Linked (lifted b n) (lowered b n) m N x (lifted b n x)
    go (inl h) = (refl, ap (lowered b n) (lifted-old b n x h) ∙ lowered-old b n x h, l, subst (λ z. z < N) (sym (lifted-old b n x h)) (omega arith))
    go (inr h) = (refl, ap (lowered b n) (lifted-new b n x h) ∙ lowered-new b n (n + (x - b)) (omega arith) ∙ omega arith, l, subst (λ z. z < N) (sym (lifted-new b n x h)) (omega arith))

pub Renamed-lifted : (b n m N : ℕ) → b ≤ n → b ≤ m → N ≡ n + (m - b) → (t : Tree) → Local (λ x. x < m) t → Renamed (Linked (lifted b n) (lowered b n) m N) t (instance (lifted_var b n) t)
Renamed-lifted b n m N bn bm e t h =
    subst (λ v. Renamed (Linked (lifted b n) (lowered b n) m N) v (instance (lifted_var b n) t)) (instance_var t)
    (Renamed-both (λ x. x < m) (Linked (lifted b n) (lowered b n) m N) var (lifted_var b n) (λ x l. Linked-lifted b n m N bn bm e x l) t h)

-- what a moved answer does to a moved tree
pub instance-lifted : (b n m N : ℕ) → b ≤ n → b ≤ m → N ≡ n + (m - b) → (s r : Subst) → RenamedSubst (Linked (lifted b n) (lowered b n) m N) s r
    → (t : Tree) → Local (λ x. x < m) t → instance (value r) (instance (lifted_var b n) t) ≡ instance (lifted_var b n) (instance (value s) t)
instance-lifted b n m N bn bm q s r h t k =
    instance_twice (lifted_var b n) (value r) t
    ∙ instance-Local (λ x. x < m) (λ x. value r (lifted b n x)) (λ x. instance (lifted_var b n) (value s x))
    (λ x l. Renamed-is (lifted b n) (lowered b n) m N (value s x) (value r (lifted b n x))
    (Renamed-value (Linked (lifted b n) (lowered b n) m N) (IsOneToOne-Linked (lifted b n) (lowered b n) m N) s r h x (lifted b n x) (Linked-lifted b n m N bn bm q x l))) t k
    ∙ sym (instance_twice (value s) (lifted_var b n) t)

pub instance_all-lifted : (b n m N : ℕ) → b ≤ n → b ≤ m → N ≡ n + (m - b) → (s r : Subst) → RenamedSubst (Linked (lifted b n) (lowered b n) m N) s r
    → (ts : Trees) → LocalAll (λ x. x < m) ts → instance_all (value r) (instance_all (lifted_var b n) ts) ≡ instance_all (lifted_var b n) (instance_all (value s) ts)
instance_all-lifted b n m N bn bm q s r h none k = refl
instance_all-lifted b n m N bn bm q s r h (more t ts) k = ap₂ more (instance-lifted b n m N bn bm q s r h t k.0) (instance_all-lifted b n m N bn bm q s r h ts k.1)

pub fitted-value : (g : Tree) (b n : ℕ) (s : ℕ → Tree) (U : Trees) → U ≡ instance_all s (arguments g) → (x : ℕ)
    → value (fit_all (arguments g) (instance_all (lifted_var b n) U) []) x ≡ cond (occurs_all x (arguments g)) (instance (lifted_var b n) (s x)) (var x)
fitted-value g b n s U e x =
    ap (λ V. value (fit_all (arguments g) V []) x) (ap (instance_all (lifted_var b n)) e ∙ instance_all_twice s (lifted_var b n) (arguments g)) ∙ value-fit_all (λ y. instance (lifted_var b n) (s y)) (arguments g) [] x

pub instance-fitted : (g : Tree) (b n m N : ℕ) → b ≤ n → b ≤ m → N ≡ n + (m - b) → (s r : Subst) → RenamedSubst (Linked (lifted b n) (lowered b n) m N) s r
    → LocalSubst (λ x. x < n → occurs_all x (arguments g) ≡ true) r
    → (f : ℕ → Tree) (U : Trees) → U ≡ instance_all f (arguments g) → LocalAll (λ x. x < m) U → (x : ℕ) → x < n
    → instance (value r) (value (fit_all (arguments g) (instance_all (lifted_var b n) U) []) x) ≡ value (fit_all (arguments g) (instance_all (lifted_var b n) (instance_all (value s) U)) []) x
instance-fitted g b n m N bn bm q s r h l f U e k x le =
    ap (instance (value r)) (fitted-value g b n f U e x)
    ∙ go (occurs_all x (arguments g)) refl
    ∙ sym (fitted-value g b n (λ y. instance (value s) (f y)) (instance_all (value s) U) (ap (instance_all (value s)) e ∙ instance_all_twice f (value s) (arguments g)) x)
  where
    go : (c : Bool) → occurs_all x (arguments g) ≡ c
        → instance (value r) (cond c (instance (lifted_var b n) (f x)) (var x)) ≡ cond c (instance (lifted_var b n) (instance (value s) (f x))) (var x)
    go true p = instance-lifted b n m N bn bm q s r h (f x) (LocalAll-at (λ y. y < m) f (arguments g) (subst (LocalAll (λ y. y < m)) e k) x p)
    go false p = value-other (λ y. y < n → occurs_all y (arguments g) ≡ true) r l x (λ z. let w : occurs_all x (arguments g) ≡ true = z le in cc)

-- the children of a graft are the grafts of the children
pub plain_child-graft : (g : Tree) (K T : Trees) (b n k : ℕ) → b ≤ n → LocalAll (λ x. x < n) K → LocalAll (λ x. x < n) T
    → (G U : Trees) (m j : ℕ) (f : ℕ → Tree) → b ≤ m → U ≡ instance_all f (arguments g) → LocalAll (λ x. x < m) G → LocalAll (λ x. x < m) U
    → (s r : Subst) (d c : Trees) (w v : ℕ) → RenamedPlainWay (lifted b n) (lowered b n) m (n + (m - b)) (way s d w) (way r c v) → LocalSubst (λ x. x < n → occurs_all x (arguments g) ≡ true) r
    → plain_child (append_trees (instance_all (lifted_var b n) G) (instance_all (fitted g b n U) K)) (instance_all (fitted g b n U) T) (n + (m - b)) (k + j) (way r c v)
    ≡ graft b (state (more g K) T n k) (plain_child G U m j (way s d w))
plain_child-graft g K T b n k bn hK hT G U m j f bm e hG hU s r d c w v h l =
    state-eq (goals_eq) (rest T hT) q (omega arith)
  where
    q : (n + (m - b)) + v ≡ n + ((m + w) - b)
    q = omega (arith, h.0)

    bw : b ≤ m + w
    bw = omega arith

    wk : (ts : Trees) → LocalAll (λ x. x < m) ts → LocalAll (λ x. x < m + w) ts
    wk = LocalAll-weaken (λ x. x < m) (λ x. x < m + w) (λ x l. omega arith)

    rest : (ts : Trees) → LocalAll (λ x. x < n) ts → instance_all (value r) (instance_all (fitted g b n U) ts) ≡ instance_all (fitted g b n (instance_all (value s) U)) ts
    rest ts hts = instance_all_twice (fitted g b n U) (value r) ts
        ∙ instance_all-LocalAll (λ x. x < n) (λ x. instance (value r) (fitted g b n U x)) (fitted g b n (instance_all (value s) U))
        (instance-fitted g b n (m + w) ((n + (m - b)) + v) bn bw q s r h.1 l f U e (wk U hU)) ts hts

    bb : instance_all (value r) c ≡ instance_all (lifted_var b n) (instance_all (value s) d)
    bb = ap (instance_all (value r)) (RenamedAll-is (lifted b n) (lowered b n) (m + w) ((n + (m - b)) + v) d c h.2)
        ∙ instance_all-lifted b n (m + w) ((n + (m - b)) + v) bn bw q s r h.1 d (LocalAll-below (lifted b n) (lowered b n) (m + w) ((n + (m - b)) + v) d c h.2)

    gg : instance_all (value r) (instance_all (lifted_var b n) G) ≡ instance_all (lifted_var b n) (instance_all (value s) G)
    gg = instance_all-lifted b n (m + w) ((n + (m - b)) + v) bn bw q s r h.1 G (wk G hG)

    goals_eq : instance_all (value r) (append_trees c (append_trees (instance_all (lifted_var b n) G) (instance_all (fitted g b n U) K)))
        ≡ append_trees (instance_all (lifted_var b n) (instance_all (value s) (append_trees d G))) (instance_all (fitted g b n (instance_all (value s) U)) K)
    goals_eq = instance_all-append_trees (value r) c (append_trees (instance_all (lifted_var b n) G) (instance_all (fitted g b n U) K))
        ∙ ap₂ append_trees bb (instance_all-append_trees (value r) (instance_all (lifted_var b n) G) (instance_all (fitted g b n U) K) ∙ ap₂ append_trees gg (rest K hK))
        ∙ sym (append_trees-assoc (instance_all (lifted_var b n) (instance_all (value s) d)) (instance_all (lifted_var b n) (instance_all (value s) G)) (instance_all (fitted g b n (instance_all (value s) U)) K))
        ∙ ap (λ z. append_trees z (instance_all (fitted g b n (instance_all (value s) U)) K))
        (sym (instance_all-append_trees (lifted_var b n) (instance_all (value s) d) (instance_all (value s) G)) ∙ ap (instance_all (lifted_var b n)) (sym (instance_all-append_trees (value s) d G)))

pub LocalAll-IsOwn_below : (g : Tree) (b m : ℕ) (ts : Trees) → LocalAll (IsOwn g b m) ts → LocalAll (λ x. x < m) ts
LocalAll-IsOwn_below g b m ts h = LocalAll-weaken (IsOwn g b m) (λ x. x < m) (λ x p. p.0) ts h

pub LocalAll-IsOwn_own : (g : Tree) (b m : ℕ) (ts : Trees) → LocalAll (IsOwn g b m) ts → LocalAll (λ x. x < b → occurs_all x (arguments g) ≡ true) ts
LocalAll-IsOwn_own g b m ts h = LocalAll-weaken (IsOwn g b m) (λ x. x < b → occurs_all x (arguments g) ≡ true) (λ x p. p.1) ts h

pub IsOf-plain_child : (g : Tree) (b n : ℕ) (G U : Trees) (m j : ℕ) → IsOf g b (state G U m j)
    → (s r : Subst) (d c : Trees) (w v : ℕ) → RenamedPlainWay (lifted b n) (lowered b n) m (n + (m - b)) (way s d w) (way r c v)
    → LocalSubst (λ x. x < b → occurs_all x (arguments g) ≡ true) s → LocalAll (λ x. x < b → occurs_all x (arguments g) ≡ true) d
    → IsOf g b (plain_child G U m j (way s d w))
IsOf-plain_child g b n G U m j o s r d c w v h ls ld = (
  (λ x. instance (value s) (o.0 x)),
  ap (instance_all (value s)) o.1 ∙ instance_all_twice o.0 (value s) (arguments g),
  both (append_trees d G) (LocalAll-append_trees (λ x. x < m + w) d G (LocalAll-below (lifted b n) (lowered b n) (m + w) ((n + (m - b)) + v) d c h.2) (wk G (LocalAll-IsOwn_below g b m G o.2)))
      (LocalAll-append_trees (λ x. x < b → occurs_all x (arguments g) ≡ true) d G ld (LocalAll-IsOwn_own g b m G o.2)),
  both U (wk U (LocalAll-IsOwn_below g b m U o.3)) (LocalAll-IsOwn_own g b m U o.3),
  omega (arith, o.4),
)
  where
    wk : (ts : Trees) → LocalAll (λ x. x < m) ts → LocalAll (λ x. x < m + w) ts
    wk = LocalAll-weaken (λ x. x < m) (λ x. x < m + w) (λ x l. omega arith)

    both : (ts : Trees) → LocalAll (λ x. x < m + w) ts → LocalAll (λ x. x < b → occurs_all x (arguments g) ≡ true) ts → LocalAll (IsOwn g b (m + w)) (instance_all (value s) ts)
    both ts p q = LocalAll-and (λ x. x < m + w) (λ x. x < b → occurs_all x (arguments g) ≡ true) (instance_all (value s) ts)
        (LocalAll-instance_all (λ x. x < m + w) (λ x. x < m + w) (value s) (Local-value (λ y. y < m + w) s (LocalSubst-below (lifted b n) (lowered b n) (m + w) ((n + (m - b)) + v) s r h.1)) ts p)
        (LocalAll-instance_all (λ x. x < b → occurs_all x (arguments g) ≡ true) (λ x. x < b → occurs_all x (arguments g) ≡ true) (value s) (Local-value (λ x. x < b → occurs_all x (arguments g) ≡ true) s ls) ts q)

pub plain_children_by-graft : (g : Tree) (K T : Trees) (b n k : ℕ) → b ≤ n → LocalAll (λ x. x < n) K → LocalAll (λ x. x < n) T
    → (G U : Trees) (m j : ℕ) → IsOf g b (state G U m j)
    → (l l' : List PlainWay) → RenamedPlainWays (lifted b n) (lowered b n) m (n + (m - b)) l l' → LocalPlainWays (λ x. x < b → occurs_all x (arguments g) ≡ true) l → LocalPlainWays (λ x. x < n → occurs_all x (arguments g) ≡ true) l'
    → (plain_children_by (append_trees (instance_all (lifted_var b n) G) (instance_all (fitted g b n U) K)) (instance_all (fitted g b n U) T) (n + (m - b)) (k + j) l'
    ≡ grafts b (state (more g K) T n k) (plain_children_by G U m j l)) × AreOf g b (plain_children_by G U m j l)
plain_children_by-graft g K T b n k bn hK hT G U m j o [] [] h a a' = (refl, tt)
plain_children_by-graft g K T b n k bn hK hT G U m j o (way s d w ∷ l) (way r c v ∷ l') h a a' = (
  ap₂ (λ x y. x ∷ y) (plain_child-graft g K T b n k bn hK hT G U m j o.0 o.4 o.1 (LocalAll-IsOwn_below g b m G o.2) (LocalAll-IsOwn_below g b m U o.3) s r d c w v h.0 a'.0.0)
      (plain_children_by-graft g K T b n k bn hK hT G U m j o l l' h.1 a.1 a'.1).0,
  (IsOf-plain_child g b n G U m j o s r d c w v h.0 a.0.0 a.0.1, (plain_children_by-graft g K T b n k bn hK hT G U m j o l l' h.1 a.1 a'.1).1),
)
plain_children_by-graft g K T b n k bn hK hT G U m j o (fault_way e ∷ l) (fault_way i ∷ l') h a a' = (
  ap₂ (λ x y. x ∷ y) (faulted-eq (sym h.0) (omega arith)) (plain_children_by-graft g K T b n k bn hK hT G U m j o l l' h.1 a.1 a'.1).0,
  (tt, (plain_children_by-graft g K T b n k bn hK hT G U m j o l l' h.1 a.1 a'.1).1),
)
plain_children_by-graft g K T b n k bn hK hT G U m j o (way s d w ∷ l) (fault_way i ∷ l') h a a' = absurd h.0
plain_children_by-graft g K T b n k bn hK hT G U m j o (fault_way e ∷ l) (way r c v ∷ l') h a a' = absurd h.0
plain_children_by-graft g K T b n k bn hK hT G U m j o _ _ h a a' = absurd h

pub followed-append : (a b : List Action) (k : Plain → ℕ → List Action) → followed (a ++ b) k ≡ followed a k ++ followed b k
followed-append [] b k = refl
followed-append (called ∷ a) b k = ap (λ z. called ∷ z) (followed-append a b k)
followed-append (cut ∷ a) b k = ap (λ z. cut ∷ z) (followed-append a b k)
followed-append (answered s l ∷ a) b k = ap (λ z. k s l ++ z) (followed-append a b k) ∙ sym (append_assoc (k s l) (followed a k) (followed b k))

pub flat_map-grafts : (g : Tree) (b : ℕ) (s : Plain) (F G : Plain → List Action) (k : Plain → ℕ → List Action)
    → ((u : Plain) → IsOf g b u → F (graft b s u) ≡ followed (G u) k) → (l : List Plain) → AreOf g b l → flat_map F (grafts b s l) ≡ followed (flat_map G l) k
flat_map-grafts g b s F G k e [] h = refl
flat_map-grafts g b s F G k e (u ∷ l) h =
    ap₂ (λ a b. a ++ b) (e u h.0) (flat_map-grafts g b s F G k e l h.1) ∙ sym (followed-append (G u) (flat_map G l) k)

module _ (A : Ways) (renames : Renames A) (locals : Locals A) where
  -- the calls of a graft are the grafts of the calls
  pub plain_children-graft : (g : Tree) (K T : Trees) (b n k : ℕ) → b ≤ n → LocalAll (λ x. x < n) K → LocalAll (λ x. x < n) T
      → (t : Tree) (G U : Trees) (m j : ℕ) → IsOf g b (state (more t G) U m j)
      → (plain_children A (graft b (state (more g K) T n k) (state (more t G) U m j)) ≡ grafts b (state (more g K) T n k) (plain_children A (state (more t G) U m j))) × AreOf g b (plain_children A (state (more t G) U m j))
  plain_children-graft g K T b n k bn hK hT t G U m j o =
      plain_children_by-graft g K T b n k bn hK hT G U m j (o.0, o.1, o.2.1, o.3, o.4) (A t m) (A (instance (lifted_var b n) t) (n + (m - b)))
      (renames (lifted b n) (lowered b n) m (n + (m - b)) t (instance (lifted_var b n) t)
      (λ i. lifted-new b n (i + m) (omega (arith, o.4)) ∙ omega (arith, o.4))
      (λ i. lowered-new b n (i + (n + (m - b))) (omega arith) ∙ omega (arith, o.4))
      (Renamed-lifted b n m (n + (m - b)) bn o.4 refl t (Local-weaken (IsOwn g b m) (λ x. x < m) (λ x p. p.0) t o.2.0)))
      (locals (λ x. x < b → occurs_all x (arguments g) ≡ true) t m (Local-weaken (IsOwn g b m) (λ x. x < b → occurs_all x (arguments g) ≡ true) (λ x p. p.1) t o.2.0) (λ x l l'. absurd (far x l l' o.4)))
      (locals (λ x. x < n → occurs_all x (arguments g) ≡ true) (instance (lifted_var b n) t) (n + (m - b))
      (Local-instance (IsOwn g b m) (λ x. x < n → occurs_all x (arguments g) ≡ true) (lifted_var b n) moved t o.2.0) (λ x l l'. absurd (omega arith)))
    where
      far : (x : ℕ) → m ≤ x → x < b → b ≤ m → ⊥
      far x l l' h = omega arith

      moved : (x : ℕ) → IsOwn g b m x → lifted b n x < n → occurs_all (lifted b n x) (arguments g) ≡ true
      moved x p l = go (cases_lt x b)
        where
          go : (x < b) ⊎ (b ≤ x) → occurs_all (lifted b n x) (arguments g) ≡ true
          go (inl h) = subst (λ z. occurs_all z (arguments g) ≡ true) (sym (lifted-old b n x h)) (p.1 h)
          go (inr h) = absurd (lem (lifted-new b n x h))
            where
              lem : lifted b n x ≡ n + (x - b) → ⊥
              lem e = omega (arith, e, l)

  -- the search of a graft is the graft of the search
  pub trace-graft : (g : Tree) (K T : Trees) (b n k : ℕ) → b ≤ n → LocalAll (λ x. x < n) K → LocalAll (λ x. x < n) T → (r : ℕ) (u : Plain) → IsOf g b u
      → trace A r (graft b (state (more g K) T n k) u) ≡ followed (trace A r u) (λ a l. trace A l (graft b (state (more g K) T n k) a))
  unfolding trace
  trace-graft g K T b n k bn hK hT zero (state none U m j) h = sym (append-nil _)
  trace-graft g K T b n k bn hK hT (suc r) (state none U m j) h = sym (append-nil _)
  trace-graft g K T b n k bn hK hT zero (faulted e j) h = sym (append-nil _)
  trace-graft g K T b n k bn hK hT (suc r) (faulted e j) h = sym (append-nil _)
  trace-graft g K T b n k bn hK hT zero (state (more t G) U m j) h = refl
  trace-graft g K T b n k bn hK hT (suc r) (state (more t G) U m j) h =
      ap (λ z. called ∷ z)
      (ap (flat_map (λ s. trace A r s)) (plain_children-graft g K T b n k bn hK hT t G U m j h).0
      ∙ flat_map-grafts g b (state (more g K) T n k) (λ s. trace A r s) (λ s. trace A r s) (λ a l. trace A l (graft b (state (more g K) T n k) a))
      (trace-graft g K T b n k bn hK hT r) (plain_children_by G U m j (A t m)) (plain_children-graft g K T b n k bn hK hT t G U m j h).1)

pub IsOf-alone : (g : Tree) (b : ℕ) → Local (λ x. x < b) g → IsOf g b (alone g b)
IsOf-alone g b h = (var, sym (instance_all_var (arguments g)), (own, tt), LocalAll-arguments (IsOwn g b b) g own, omega arith)
  where
    own : Local (IsOwn g b b) g
    own = Local-and (λ x. x < b) (λ x. x < b → occurs_all x (arguments g) ≡ true) g h (Local-weaken (λ x. occurs_all x (arguments g) ≡ true) (λ x. x < b → occurs_all x (arguments g) ≡ true) (λ x q _. q) g (Local-arguments_self g))

-- a state is its first goal alone, with the rest grafted on
pub graft-alone : (g : Tree) (K T : Trees) (b n k : ℕ) → Local (λ x. x < b) g → graft b (state (more g K) T n k) (alone g b) ≡ state (more g K) T n k
graft-alone g K T b n k h = state-eq (ap₂ more first (rest K)) (rest T) (omega arith) (omega arith)
  where
    first : instance (lifted_var b n) g ≡ g
    first = instance-Local (λ x. x < b) (lifted_var b n) var (λ x l. ap var (lifted-old b n x l)) g h ∙ instance_var g

    at : (x : ℕ) → fitted g b n (arguments g) x ≡ var x
    at x = fitted-value g b n var (arguments g) (sym (instance_all_var (arguments g))) x ∙ go (occurs_all x (arguments g)) refl
      where
        go : (c : Bool) → occurs_all x (arguments g) ≡ c → cond c (lifted_var b n x) (var x) ≡ var x
        go true e = ap var (lifted-old b n x (LocalAll-at (λ y. y < b) var (arguments g) (subst (LocalAll (λ y. y < b)) (sym (instance_all_var (arguments g))) (LocalAll-arguments (λ y. y < b) g h)) x e))
        go false e = refl

    rest : (ts : Trees) → instance_all (fitted g b n (arguments g)) ts ≡ ts
    rest ts = instance_all-same (fitted g b n (arguments g)) var at ts ∙ instance_all_var ts
