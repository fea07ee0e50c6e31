-- Code whose variables stand in other places asks for the same.
use Rattle.std.proofs.Common.{◌≡◌, ◌≢◌, ℕ, zero, suc, ◌+◌, ◌<◌, ◌≤◌, nat_le, ◌==◌, Bool, true, false, List, [], ◌∷◌, ◌++◌, Option, Some, ◌⊎◌, inl, inr, refl, ap, sym, ◌∙◌, subst, arith}
use Rattle.std.specs.List.{list_all}
use Rattle.std.proofs.lemmas.Bool.{false≢true, and_parts}
use Rattle.std.proofs.lemmas.Bool.Decides.{Decides-eqb, nat_tests}
use Rattle.ap_term.specs.Tree.{Tree, Trees, node, none, more, count_trees}
use Rattle.ap_tracked.specs.Marks.{ground_mark, apart_mark}
use Rattle.ap_instr.specs.declared.instruction.Slot.{Slot}
use Rattle.ap_instr.specs.declared.instruction.Slot.TheVariants.{X, Y}
use Rattle.ap_instr.specs.declared.instruction.Instr.TheVariants.{GetStructure, PutStructure, PutVariable, Call, WaitAll}
use Rattle.ap_instr.specs.Step.{Step, get_variable, get_value, get_constant, get_structure, put_variable, put_value, put_constant, put_structure, unify_variable, unify_value, unify_constant, call, execute, builtin, proceed, jump, check_ground, check_indep, group, push, wait}
use Rattle.ap_instr.specs.Runs.{Runs, read, set_x, set_y, set, spread, applied, lost}
use Rattle.ap_codecheck.specs.Shape.{Shape, write, passed, behind_argument, with_group, after}
use Rattle.ap_codegen.specs.Emitted.{Lead}
use Rattle.ap_codegen.specs.Temporary.{ends}
use Rattle.ap_codegen.specs.Grouped.{passed_over, flow}
use Rattle.ap_codegen.specs.Paces.{one_pushed, PacesOn, PacesLeads}
use Rattle.ap_codegen.specs.Relocated.{Change, kept, dropped, olds, news, staying, relocated, register, by, Known, former, latter, is_same, all_same, set_former, set_latter, set_both, behind_call, behind, may_drop, fits, change_fits, is_kept, Forgets, Onward, NoTurns, AreKept}
use Rattle.ap_codegen.proofs.Registers.{read_here, read_other, same_slot}

pub above_zero : (n : ℕ) → nat_le 1 n ≡ true → 0 < n
above_zero n e = grind (arith, nat_tests)

-- the numbers of values are below the next one
pub record Below (k : Known) : Type 0 where
  pub formers : (v : Slot) → former k v < k.next
  pub latters : (u : Slot) → latter k u < k.next

set_below : (v : Slot) (n m : ℕ) (x y : ℕ → ℕ) → n < m → ((w : Slot) → read w x y < m) → (w : Slot) → read w (set_x v n x) (set_y v n y) < m
set_below v n m x y l h w = elim (same_slot w v) as (λ _. read w (set_x v n x) (set_y v n y) < m) [
  | inl e ↦ subst (λ i. i < m) (sym (ap (λ w. read w (set_x v n x) (set_y v n y)) e ∙ read_here v n x y)) l
  | inr d ↦ subst (λ i. i < m) (sym (read_other w v n x y d)) (h w)
]

pub below_former : (k : Known) (v : Slot) (n : ℕ) → n < k.next → Below k → Below (set_former k v n)
below_former k v n l b = record { formers = set_below v n k.next k.former_x k.former_y l b.formers; latters = b.latters }

pub below_latter : (k : Known) (u : Slot) (n : ℕ) → n < k.next → Below k → Below (set_latter k u n)
below_latter k u n l b = record { formers = b.formers; latters = set_below u n k.next k.latter_x k.latter_y l b.latters }

pub below_both : (k : Known) (v u : Slot) → Below k → Below (set_both k v u)
below_both k v u b = record {
  formers = set_below v k.next (k.next + 1) k.former_x k.former_y (omega arith) (λ w. let l = b.formers w in omega arith);
  latters = set_below u k.next (k.next + 1) k.latter_x k.latter_y (omega arith) (λ w. let l = b.latters w in omega arith);
}

pub below_call : (k : Known) → Below k → Below (behind_call k)
below_call k b = record { formers = λ v. one k.former_y v b.formers; latters = λ u. two k.latter_y u b.latters }
  where
    one : (y : ℕ → ℕ) (v : Slot) → ((w : Slot) → read w k.former_x y < k.next) → read v (by []) y < k.next
    one y (X n) h = let l = h (X n) in omega arith
    one y (Y n) h = h (Y n)

    two : (y : ℕ → ℕ) (v : Slot) → ((w : Slot) → read w k.latter_x y < k.next) → read v (by []) y < k.next
    two y (X n) h = let l = h (X n) in omega arith
    two y (Y n) h = h (Y n)

-- what both codes hold of one kind, related
module _ (A : Type 0) (R : A → A → Type 0) where
  -- places whose values have one number hold related values
  abbrev pub Held : Known → (ℕ → A) → (ℕ → A) → (ℕ → A) → (ℕ → A) → Type 0
  Held k x y x' y' = (v u : Slot) → 0 < former k v → former k v ≡ latter k u → R (read v x y) (read u x' y')

  -- a value that another place has, too
  pub held_former : (k : Known) (v s : Slot) (n : ℕ) (t : A) (x y x' y' : ℕ → A) → n ≡ former k s → t ≡ read s x y → Held k x y x' y' → Held (set_former k v n) (set_x v t x) (set_y v t y) x' y'
  held_former k v s n t x y x' y' e i h w u p q = elim (same_slot w v) as (λ _. R (read w (set_x v t x) (set_y v t y)) (read u x' y')) [
    | inl d ↦
        let j : former (set_former k v n) w ≡ former k s = ap (former (set_former k v n)) d ∙ read_here v n k.former_x k.former_y ∙ e in
        let z : read w (set_x v t x) (set_y v t y) ≡ read s x y = ap (λ w. read w (set_x v t x) (set_y v t y)) d ∙ read_here v t x y ∙ i in
        subst (λ z. R z (read u x' y')) (sym z) (h s u (subst (λ m. 0 < m) j p) (sym j ∙ q))
    | inr d ↦
        let j : former (set_former k v n) w ≡ former k w = read_other w v n k.former_x k.former_y d in
        subst (λ z. R z (read u x' y')) (sym (read_other w v t x y d)) (h w u (subst (λ m. 0 < m) j p) (sym j ∙ q))
  ]

  pub held_latter : (k : Known) (u s : Slot) (n : ℕ) (t : A) (x y x' y' : ℕ → A) → n ≡ latter k s → t ≡ read s x' y' → Held k x y x' y' → Held (set_latter k u n) x y (set_x u t x') (set_y u t y')
  held_latter k u s n t x y x' y' e i h v w p q = elim (same_slot w u) as (λ _. R (read v x y) (read w (set_x u t x') (set_y u t y'))) [
    | inl d ↦
        let j : latter (set_latter k u n) w ≡ latter k s = ap (latter (set_latter k u n)) d ∙ read_here u n k.latter_x k.latter_y ∙ e in
        let z : read w (set_x u t x') (set_y u t y') ≡ read s x' y' = ap (λ w. read w (set_x u t x') (set_y u t y')) d ∙ read_here u t x' y' ∙ i in
        subst (λ z. R (read v x y) z) (sym z) (h v s p (q ∙ j))
    | inr d ↦
        let j : latter (set_latter k u n) w ≡ latter k w = read_other w u n k.latter_x k.latter_y d in
        subst (λ z. R (read v x y) z) (sym (read_other w u t x' y' d)) (h v w p (q ∙ j))
  ]

  -- new related values
  pub held_both : (k : Known) (v u : Slot) (t t' : A) (x y x' y' : ℕ → A) → Below k → R t t' → Held k x y x' y' → Held (set_both k v u) (set_x v t x) (set_y v t y) (set_x u t' x') (set_y u t' y')
  held_both k v u t t' x y x' y' b r h w z p q =
      elim (same_slot w v) as (λ _. R (read w (set_x v t x) (set_y v t y)) (read z (set_x u t' x') (set_y u t' y'))) [
        | inl d ↦
            let j : former (set_both k v u) w ≡ k.next = ap (former (set_both k v u)) d ∙ read_here v k.next k.former_x k.former_y in
            let c : read w (set_x v t x) (set_y v t y) ≡ t = ap (λ w. read w (set_x v t x) (set_y v t y)) d ∙ read_here v t x y in
            subst (λ c. R c (read z (set_x u t' x') (set_y u t' y'))) (sym c) (first j (same_slot z u))
        | inr d ↦
            let j : former (set_both k v u) w ≡ former k w = read_other w v k.next k.former_x k.former_y d in
            subst (λ c. R c (read z (set_x u t' x') (set_y u t' y'))) (sym (read_other w v t x y d)) (second j (same_slot z u))
      ]
    where
      first : former (set_both k v u) w ≡ k.next → (z ≡ u) ⊎ (z ≢ u) → R t (read z (set_x u t' x') (set_y u t' y'))
      first j (inl e) = subst (λ c. R t c) (sym (ap (λ z. read z (set_x u t' x') (set_y u t' y')) e ∙ read_here u t' x' y')) r
      first j (inr e) =
          let i : latter (set_both k v u) z ≡ latter k z = read_other z u k.next k.latter_x k.latter_y e in
          let l = b.latters z in
          let m : latter k z ≡ k.next = sym i ∙ sym q ∙ j in
          absurd (omega arith)

      second : former (set_both k v u) w ≡ former k w → (z ≡ u) ⊎ (z ≢ u) → R (read w x y) (read z (set_x u t' x') (set_y u t' y'))
      second j (inl e) =
          let i : latter (set_both k v u) z ≡ k.next = ap (latter (set_both k v u)) e ∙ read_here u k.next k.latter_x k.latter_y in
          let l = b.formers w in
          let m : former k w ≡ k.next = sym j ∙ q ∙ i in
          absurd (omega arith)
      second j (inr e) =
          let i : latter (set_both k v u) z ≡ latter k z = read_other z u k.next k.latter_x k.latter_y e in
          subst (λ c. R (read w x y) c) (sym (read_other z u t' x' y' e)) (h w z (subst (λ m. 0 < m) j p) (sym j ∙ q ∙ i))

  pub held_call : (k : Known) (x y x' y' z z' : ℕ → A) → Held k x y x' y' → Held (behind_call k) z y z' y'
  held_call k x y x' y' z z' h (X n) u p q = absurd (omega arith)
  held_call k x y x' y' z z' h (Y n) (X m) p q = absurd (let i : k.former_y n ≡ 0 = q in omega arith)
  held_call k x y x' y' z z' h (Y n) (Y m) p q = h (Y n) (Y m) p q

  pub same_held : (k : Known) (v u : Slot) (x y x' y' : ℕ → A) → is_same k v u ≡ true → Held k x y x' y' → R (read v x y) (read u x' y')
  same_held k v u x y x' y' e h = let b = and_parts (nat_le 1 (former k v)) (former k v == latter k u) e in h v u (above_zero (former k v) b.0) ((Decides-eqb (former k v) (latter k u)).0 b.1)

pub one_same : (k : Known) (n a : ℕ) → 0 < a → a ≤ n → all_same k n ≡ true → is_same k (X a) (X a) ≡ true
one_same k zero a p l e = absurd (omega arith)
one_same k (suc n) a p l e = let b = and_parts (all_same k n) (is_same k (X (suc n)) (X (suc n))) e in go (λ p l i. one_same k n a p l i) (a == suc n) refl b.0 b.1
  where
    go : (0 < a → a ≤ n → all_same k n ≡ true → is_same k (X a) (X a) ≡ true) → (c : Bool) → (a == suc n) ≡ c → all_same k n ≡ true → is_same k (X (suc n)) (X (suc n)) ≡ true → is_same k (X a) (X a) ≡ true
    go ih true q i j = subst (λ a. is_same k (X a) (X a) ≡ true) (sym ((Decides-eqb a (suc n)).0 q)) j
    go ih false q i j = let d : a ≢ suc n = λ r. false≢true (sym q ∙ (Decides-eqb a (suc n)).1 r) in ih p (omega arith) i

-- the same trees
abbrev pub Same : Tree → Tree → Type 0
Same t u = u ≡ t

spread_same : (k : Known) (n p i : ℕ) (x y x' y' : ℕ → Tree) → 0 < p → p + i ≤ n + 1 → all_same k n ≡ true → Held Tree Same k x y x' y' → spread x' p i ≡ spread x p i
spread_same k n p zero x y x' y' j l e h = refl
spread_same k n p (suc i) x y x' y' j l e h =
    ap (λ t. more t (spread x' (p + 1) i)) (same_held Tree Same k (X p) (X p) x y x' y' (one_same k n p j (omega arith) e) h)
    ∙ ap (more (x p)) (spread_same k n (p + 1) i x y x' y' (omega arith) (omega arith) e h)

behind_pending : (s : Shape) (c : ℕ) → s.pending ≡ c + 1 → (behind_argument s).pending ≡ c
behind_pending s c e = go (s.pending == 1) refl
  where
    go : (b : Bool) → (s.pending == 1) ≡ b → (passed b s).pending ≡ c
    go true q = let k : s.pending ≡ 1 = (Decides-eqb s.pending 1).0 q in omega arith
    go false q = omega arith

-- what is known holds also where less of it is known
pub forgets_itself : (k : Known) → Forgets k k
forgets_itself k = record { formers = λ v p. refl; latters = λ u p. refl; next = omega arith }

pub forgets_more : (k m j : Known) → Forgets k m → Forgets m j → Forgets k j
forgets_more k m j f g = record {
  formers = λ v p. let e = g.formers v p in f.formers v (subst (λ n. 0 < n) (sym e) p) ∙ e;
  latters = λ u p. let e = g.latters u p in f.latters u (subst (λ n. 0 < n) (sym e) p) ∙ e;
  next = let a = f.next in let b = g.next in omega arith;
}

none_or_some : (n : ℕ) → (n ≡ 0) ⊎ (0 < n)
none_or_some zero = inl refl
none_or_some (suc n) = inr (omega arith)

pub below_forgets : (k m : Known) → Forgets k m → Below k → Below m
below_forgets k m f b = record {
  formers = λ v. one (former m v) (former k v) (b.formers v) (f.formers v) (none_or_some (former m v));
  latters = λ u. one (latter m u) (latter k u) (b.latters u) (f.latters u) (none_or_some (latter m u));
}
  where
    one : (n l : ℕ) → l < k.next → (0 < n → l ≡ n) → (n ≡ 0) ⊎ (0 < n) → n < m.next
    one n l i e (inl z) = let a = f.next in omega arith
    one n l i e (inr p) = let a = f.next in let d = e p in omega arith

pub held_forgets : (A : Type 0) (R : A → A → Type 0) (k m : Known) (x y x' y' : ℕ → A) → Forgets k m → Held A R k x y x' y' → Held A R m x y x' y'
held_forgets A R k m x y x' y' f h v u p q =
    let e : former k v ≡ former m v = f.formers v p in
    let g : latter k u ≡ latter m u = f.latters u (subst (λ n. 0 < n) q p) in
    h v u (subst (λ n. 0 < n) (sym e) p) (e ∙ q ∙ sym g)

-- what two codes ask for
abbrev pub Alike : List Step → List Step → Trees → (ℕ → Tree) → (ℕ → Tree) → (ℕ → Tree) → (ℕ → Tree) → Trees → Type 0
Alike is js ts x y x' y' bs = (Runs js ts x' y' bs → Runs is ts x y bs) × (Runs is ts x y bs → Runs js ts x' y' bs)

outside : (c p : ℕ) → p ≡ 0 → p ≡ c + 1 → ⊥
outside c p e f = omega arith

-- the same of what stands behind a step
abbrev Behind : (Shape → Type 0) → Known → List Step → List Step → Type 0
Behind K k is js =
    (s : Shape) (ts : Trees) (x y x' y' : ℕ → Tree) (bs : Trees) → K s → s.pending ≡ count_trees ts → Below k → Held Tree Same k x y x' y' → Alike is js ts x y x' y' bs

-- one step, which keeps the rules of code from a shape, with so many arguments of a structure still to come
step_alike : (i : Step) (m : ℕ) (u o : Slot) (K : ℕ → Shape → Type 0) (is js : List Step) (ts : Trees) (k : Known) (s : Shape) (x y x' y' : ℕ → Tree) (bs : Trees)
    → is_kept k i u o ≡ true → PacesOn i m K s → s.pending ≡ count_trees ts → Below k → Held Tree Same k x y x' y' → (ends i ≡ false → Behind (K (passed_over (i, m))) (behind k i u o) is js)
    → Alike (i ∷ is) (relocated i u o ∷ js) ts x y x' y' bs
step_alike (unify_variable v) m u o K is js (more t ts) k s x y x' y' bs f (g, p) c b h r =
    r refl (behind_argument (write v s)) ts (set_x v t x) (set_y v t y) (set_x u t x') (set_y u t y') bs p.2 (behind_pending (write v s) (count_trees ts) c) (below_both k v u b) (held_both Tree Same k v u t t x y x' y' b refl h)
step_alike (unify_value v) m u o K is js (more t ts) k s x y x' y' bs f (g, p) c b h r =
    let e = same_held Tree Same k v u x y x' y' f h in
    let q = r refl (behind_argument s) ts x y x' y' bs p.3 (behind_pending s (count_trees ts) c) b h in
    (λ r. (sym e ∙ r.0, q.0 r.1), λ r. (e ∙ r.0, q.1 r.1))
step_alike (unify_constant t0) m u o K is js (more t ts) k s x y x' y' bs f (g, p) c b h r =
    let q = r refl (behind_argument s) ts x y x' y' bs p.1 (behind_pending s (count_trees ts) c) b h in
    (λ r. (r.0, q.0 r.1), λ r. (r.0, q.1 r.1))
step_alike i m u o K is js (more t ts) k s x y x' y' bs f p c b h r = (λ r. r, λ r. r)
step_alike (unify_variable v) m u o K is js none k s x y x' y' bs f p c b h r = (λ r. r, λ r. r)
step_alike (unify_value v) m u o K is js none k s x y x' y' bs f p c b h r = (λ r. r, λ r. r)
step_alike (unify_constant t0) m u o K is js none k s x y x' y' bs f p c b h r = (λ r. r, λ r. r)
step_alike (get_variable v a) m u o K is js none k s x y x' y' bs f (g, p) c b h r =
    let a' : ℕ = register o in
    let n : ℕ = former k (X a) in
    let l : ℕ = latter k (X a') in
    let k1 : Known = set_former k v n in
    let b1 : Below k1 = below_former k v n (b.formers (X a)) b in
    let h1 : Held Tree Same k1 (set_x v (x a) x) (set_y v (x a) y) x' y' = held_former Tree Same k v (X a) n (x a) x y x' y' refl refl h in
    r refl (write v s) none (set_x v (x a) x) (set_y v (x a) y) (set_x u (x' a') x') (set_y u (x' a') y') bs p.4 c (below_latter k1 u l (b.latters (X a')) b1)
    (held_latter Tree Same k1 u (X a') l (x' a') (set_x v (x a) x) (set_y v (x a) y) x' y' refl refl h1)
step_alike (get_value v a) m u o K is js none k s x y x' y' bs f (g, p) c b h r =
    let z = and_parts (is_same k v u) (is_same k (X a) (X (register o))) f in
    let e = same_held Tree Same k v u x y x' y' z.0 h in
    let i = same_held Tree Same k (X a) (X (register o)) x y x' y' z.1 h in
    let q = r refl s none x y x' y' bs p.5 c b h in
    (λ r. (sym e ∙ r.0 ∙ i, q.0 r.1), λ r. (e ∙ r.0 ∙ sym i, q.1 r.1))
step_alike (get_constant t0 a) m u o K is js none k s x y x' y' bs f (g, p) c b h r =
    let i = same_held Tree Same k (X a) (X (register o)) x y x' y' f h in
    let q = r refl s none x y x' y' bs p.3 c b h in
    (λ r. (sym i ∙ r.0, q.0 r.1), λ r. (i ∙ r.0, q.1 r.1))
step_alike (get_structure l n a) m u o K is js none k s x y x' y' bs f (g, p) c b h r =
    let i = same_held Tree Same k (X a) (X (register o)) x y x' y' f h in
    let q : (ts : Trees) → n ≡ count_trees ts → Alike is js ts x y x' y' bs = λ ts d. r refl (after (GetStructure l n a) s) ts x y x' y' bs p.3 d b h in
    (λ r. (r.0, r.1, sym i ∙ r.2, (q r.0 (sym r.1)).0 r.3), λ r. (r.0, r.1, i ∙ r.2, (q r.0 (sym r.1)).1 r.3))
step_alike (put_variable v a) m u o K is js none k s x y x' y' bs f (g, p) c b h r =
    let a' : ℕ = register o in
    let k1 : Known = set_both k v u in
    let k2 : Known = set_former k1 (X a) k.next in
    let k3 : Known = set_latter k2 (X a') k.next in
    let b1 : Below k1 = below_both k v u b in
    let b2 : Below k2 = below_former k1 (X a) k.next (omega arith) b1 in
    let b3 : Below k3 = below_latter k2 (X a') k.next (omega arith) b2 in
    let q : (t : Tree) → Alike is js none (set (set_x v t x) a t) (set_y v t y) (set (set_x u t x') a' t) (set_y u t y') bs =
    λ t. r refl (after (PutVariable v a) s) none (set (set_x v t x) a t) (set_y v t y) (set (set_x u t x') a' t) (set_y u t y') bs p.3 c b3
    (held_latter Tree Same k2 (X a') u k.next t (set (set_x v t x) a t) (set_y v t y) (set_x u t x') (set_y u t y') (sym (read_here u k.next k.latter_x k.latter_y)) (sym (read_here u t x' y'))
    (held_former Tree Same k1 (X a) v k.next t (set_x v t x) (set_y v t y) (set_x u t x') (set_y u t y') (sym (read_here v k.next k.former_x k.former_y)) (sym (read_here v t x y))
    (held_both Tree Same k v u t t x y x' y' b refl h))) in
    (λ r. (r.0, (q r.0).0 r.1), λ r. (r.0, (q r.0).1 r.1))
step_alike (put_value v a) m u o K is js none k s x y x' y' bs f (g, p) c b h r =
    let a' : ℕ = register o in
    let n : ℕ = former k v in
    let l : ℕ = latter k u in
    let k1 : Known = set_former k (X a) n in
    let b1 : Below k1 = below_former k (X a) n (b.formers v) b in
    let t : Tree = read v x y in
    let t' : Tree = read u x' y' in
    let h1 : Held Tree Same k1 (set x a t) y x' y' = held_former Tree Same k (X a) v n t x y x' y' refl refl h in
    r refl (write (X a) s) none (set x a t) y (set x' a' t') y' bs p.4 c (below_latter k1 (X a') l (b.latters u) b1)
    (held_latter Tree Same k1 (X a') u l t' (set x a t) y x' y' refl refl h1)
step_alike (put_constant t a) m u o K is js none k s x y x' y' bs f (g, p) c b h r =
    let a' : ℕ = register o in
    r refl (write (X a) s) none (set x a t) y (set x' a' t) y' bs p.2 c (below_both k (X a) (X a') b) (held_both Tree Same k (X a) (X a') t t x y x' y' b refl h)
step_alike (put_structure l n a) m u o K is js none k s x y x' y' bs f (g, p) c b h r =
    let a' : ℕ = register o in
    let q : (ts : Trees) → n ≡ count_trees ts → Alike is js ts (set x a (node l ts)) y (set x' a' (node l ts)) y' bs =
    λ ts d. r refl (after (PutStructure l n a) s) ts (set x a (node l ts)) y (set x' a' (node l ts)) y' bs p.2 d (below_both k (X a) (X a') b)
    (held_both Tree Same k (X a) (X a') (node l ts) (node l ts) x y x' y' b refl h) in
    (λ r. (r.0, r.1, (q r.0 (sym r.1)).0 r.2), λ r. (r.0, r.1, (q r.0 (sym r.1)).1 r.2))
step_alike (call d n) m u o K is js none k s x y x' y' bs f (g, p) c b h r =
    let e : spread x' 1 n ≡ spread x 1 n = spread_same k n 1 n x y x' y' (omega arith) (omega arith) f h in
    let q : (ds : Trees) → Alike is js none lost y lost y' ds = λ ds. r refl (after (Call 0) s) none lost y lost y' ds p.3 c (below_call k b) (held_call Tree Same k x y x' y' lost lost h) in
    (λ r. (r.0, r.1 ∙ ap (λ ts. more (applied d ts) r.0) e, (q r.0).0 r.2), λ r. (r.0, r.1 ∙ ap (λ ts. more (applied d ts) r.0) (sym e), (q r.0).1 r.2))
step_alike (execute d n) m u o K is js none k s x y x' y' bs f p c b h r =
    let e : spread x' 1 n ≡ spread x 1 n = spread_same k n 1 n x y x' y' (omega arith) (omega arith) f h in
    (λ r. r ∙ ap (λ ts. more (applied d ts) none) e, λ r. r ∙ ap (λ ts. more (applied d ts) none) (sym e))
step_alike (builtin d n) m u o K is js none k s x y x' y' bs f (g, p) c b h r =
    let e : spread x' 1 n ≡ spread x 1 n = spread_same k n 1 n x y x' y' (omega arith) (omega arith) f h in
    let q : (ds : Trees) → Alike is js none x y x' y' ds = λ ds. r refl s none x y x' y' ds p.2 c b h in
    (λ r. (r.0, r.1 ∙ ap (λ ts. more (applied d ts) r.0) e, (q r.0).0 r.2), λ r. (r.0, r.1 ∙ ap (λ ts. more (applied d ts) r.0) (sym e), (q r.0).1 r.2))
step_alike proceed m u o K is js none k s x y x' y' bs f p c b h r = (λ r. r, λ r. r)
step_alike jump m u o K is js none k s x y x' y' bs f p c b h r = r refl s none x y x' y' bs p.2 c b h
step_alike (check_ground v) m u o K is js none k s x y x' y' bs f p c b h r =
    let e : read u x' y' ≡ read v x y = same_held Tree Same k v u x y x' y' f h in
    let q : (ds : Trees) → Alike is js none x y x' y' ds = λ ds. r refl s none x y x' y' ds p.4 c b h in
    (λ r. (r.0, r.1 ∙ ap (λ t. more ground_mark (more t r.0)) e, (q r.0).0 r.2), λ r. (r.0, r.1 ∙ ap (λ t. more ground_mark (more t r.0)) (sym e), (q r.0).1 r.2))
step_alike (check_indep v w) m u o K is js none k s x y x' y' bs f p c b h r =
    let z = and_parts (is_same k v u) (is_same k w o) f in
    let e : read u x' y' ≡ read v x y = same_held Tree Same k v u x y x' y' z.0 h in
    let i : read o x' y' ≡ read w x y = same_held Tree Same k w o x y x' y' z.1 h in
    let both : (ds : Trees) → more apart_mark (more (read u x' y') (more (read o x' y') ds)) ≡ more apart_mark (more (read v x y) (more (read w x y) ds)) =
    λ ds. ap (λ t. more apart_mark (more t (more (read o x' y') ds))) e ∙ ap (λ t. more apart_mark (more (read v x y) (more t ds))) i in
    let q : (ds : Trees) → Alike is js none x y x' y' ds = λ ds. r refl s none x y x' y' ds p.6 c b h in
    (λ r. (r.0, r.1 ∙ both r.0, (q r.0).0 r.2), λ r. (r.0, r.1 ∙ sym (both r.0), (q r.0).1 r.2))
step_alike (group n) m u o K is js none k s x y x' y' bs f p c b h r =
    let q : (ds : Trees) → Alike is js none x y x' y' ds = λ ds. r refl (with_group (Some (n, 0)) s) none x y x' y' ds p.3 c b h in
    (λ r. (r.0, r.1, (q r.0).0 r.2), λ r. (r.0, r.1, (q r.0).1 r.2))
step_alike (push d n) m u o K is js none k s x y x' y' bs f p c b h r =
    let e : spread x' 1 n ≡ spread x 1 n = spread_same k n 1 n x y x' y' (omega arith) (omega arith) f h in
    let q : (ds : Trees) → Alike is js none x y x' y' ds = λ ds. r refl (with_group (one_pushed s.group) s) none x y x' y' ds p.3 c b h in
    (λ r. (r.0, r.1 ∙ ap (λ ts. more (applied d ts) r.0) e, (q r.0).0 r.2), λ r. (r.0, r.1 ∙ ap (λ ts. more (applied d ts) r.0) (sym e), (q r.0).1 r.2))
step_alike wait m u o K is js none k s x y x' y' bs f p c b h r = r refl (after WaitAll s) none lost y lost y' bs p.3 c (below_call k b) (held_call Tree Same k x y x' y' lost lost h)
step_alike i m u o K is js none k s x y x' y' bs f p c b h r = absurd p.1

-- ---- where control goes on

pub passed_same : (i : Step) (m : ℕ) (u o : Slot) (cs : List Change) → passed_over (relocated i u o, staying m cs) ≡ staying (passed_over (i, m)) cs
passed_same jump m u o cs = refl
passed_same _ m u o cs = refl

pub onward : (i : Step) (m : ℕ) (K : ℕ → Known → Type 0) (N : ℕ → Type 0) (k : Known) → ends i ≡ false → Onward (i, m) K N k → K (passed_over (i, m)) k
onward jump m K N k e w = w.1
onward (check_ground v) m K N k e w = w.1
onward (check_indep v u) m K N k e w = w.1
onward (group n) m K N k e w = w.1
onward (execute p n) m K N k e w = absurd (false≢true (sym e))
onward proceed m K N k e w = absurd (false≢true (sym e))
onward _ m K N k e w = w

module _ (room : Option ℕ) (rest : List Lead) where
  -- the code as it was keeps the rules of code from a shape, with so many arguments of a structure still to come
  pub alike : (n : ℕ) (cs : List Change) (ts : Trees) (k : Known) (s : Shape) (x y x' y' : ℕ → Tree) (bs : Trees)
      → list_all (change_fits room) cs ≡ true → AreKept n k cs → PacesLeads n (olds cs) s → s.pending ≡ count_trees ts → Below k → Held Tree Same k x y x' y'
      → Alike (flow n (olds cs ++ rest)) (flow (staying n cs) (news cs ++ rest)) ts x y x' y' bs
  alike zero [] ts k s x y x' y' bs w a p c b h = absurd a
  alike (suc n) [] ts k s x y x' y' bs w a p c b h = absurd a
  alike (suc n) (kept l u o ∷ cs) ts k s x y x' y' bs w a p c b h = alike n cs ts k s x y x' y' bs (and_parts (fits room l.0 u o) (list_all (change_fits room) cs) w).1 a p c b h
  alike (suc n) (dropped l ∷ cs) ts k s x y x' y' bs w a p c b h = alike n cs ts k s x y x' y' bs (and_parts (may_drop l.0) (list_all (change_fits room) cs) w).1 a p c b h
  alike zero (dropped (get_variable v r, m) ∷ cs) (more t ts) k s x y x' y' bs w a p c b h = absurd (outside (count_trees ts) s.pending p.1.3 c)
  alike zero (dropped (put_value v r, m) ∷ cs) (more t ts) k s x y x' y' bs w a p c b h = absurd (outside (count_trees ts) s.pending p.1.3 c)
  alike zero (dropped (get_variable v r, m) ∷ cs) none k s x y x' y' bs w (j, f, a) p c b h =
      let n : ℕ = former j (X r) in
      let d : Below j = below_forgets k j f b in
      alike zero cs none (set_former j v n) (write v s) (set_x v (x r) x) (set_y v (x r) y) x' y' bs w a p.1.4 c (below_former j v n (d.formers (X r)) d)
      (held_former Tree Same j v (X r) n (x r) x y x' y' refl refl (held_forgets Tree Same k j x y x' y' f h))
  alike zero (dropped (put_value v r, m) ∷ cs) none k s x y x' y' bs w (j, f, a) p c b h =
      let n : ℕ = former j v in
      let d : Below j = below_forgets k j f b in
      alike zero cs none (set_former j (X r) n) (write (X r) s) (set x r (read v x y)) y x' y' bs w a p.1.4 c (below_former j (X r) n (d.formers v) d)
      (held_former Tree Same j (X r) v n (read v x y) x y x' y' refl refl (held_forgets Tree Same k j x y x' y' f h))
  alike zero (dropped (i, m) ∷ cs) ts k s x y x' y' bs w a p c b h = absurd (false≢true w)
  alike zero (kept (i, m) u o ∷ cs) ts k s x y x' y' bs w (j, f, a) p c b h =
      subst (λ n. Alike (i ∷ flow (passed_over (i, m)) (olds cs ++ rest)) (relocated i u o ∷ flow n (news cs ++ rest)) ts x y x' y' bs) (sym (passed_same i m u o cs))
      (step_alike i m u o (λ n z. PacesLeads n (olds cs) z) (flow (passed_over (i, m)) (olds cs ++ rest)) (flow (staying (passed_over (i, m)) cs) (news cs ++ rest)) ts j s x y x' y' bs a.0 p c
      (below_forgets k j f b) (held_forgets Tree Same k j x y x' y' f h) (λ e s1 ts1 x1 y1 x2 y2 bs1 q d b1 h1.
      alike (passed_over (i, m)) cs ts1 (behind j i u o) s1 x1 y1 x2 y2 bs1 (and_parts (fits room i u o) (list_all (change_fits room) cs) w).1
      (onward i m (λ n j. AreKept n j cs) (λ n. NoTurns n cs) (behind j i u o) e a.1) q d b1 h1))
