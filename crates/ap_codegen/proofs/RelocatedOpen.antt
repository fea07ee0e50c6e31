-- Steps behind a goal that test nothing and keep the rules of code ask for something, whatever places hold.
use Rattle.std.proofs.Common.{◌≡◌, ℕ, zero, suc, ◌+◌, ◌-◌, ◌<◌, ◌==◌, Bool, true, false, not, ◌||◌, if◌then◌else◌, List, [], ◌∷◌, ◌++◌, map, Some, refl, ap, sym, ◌∙◌, subst, arith}
use Rattle.std.proofs.lemmas.Bool.{false≢true, and_parts, or_right}
use Rattle.std.proofs.lemmas.Bool.Decides.{Decides-eqb}
use Rattle.ap_term.specs.Tree.{Tree, Trees, atom, node, none, more, count_trees}
use Rattle.ap_tracked.specs.Marks.{ground_mark, apart_mark, group_mark}
use Rattle.ap_instr.specs.declared.instruction.Slot.{Slot}
use Rattle.ap_instr.specs.declared.instruction.Slot.TheVariants.{X, Y}
use Rattle.ap_instr.specs.declared.instruction.Instr.TheVariants.{GetStructure, PutStructure, PutVariable, Call, WaitAll}
use Rattle.ap_instr.specs.Step.{Step, get_variable, get_value, get_constant, get_structure, put_variable, put_value, put_constant, put_structure, unify_variable, unify_value, unify_constant, call, execute, builtin, proceed, jump, check_ground, check_indep, group, push, wait}
use Rattle.ap_instr.specs.Runs.{Runs, read, set_x, set_y, set, spread, applied, lost, IsOpen, AsksOpenly}
use Rattle.ap_codecheck.specs.Shape.{Shape, is_set, write, passed, behind_argument, with_group, after}
use Rattle.ap_codegen.specs.Emitted.{Lead}
use Rattle.ap_codegen.specs.Grouped.{flow}
use Rattle.ap_codegen.specs.Paces.{one_pushed, PacesLeads}
use Rattle.ap_codegen.specs.Relocated.{asks, tests_nothing, all_open}

-- registers that hold the same where something is set
abbrev Agree : Shape → (ℕ → Tree) → (ℕ → Tree) → Type 0
Agree s x z = (w : ℕ) → s.x w ≡ true → z w ≡ x w

-- The steps ask for something, inside a structure for some arguments that are still to come, which don't depend on what isn't set.
abbrev Opens : List Step → Shape → (ℕ → Tree) → (ℕ → Tree) → Type 0
Opens is s x y = (ts : Trees) × (count_trees ts ≡ s.pending) × ((z : ℕ → Tree) → Agree s x z → (bs : Trees) × Runs is ts z y bs)

no_trees : (ts : Trees) → count_trees ts ≡ 0 → none ≡ ts
no_trees none e = refl
no_trees (more t ts) e = absurd (omega arith)

-- outside of structures
outside : (is : List Step) (s : Shape) (x y : ℕ → Tree) → s.pending ≡ 0 → Opens is s x y → (bs : Trees) × Runs is none x y bs
outside is s x y p o = subst (λ ts. (bs : Trees) × Runs is ts x y bs) (sym (no_trees o.0 (o.1 ∙ p))) (o.2 x (λ w e. refl))

begun : (is : List Step) (s : Shape) (x y : ℕ → Tree) → s.pending ≡ 0 → ((z : ℕ → Tree) → (bs : Trees) × Runs is none z y bs) → Opens is s x y
begun is s x y p o = (none, sym p, λ z a. o z)

-- behind an argument
behind_opens : (is : List Step) (s : Shape) (y : ℕ → Tree) → 0 < s.pending → ((x : ℕ → Tree) → Opens is (behind_argument s) x y)
    → (x : ℕ → Tree) → (ts : Trees) × (count_trees ts + 1 ≡ s.pending) × ((z : ℕ → Tree) → Agree s x z → (bs : Trees) × Runs is ts z y bs)
behind_opens is s y l o x = go (s.pending == 1) refl o
  where
    go : (b : Bool) → (s.pending == 1) ≡ b → ((x : ℕ → Tree) → Opens is (passed b s) x y) → (ts : Trees) × (count_trees ts + 1 ≡ s.pending) × ((z : ℕ → Tree) → Agree s x z → (bs : Trees) × Runs is ts z y bs)
    go true e o = (none, sym ((Decides-eqb s.pending 1).0 e), λ z a. outside is (passed true s) z y refl (o z))
    go false e o = let r = o x in (r.0, (let c : count_trees r.0 ≡ s.pending - 1 = r.1 in omega arith), r.2)

agree_written : (v : Slot) (s : Shape) (t : Tree) (x z : ℕ → Tree) → Agree s x z → Agree (write v s) (set_x v t x) (set_x v t z)
agree_written (Y n) s t x z a = a
agree_written (X n) s t x z a = λ w e. go w (w == n) e
  where
    go : (w : ℕ) (b : Bool) → (if b then true else s.x w) ≡ true → (if b then t else z w) ≡ (if b then t else x w)
    go w true e = refl
    go w false e = a w e

agree_read : (v : Slot) (s : Shape) (x z y : ℕ → Tree) → is_set s v ≡ true → Agree s x z → read v z y ≡ read v x y
agree_read (X n) s x z y e a = a n e
agree_read (Y n) s x z y e a = refl

-- no test comes behind a goal, in steps with their labels
abbrev pub open_leads : Bool → List Lead → Bool
open_leads asked ls = all_open asked (map (λ l. l.0) ls)

pub open_behind : (asked : Bool) (l : Lead) (ls : List Lead) → open_leads asked (l ∷ ls) ≡ true → open_leads (asked || asks l.0) ls ≡ true
open_behind asked l ls f = (and_parts (not asked || tests_nothing l.0) (open_leads (asked || asks l.0) ls) f).1

module _ (rest : List Lead) where
  opens : (n : ℕ) (ls : List Lead) (s : Shape) → open_leads true ls ≡ true → PacesLeads n ls s → (x y : ℕ → Tree) → Opens (flow n (ls ++ rest)) s x y
  opens zero [] s f p x y = absurd p
  opens (suc n) [] s f p x y = absurd p
  opens (suc n) (l ∷ ls) s f p x y = opens n ls s (open_behind true l ls f) p x y
  opens zero ((unify_variable v, m) ∷ ls) s f (g, p) x y =
      let t : Tree = atom 0 in
      let is : List Step = flow 0 (ls ++ rest) in
      let r = behind_opens is (write v s) (set_y v t y) p.1 (λ x. opens zero ls (behind_argument (write v s)) f p.2 x (set_y v t y)) (set_x v t x) in
      (more t r.0, r.1, λ z a. r.2 (set_x v t z) (agree_written v s t x z a))
  opens zero ((unify_value v, m) ∷ ls) s f (g, p) x y =
      let r = behind_opens (flow 0 (ls ++ rest)) s y p.2 (λ x. opens zero ls (behind_argument s) f p.3 x y) x in
      (more (read v x y) r.0, r.1, λ z a. let q = r.2 z a in (q.0, (agree_read v s x z y p.1 a, q.1)))
  opens zero ((unify_constant t, m) ∷ ls) s f (g, p) x y =
      let r = behind_opens (flow 0 (ls ++ rest)) s y p.0 (λ x. opens zero ls (behind_argument s) f p.1 x y) x in
      (more t r.0, r.1, λ z a. let q = r.2 z a in (q.0, (refl, q.1)))
  opens zero ((get_variable v a, m) ∷ ls) s f (g, p) x y =
      let is : List Step = flow 0 (ls ++ rest) in
      begun (get_variable v a ∷ is) s x y p.3 (λ z. outside is (write v s) (set_x v (z a) z) (set_y v (z a) y) p.3 (opens zero ls (write v s) f p.4 (set_x v (z a) z) (set_y v (z a) y)))
  opens zero ((put_variable v a, m) ∷ ls) s f (g, p) x y =
      let t : Tree = atom 0 in
      let is : List Step = flow 0 (ls ++ rest) in
      begun (put_variable v a ∷ is) s x y p.2 (λ z.
      let q = outside is (after (PutVariable v a) s) (set (set_x v t z) a t) (set_y v t y) p.2 (opens zero ls (after (PutVariable v a) s) f p.3 (set (set_x v t z) a t) (set_y v t y)) in (q.0, (t, q.1)))
  opens zero ((put_value v a, m) ∷ ls) s f (g, p) x y =
      let is : List Step = flow 0 (ls ++ rest) in
      begun (put_value v a ∷ is) s x y p.3 (λ z. outside is (write (X a) s) (set z a (read v z y)) y p.3 (opens zero ls (write (X a) s) f p.4 (set z a (read v z y)) y))
  opens zero ((put_constant t a, m) ∷ ls) s f (g, p) x y =
      let is : List Step = flow 0 (ls ++ rest) in
      begun (put_constant t a ∷ is) s x y p.1 (λ z. outside is (write (X a) s) (set z a t) y p.1 (opens zero ls (write (X a) s) f p.2 (set z a t) y))
  opens zero ((put_structure l n a, m) ∷ ls) s f (g, p) x y =
      begun (put_structure l n a ∷ flow 0 (ls ++ rest)) s x y p.1 (λ z. build z (opens zero ls (after (PutStructure l n a) s) f p.2 (set z a (node l none)) y))
    where
      build : (z : ℕ → Tree) → Opens (flow 0 (ls ++ rest)) (after (PutStructure l n a) s) (set z a (node l none)) y → (bs : Trees) × Runs (put_structure l n a ∷ flow 0 (ls ++ rest)) none z y bs
      build z r = let q = r.2 (set z a (node l r.0)) (λ w e. go w (w == a) e) in (q.0, (r.0, r.1, q.1))
        where
          go : (w : ℕ) (b : Bool) → (if b then n == 0 else s.x w) ≡ true → (if b then node l r.0 else z w) ≡ (if b then node l none else z w)
          go w true e = let i : n ≡ 0 = (Decides-eqb n 0).0 e in ap (node l) (sym (no_trees r.0 (r.1 ∙ i)))
          go w false e = refl
  opens zero ((call d n, m) ∷ ls) s f (g, p) x y =
      let is : List Step = flow 0 (ls ++ rest) in
      let q = outside is (after (Call 0) s) lost y p.2 (opens zero ls (after (Call 0) s) f p.3 lost y) in
      begun (call d n ∷ is) s x y p.2 (λ z. (more (applied d (spread z 1 n)) q.0, (q.0, refl, q.1)))
  opens zero ((builtin d n, m) ∷ ls) s f (g, p) x y =
      let is : List Step = flow 0 (ls ++ rest) in
      begun (builtin d n ∷ is) s x y p.1 (λ z. let q = outside is s z y p.1 (opens zero ls s f p.2 z y) in (more (applied d (spread z 1 n)) q.0, (q.0, refl, q.1)))
  opens zero ((execute d n, m) ∷ ls) s f (g, p) x y = begun (execute d n ∷ flow 0 (ls ++ rest)) s x y p.1 (λ z. (more (applied d (spread z 1 n)) none, refl))
  opens zero ((proceed, m) ∷ ls) s f (g, p) x y = begun (proceed ∷ flow 0 (ls ++ rest)) s x y p.0 (λ z. (none, refl))
  opens zero ((jump, m) ∷ ls) s f p x y =
      let is : List Step = flow m (ls ++ rest) in
      begun (jump ∷ is) s x y p.1 (λ z. outside is s z y p.1 (opens m ls s f p.2 z y))
  opens zero ((check_ground v, m) ∷ ls) s f p x y =
      let is : List Step = flow 0 (ls ++ rest) in
      begun (check_ground v ∷ is) s x y p.1 (λ z. let q = outside is s z y p.1 (opens zero ls s f p.4 z y) in (more ground_mark (more (read v z y) q.0), (q.0, refl, q.1)))
  opens zero ((check_indep v w, m) ∷ ls) s f p x y =
      let is : List Step = flow 0 (ls ++ rest) in
      begun (check_indep v w ∷ is) s x y p.1 (λ z. let q = outside is s z y p.1 (opens zero ls s f p.6 z y) in (more apart_mark (more (read v z y) (more (read w z y) q.0)), (q.0, refl, q.1)))
  opens zero ((group n, m) ∷ ls) s f p x y =
      let is : List Step = flow 0 (ls ++ rest) in
      begun (group n ∷ is) s x y p.1 (λ z. let q = outside is (with_group (Some (n, 0)) s) z y p.1 (opens zero ls (with_group (Some (n, 0)) s) f p.3 z y) in (more (group_mark n) q.0, (q.0, refl, q.1)))
  opens zero ((push d n, m) ∷ ls) s f p x y =
      let is : List Step = flow 0 (ls ++ rest) in
      begun (push d n ∷ is) s x y p.1 (λ z.
      let q = outside is (with_group (one_pushed s.group) s) z y p.1 (opens zero ls (with_group (one_pushed s.group) s) f p.3 z y) in (more (applied d (spread z 1 n)) q.0, (q.0, refl, q.1)))
  opens zero ((wait, m) ∷ ls) s f p x y =
      let is : List Step = flow 0 (ls ++ rest) in
      begun (wait ∷ is) s x y p.1 (λ z. outside is (after WaitAll s) lost y p.1 (opens zero ls (after WaitAll s) f p.3 lost y))
  opens zero ((get_value v a, m) ∷ ls) s f p x y = absurd (false≢true f)
  opens zero ((get_constant t a, m) ∷ ls) s f p x y = absurd (false≢true f)
  opens zero ((get_structure l n a, m) ∷ ls) s f p x y = absurd (false≢true f)
  opens zero ((i, m) ∷ ls) s f p x y = absurd p.1

  is_open : (asked : Bool) (n : ℕ) (ls : List Lead) (s : Shape) → open_leads (asked || true) ls ≡ true → PacesLeads n ls s → s.pending ≡ 0 → IsOpen (flow n (ls ++ rest))
  is_open asked n ls s f p o x y = outside (flow n (ls ++ rest)) s x y o (opens n ls s (subst (λ b. open_leads b ls ≡ true) (or_right asked true refl) f) p x y)

  -- no test comes behind a goal
  pub asks_openly : (asked : Bool) (n : ℕ) (ls : List Lead) (s : Shape) → open_leads asked ls ≡ true → PacesLeads n ls s → AsksOpenly (flow n (ls ++ rest))
  asks_openly asked zero [] s f p = absurd p
  asks_openly asked (suc n) [] s f p = absurd p
  asks_openly asked (suc n) (l ∷ ls) s f p = asks_openly (asked || asks l.0) n ls s (open_behind asked l ls f) p
  asks_openly asked zero ((unify_variable v, m) ∷ ls) s f (g, p) = asks_openly (asked || false) zero ls (behind_argument (write v s)) (open_behind asked (unify_variable v, m) ls f) p.2
  asks_openly asked zero ((unify_value v, m) ∷ ls) s f (g, p) = asks_openly (asked || false) zero ls (behind_argument s) (open_behind asked (unify_value v, m) ls f) p.3
  asks_openly asked zero ((unify_constant t, m) ∷ ls) s f (g, p) = asks_openly (asked || false) zero ls (behind_argument s) (open_behind asked (unify_constant t, m) ls f) p.1
  asks_openly asked zero ((get_variable v a, m) ∷ ls) s f (g, p) = asks_openly (asked || false) zero ls (write v s) (open_behind asked (get_variable v a, m) ls f) p.4
  asks_openly asked zero ((get_value v a, m) ∷ ls) s f (g, p) = asks_openly (asked || false) zero ls s (open_behind asked (get_value v a, m) ls f) p.5
  asks_openly asked zero ((get_constant t a, m) ∷ ls) s f (g, p) = asks_openly (asked || false) zero ls s (open_behind asked (get_constant t a, m) ls f) p.3
  asks_openly asked zero ((get_structure l n a, m) ∷ ls) s f (g, p) = asks_openly (asked || false) zero ls (after (GetStructure l n a) s) (open_behind asked (get_structure l n a, m) ls f) p.3
  asks_openly asked zero ((put_variable v a, m) ∷ ls) s f (g, p) = asks_openly (asked || false) zero ls (after (PutVariable v a) s) (open_behind asked (put_variable v a, m) ls f) p.3
  asks_openly asked zero ((put_value v a, m) ∷ ls) s f (g, p) = asks_openly (asked || false) zero ls (write (X a) s) (open_behind asked (put_value v a, m) ls f) p.4
  asks_openly asked zero ((put_constant t a, m) ∷ ls) s f (g, p) = asks_openly (asked || false) zero ls (write (X a) s) (open_behind asked (put_constant t a, m) ls f) p.2
  asks_openly asked zero ((put_structure l n a, m) ∷ ls) s f (g, p) = asks_openly (asked || false) zero ls (after (PutStructure l n a) s) (open_behind asked (put_structure l n a, m) ls f) p.2
  asks_openly asked zero ((call d n, m) ∷ ls) s f (g, p) =
      let e = open_behind asked (call d n, m) ls f in
      (is_open asked 0 ls (after (Call 0) s) e p.3 p.2, asks_openly (asked || true) zero ls (after (Call 0) s) e p.3)
  asks_openly asked zero ((builtin d n, m) ∷ ls) s f (g, p) =
      let e = open_behind asked (builtin d n, m) ls f in
      (is_open asked 0 ls s e p.2 p.1, asks_openly (asked || true) zero ls s e p.2)
  asks_openly asked zero ((execute d n, m) ∷ ls) s f p = tt
  asks_openly asked zero ((proceed, m) ∷ ls) s f p = tt
  asks_openly asked zero ((jump, m) ∷ ls) s f p = let e = open_behind asked (jump, m) ls f in (is_open asked m ls s e p.2 p.1, asks_openly (asked || true) m ls s e p.2)
  asks_openly asked zero ((check_ground v, m) ∷ ls) s f p = let e = open_behind asked (check_ground v, m) ls f in (is_open asked 0 ls s e p.4 p.1, asks_openly (asked || true) zero ls s e p.4)
  asks_openly asked zero ((check_indep v w, m) ∷ ls) s f p = let e = open_behind asked (check_indep v w, m) ls f in (is_open asked 0 ls s e p.6 p.1, asks_openly (asked || true) zero ls s e p.6)
  asks_openly asked zero ((group n, m) ∷ ls) s f p =
      let e = open_behind asked (group n, m) ls f in
      (is_open asked 0 ls (with_group (Some (n, 0)) s) e p.3 p.1, asks_openly (asked || true) zero ls (with_group (Some (n, 0)) s) e p.3)
  asks_openly asked zero ((push d n, m) ∷ ls) s f p =
      let e = open_behind asked (push d n, m) ls f in
      (is_open asked 0 ls (with_group (one_pushed s.group) s) e p.3 p.1, asks_openly (asked || true) zero ls (with_group (one_pushed s.group) s) e p.3)
  asks_openly asked zero ((wait, m) ∷ ls) s f p = let e = open_behind asked (wait, m) ls f in (is_open asked 0 ls (after WaitAll s) e p.3 p.1, asks_openly (asked || true) zero ls (after WaitAll s) e p.3)
  asks_openly asked zero ((i, m) ∷ ls) s f p = absurd p.1
