-- The search by single moves, on goals alone: a call, or a group that comes first opened.
use Rattle.std.proofs.Common.{◌≡◌, ℕ, zero, suc, ◌+◌, ◌≤◌, ◌⊎◌, inl, inr, List, [], ◌∷◌, ◌++◌, map, Option, Some, None, refl, ap, ap₂, sym, ◌∙◌, subst, arith}
use Rattle.std.specs.List.{flat_map}
use Rattle.std.proofs.Math.Path.{fun_ext}
use Rattle.ap_term.specs.Tree.{Tree, Trees, var, none, more}
use Rattle.ap_term.specs.Substitution.{instance, Subst, value, shift}
use Rattle.ap_term.specs.Unification.{mgu}
use Rattle.ap_term.specs.Unifier.{IsMostGeneral}
use Rattle.ap_term.specs.Builtins.{builtin}
use Rattle.ap_term.specs.declared.faults.Fault.{Fault}
use Rattle.ap_term.specs.Faults.{fault_of}
use Rattle.ap_term.specs.Goals as goals
use Rattle.ap_term.specs.Goals.{Clause, Program}
use Rattle.ap_term.proofs.Copies.{instance_var, instance_twice}
use Rattle.ap_term.proofs.Solvable.{mgu-general}
use Rattle.ap_absunify.specs.MostGeneral.{MostGeneral}
use Rattle.ap_tracked.specs.Tracked.{Goal, call, fork, moved, renamed, placed, calls, opened, Tracked, child_if, clause_children, call_children, children_unless, children_by, IsOneOf}
use Rattle.ap_tracked.specs.Forks.{Fork, ComesFirst}
use Rattle.ap_certify.proofs.Runs.{after_head, Ans, answered, by, Body, done, goal, joined, within, BodyFork, first, sequence, past_group, in_goal, past_goal}

pub data Item : Type 0 where
  one : Tree → Item
  some : Fork → Item

abbrev pub inst : (ℕ → Tree) → Item → Item
inst k (one g) = one (instance k g)
inst k (some h) = some (record { checks = h.checks; goals = h.goals; own = λ x. instance k (h.own x) })

abbrev pub insts : (ℕ → Tree) → List Item → List Item
insts k [] = []
insts k (i ∷ K) = inst k i ∷ insts k K

abbrev pub item : (ℕ → Tree) → goals.Part → Item
item f (goals.call g) = one (instance f g)
item f (goals.group cs gs) = some (record { checks = cs; goals = gs; own = f })

abbrev pub items : (ℕ → Tree) → List goals.Part → List Item
items f [] = []
items f (p ∷ ps) = item f p ∷ items f ps

abbrev pub IsFirst : List Item → Fork → Type 0
IsFirst [] h = ⊥
IsFirst (one g ∷ K) h = ⊥
IsFirst (some e ∷ K) h = h ≡ e

-- one call, or a group that comes first read as a conjunction
abbrev pub Stepped : Program → (List Item → ℕ → Type 0) → List Item → ℕ → Type 0
Stepped A R [] n = ⊥
Stepped A R (one g ∷ K) n =
    ((u : ℕ → Tree) × (c : Clause) × IsOneOf c A × (builtin g ≡ None) × MostGeneral g (instance (shift n) c.head) u × R (items (after_head c n u) c.body ++ insts u K) (n + (c.vars + 1)))
    ⊎ ((b : Subst) × (builtin g ≡ Some (Some b)) × R (insts (value b) K) (n + 0))
Stepped A R (some h ∷ K) n = R (items h.own (goals.calls h.goals) ++ K) n

-- in at most d moves a group comes first
abbrev pub Reached : Program → ℕ → List Item → ℕ → Fork → Type 0
Reached A zero L n h = IsFirst L h
Reached A (suc d) L n h = IsFirst L h ⊎ Stepped A (λ K m. Reached A d K m h) L n

inst_var : (i : Item) → inst (λ x. var x) i ≡ i
inst_var (one g) = ap one (instance_var g)
inst_var (some h) = ap (λ f. some (record { checks = h.checks; goals = h.goals; own = f })) (fun_ext (λ x. instance_var (h.own x)))

insts_var : (K : List Item) → insts (λ x. var x) K ≡ K
insts_var [] = refl
insts_var (i ∷ K) = ap₂ (λ j L. j ∷ L) (inst_var i) (insts_var K)

inst_twice : (k s : ℕ → Tree) (i : Item) → inst s (inst k i) ≡ inst (λ x. instance s (k x)) i
inst_twice k s (one g) = ap one (instance_twice k s g)
inst_twice k s (some h) = ap (λ f. some (record { checks = h.checks; goals = h.goals; own = f })) (fun_ext (λ x. instance_twice k s (h.own x)))

insts_twice : (k s : ℕ → Tree) (K : List Item) → insts s (insts k K) ≡ insts (λ x. instance s (k x)) K
insts_twice k s [] = refl
insts_twice k s (i ∷ K) = ap₂ (λ j L. j ∷ L) (inst_twice k s i) (insts_twice k s K)

inst_item : (f k : ℕ → Tree) (p : goals.Part) → inst k (item f p) ≡ item (λ x. instance k (f x)) p
inst_item f k (goals.call g) = ap one (instance_twice f k g)
inst_item f k (goals.group cs gs) = refl

pub insts_items : (f k : ℕ → Tree) (ps : List goals.Part) (K : List Item) → insts k (items f ps ++ K) ≡ items (λ x. instance k (f x)) ps ++ insts k K
insts_items f k [] K = refl
insts_items f k (p ∷ ps) K = ap₂ (λ j L. j ∷ L) (inst_item f k p) (insts_items f k ps K)

module _ (A : Program) (h : Fork) where
  -- the parts have a group, or are passed
  abbrev pub Passed : ℕ → List goals.Part → (ℕ → Tree) → ℕ → List Item → Type 0
  Passed d ps f n K = BodyFork A ps f n h ⊎ ((s : ℕ → Tree) × (m : ℕ) × (e : ℕ) × Body A ps f n s m × Reached A e (insts s K) m h × (e ≤ d))

  run : (D d : ℕ) → d ≤ D → (ps : List goals.Part) (f : ℕ → Tree) (n : ℕ) (K : List Item) → Reached A d (items f ps ++ K) n h → Passed d ps f n K
  run D d le [] f n K r = inr (λ x. var x, n, d, done, (let P : List Item → Type 0 = λ L. Reached A d L n h in subst P (sym (insts_var K)) r), omega arith)
  run D zero le (goals.call g ∷ ps) f n K r = absurd r
  run D zero le (goals.group cs gs ∷ ps) f n K r = let P : Fork → Type 0 = λ z. BodyFork A (goals.group cs gs ∷ ps) f n z in inl (subst P (sym r) first)
  run zero (suc d) le (p ∷ ps) f n K r = absurd (omega arith)
  run (suc D) (suc d) le (goals.call g ∷ ps) f n K (inl r) = absurd r
  run (suc D) (suc d) le (goals.call g ∷ ps) f n K (inr (inl (u, c, i, q, mg, r))) =
      inside (run D d (omega arith) c.body (after_head c n u) (n + (c.vars + 1)) (insts u (items f ps ++ K)) r) (λ a q. run D a q ps)
    where
      inside : Passed d c.body (after_head c n u) (n + (c.vars + 1)) (insts u (items f ps ++ K))
          → ((a : ℕ) → a ≤ D → (f2 : ℕ → Tree) (n2 : ℕ) (K2 : List Item) → Reached A a (items f2 ps ++ K2) n2 h → Passed a ps f2 n2 K2) → Passed (suc d) (goals.call g ∷ ps) f n K
      inside (inl k) ih = inl (in_goal (within u c i q mg k))
      inside (inr (s, m, a, b, r2, l)) ih =
          after (ih a (omega arith) (λ x. instance (λ y. instance s (u y)) (f x)) m (insts (λ y. instance s (u y)) K)
          (let P : List Item → Type 0 = λ L. Reached A a L m h in subst P (insts_twice u s (items f ps ++ K) ∙ insts_items f (λ y. instance s (u y)) ps K) r2))
        where
          ans : Ans A (instance f g) n (λ y. instance s (u y)) m
          ans = by u s c i q mg b

          after : Passed a ps (λ x. instance (λ y. instance s (u y)) (f x)) m (insts (λ y. instance s (u y)) K) → Passed (suc d) (goals.call g ∷ ps) f n K
          after (inl k) = inl (past_goal (λ y. instance s (u y)) m ans k)
          after (inr (v, p, a2, b2, r3, l2)) =
              inr (
                λ x. instance v (instance s (u x)),
                p,
                a2,
                goal (λ y. instance s (u y)) v m ans b2,
                (let P : List Item → Type 0 = λ L. Reached A a2 L p h in subst P (insts_twice (λ y. instance s (u y)) v K) r3),
                omega arith,
              )
  run (suc D) (suc d) le (goals.call g ∷ ps) f n K (inr (inr (b, q, r))) =
      after (run D d (omega arith) ps (λ x. instance (value b) (f x)) (n + 0) (insts (value b) K) (let P : List Item → Type 0 = λ L. Reached A d L (n + 0) h in subst P (insts_items f (value b) ps K) r))
    where
      after : Passed d ps (λ x. instance (value b) (f x)) (n + 0) (insts (value b) K) → Passed (suc d) (goals.call g ∷ ps) f n K
      after (inl k) = inl (past_goal (value b) (n + 0) (answered b q) k)
      after (inr (v, p, a2, b2, r3, l2)) =
          inr (λ x. instance v (value b x), p, a2, goal (value b) v (n + 0) (answered b q) b2, (let P : List Item → Type 0 = λ L. Reached A a2 L p h in subst P (insts_twice (value b) v K) r3), omega arith)
  run (suc D) (suc d) le (goals.group cs gs ∷ ps) f n K (inl r) = let P : Fork → Type 0 = λ z. BodyFork A (goals.group cs gs ∷ ps) f n z in inl (subst P (sym r) first)
  run (suc D) (suc d) le (goals.group cs gs ∷ ps) f n K (inr r) = inside (run D d (omega arith) (goals.calls gs) f n (items f ps ++ K) r) (λ a q. run D a q ps)
    where
      inside : Passed d (goals.calls gs) f n (items f ps ++ K)
          → ((a : ℕ) → a ≤ D → (f2 : ℕ → Tree) (n2 : ℕ) (K2 : List Item) → Reached A a (items f2 ps ++ K2) n2 h → Passed a ps f2 n2 K2) → Passed (suc d) (goals.group cs gs ∷ ps) f n K
      inside (inl k) ih = inl (sequence k)
      inside (inr (s, m, a, b, r2, l)) ih =
          after (ih a (omega arith) (λ x. instance s (f x)) m (insts s K) (let P : List Item → Type 0 = λ L. Reached A a L m h in subst P (insts_items f s ps K) r2))
        where
          after : Passed a ps (λ x. instance s (f x)) m (insts s K) → Passed (suc d) (goals.group cs gs ∷ ps) f n K
          after (inl k) = inl (past_group s m b k)
          after (inr (v, q, a2, b2, r3, l2)) =
              inr (λ x. instance v (s x), q, a2, joined s v m b b2, (let P : List Item → Type 0 = λ L. Reached A a2 L q h in subst P (insts_twice s v K) r3), omega arith)

  none_left : (a m : ℕ) → Reached A a [] m h → ⊥
  none_left zero m k = k
  none_left (suc a) m (inl k) = k
  none_left (suc a) m (inr k) = k

  no_parts : (f : ℕ → Tree) (n : ℕ) → BodyFork A [] f n h → ⊥
  no_parts f n k = elim k [ ]

  -- a group that the search of a goal comes to, nothing standing behind the goal
  pub reached_fork : (d n : ℕ) (g : Tree) (f : ℕ → Tree) → Reached A d (one (instance f g) ∷ []) n h → BodyFork A (goals.call g ∷ []) f n h
  reached_fork d n g f r = go (run d d (omega arith) (goals.call g ∷ []) f n [] r)
    where
      go : Passed d (goals.call g ∷ []) f n [] → BodyFork A (goals.call g ∷ []) f n h
      go (inl k) = k
      go (inr (s, m, a, b, r2, l)) = absurd (none_left a m r2)

-- ---- states of the search, without the checks' instances

abbrev pub bare : Goal → Item
bare (call t) = one t
bare (fork cs ts f now) = some (record { checks = cs; goals = ts; own = f })

abbrev pub bares : List Goal → List Item
bares [] = []
bares (g ∷ gs) = bare g ∷ bares gs

bare_moved : (u : ℕ → Tree) (g : Goal) → bare (moved u g) ≡ inst u (bare g)
bare_moved u (call t) = refl
bare_moved u (fork cs ts f now) = refl

bares_moved : (u : ℕ → Tree) (gs : List Goal) → bares (map (moved u) gs) ≡ insts u (bares gs)
bares_moved u [] = refl
bares_moved u (g ∷ gs) = ap₂ (λ i K. i ∷ K) (bare_moved u g) (bares_moved u gs)

bare_placed : (f : ℕ → Tree) (p : goals.Part) → bare (placed f p) ≡ item f p
bare_placed f (goals.call t) = refl
bare_placed f (goals.group cs ts) = refl

bares_placed : (f : ℕ → Tree) (ps : List goals.Part) (rest : List Goal) → bares (map (placed f) ps ++ rest) ≡ items f ps ++ bares rest
bares_placed f [] rest = refl
bares_placed f (p ∷ ps) rest = ap₂ (λ i K. i ∷ K) (bare_placed f p) (bares_placed f ps rest)

bares_calls : (f : ℕ → Tree) (ts : Trees) (rest : List Goal) → bares (calls f ts ++ rest) ≡ items f (goals.calls ts) ++ bares rest
bares_calls f none rest = refl
bares_calls f (more t ts) rest = ap (λ K. one (instance f t) ∷ K) (bares_calls f ts rest)

-- all groups that are reached from here are good
module _ (A : Program) (Good : Fork → Type 0) where
  abbrev pub IsSafe : List Item → ℕ → Type 0
  IsSafe L n = (d : ℕ) (h : Fork) → Reached A d L n h → Good h

  of_both : {X : Type 0} (x : X) (xs ys : List X) → IsOneOf x (xs ++ ys) → IsOneOf x xs ⊎ IsOneOf x ys
  of_both x [] ys h = inr h
  of_both x (y ∷ xs) ys (inl e) = inl (inl e)
  of_both x (y ∷ xs) ys (inr h) = elim (of_both x xs ys h) [ inl k ↦ inl (inr k) | inr k ↦ inr k ]

  by_clause : (s t : Tracked) (g : Tree) (rest : List Goal) (c : Clause) → IsOneOf c A → builtin g ≡ None → IsSafe (one g ∷ bares rest) s.next
      → (o : Option Subst) → IsMostGeneral g (instance (shift s.next) c.head) o → IsOneOf t (child_if s rest o (map (placed (renamed c.vars s.next)) c.body) (c.vars + 1)) → IsSafe (bares t.goals) t.next
  by_clause s t g rest c i q safe None m k = absurd k
  by_clause s t g rest c i q safe (Some b) m (inr k) = absurd k
  by_clause s t g rest c i q safe (Some b) m (inl e) =
      let P : Tracked → Type 0 = λ x. IsSafe (bares x.goals) x.next in
      subst P (sym e)
      (subst (λ L. IsSafe L (s.next + (c.vars + 1))) (sym same) (λ d h r. safe (suc d) h (inr (inl (value b, c, i, q, m, r)))))
    where
      same : bares (map (moved (value b)) (map (placed (renamed c.vars s.next)) c.body ++ rest)) ≡ items (after_head c s.next (value b)) c.body ++ insts (value b) (bares rest)
      same =
          bares_moved (value b) (map (placed (renamed c.vars s.next)) c.body ++ rest) ∙ ap (insts (value b)) (bares_placed (renamed c.vars s.next) c.body rest)
          ∙ insts_items (renamed c.vars s.next) (value b) c.body (bares rest)

  by_clauses : (s t : Tracked) (g : Tree) (rest : List Goal) → builtin g ≡ None → IsSafe (one g ∷ bares rest) s.next
      → (cs : Program) → ((c : Clause) → IsOneOf c cs → IsOneOf c A) → IsOneOf t (flat_map (clause_children s g rest) cs) → IsSafe (bares t.goals) t.next
  by_clauses s t g rest q safe [] sub k = absurd k
  by_clauses s t g rest q safe (c ∷ cs) sub k =
      elim (of_both t (clause_children s g rest c) (flat_map (clause_children s g rest) cs) k) [
        | inl j ↦ by_clause s t g rest c (sub c (inl refl)) q safe (mgu g (instance (shift s.next) c.head)) (mgu-general g (instance (shift s.next) c.head)) j
        | inr j ↦ by_clauses s t g rest q safe cs (λ d i. sub d (inr i)) j
      ]

  by_call : (s t : Tracked) (g : Tree) (rest : List Goal) → IsSafe (one g ∷ bares rest) s.next → (o : Option (Option Subst)) → builtin g ≡ o → IsOneOf t (call_children A s g rest o) → IsSafe (bares t.goals) t.next
  by_call s t g rest safe None q k = by_clauses s t g rest q safe A (λ c i. i) k
  by_call s t g rest safe (Some None) q k = absurd k
  by_call s t g rest safe (Some (Some b)) q (inr k) = absurd k
  by_call s t g rest safe (Some (Some b)) q (inl e) =
      let P : Tracked → Type 0 = λ x. IsSafe (bares x.goals) x.next in
      subst P (sym e) (subst (λ L. IsSafe L (s.next + 0)) (sym (bares_moved (value b) rest)) (λ d h r. safe (suc d) h (inr (inr (b, q, r)))))

  -- behind a fault no goal is left
  by_fault : (e : Option Fault) (s t : Tracked) (ss : List Tracked) → (IsOneOf t ss → IsSafe (bares t.goals) t.next) → IsOneOf t (children_unless e s ss) → IsSafe (bares t.goals) t.next
  by_fault None s t ss safe k = safe k
  by_fault (Some e) s t ss safe (inr k) = absurd k
  by_fault (Some e) s t ss safe (inl q) =
      let P : Tracked → Type 0 = λ x. IsSafe (bares x.goals) x.next in
      subst P (sym q) (λ d h r. absurd (none_left A h d (s.next + 0) r))

  -- what a safe state leads to is safe
  pub child_safe : (s t : Tracked) (gs : List Goal) → IsSafe (bares gs) s.next → IsOneOf t (children_by A s (opened gs)) → IsSafe (bares t.goals) t.next
  child_safe s t [] safe k = absurd k
  child_safe s t (call g ∷ rest) safe k = by_fault (fault_of g) s t (call_children A s g rest (builtin g)) (by_call s t g rest safe (builtin g) refl) k
  child_safe s t (fork cs none f now ∷ gs) safe k = child_safe s t gs (λ d h r. safe (suc d) h (inr r)) k
  child_safe s t (fork cs (more g gs) f now ∷ rest) safe k =
      by_fault (fault_of (instance f g)) s t (call_children A s (instance f g) (calls f gs ++ rest) (builtin (instance f g)))
      (by_call s t (instance f g) (calls f gs ++ rest)
      (λ d h r. safe (suc d) h (inr (subst (λ K. Reached A d (one (instance f g) ∷ K) s.next h) (bares_calls f gs rest) r))) (builtin (instance f g)) refl) k

  pub first_good : (L : List Goal) (n : ℕ) (h : Fork) → IsSafe (bares L) n → ComesFirst h L → Good h
  first_good [] n h safe k = absurd k
  first_good (call t ∷ L) n h safe k = absurd k
  first_good (fork cs ts f now ∷ L) n h safe k = safe 0 h k
