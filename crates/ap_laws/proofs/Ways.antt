-- The ways on from related goals, and the children of related states.
use Rattle.std.proofs.Common.{◌≡◌, ℕ, ◌+◌, ◌-◌, ◌<◌, ◌≤◌, Bool, true, false, ◌&&◌, nat_eq, nat_le, nat_lt, if◌then◌else◌, List, [], ◌∷◌, ◌++◌, map, Option, Some, None, refl, ap, sym, ◌∙◌, arith}
use Rattle.std.specs.List.{flat_map, AllZip, AllByRecursion, list_all}
use Rattle.std.proofs.lemmas.Bool.{false≢true, leb-true, lt-ltb, le-ltb, and_parts}
use Rattle.std.proofs.lemmas.List.Elements.{All-head, All-tail}
use Rattle.ap_term.specs.declared.clauses.Check.{Check}
use Rattle.ap_term.specs.declared.clauses.Check.TheVariants.{Ground, Indep}
use Rattle.ap_term.specs.Tree.{Tree, Trees, var, int, atom, node, none, more}
use Rattle.ap_term.specs.Substitution.{instance, instance_all, Subst, value, shift}
use Rattle.ap_term.specs.Goals.{Part, call, group, Clause, Program, instance_check, instance_part, opened}
use Rattle.ap_term.specs.Vars.{vars, Local, LocalAll}
use Rattle.ap_term.specs.WellFormed.{in_range, numbered, numbered_all, callable, all_callable, numbered_check, well_formed_part, IsClause, IsProgram}
use Rattle.ap_term.specs.Builtins.{builtin}
use Rattle.ap_term.specs.Search.{State, Way, way_if, clause_way, ways_by, ways_unless, ways, unless, child, children_by, children}
use Rattle.ap_term.specs.Faults.{fault_of}
use Rattle.ap_term.specs.declared.faults.Fault.{Fault}
use Rattle.ap_term.proofs.Locals.{Local-weaken, LocalAll-weaken, Local-instance}
use Rattle.ap_laws.specs.Renaming.{OptionZip, OptionAll, Renamed, RenamedAll, RenamedSubst, RenamedCheck, RenamedPart, RenamedParts, Linked, RenamedWay, RenamedBy, SameState, LocalSubst, LocalCheck, LocalPart, LocalParts, LocalWay}
use Rattle.ap_term.proofs.Zips.{AllZip-append, AllZip-map, AllZip-flat_map, AllZip-both, AllZip-flat_map_both, AllByRecursion-append, AllByRecursion-weaken}
use Rattle.ap_laws.proofs.Renamed.{IsOneToOne, Renamed-weaken, RenamedAll-weaken, RenamedParts-weaken, Renamed-opened, Renamed-value, RenamedAll-instance_all, Renamed-mgu, Renamed-add_vars, RenamedParts-instance_part}
use Rattle.ap_laws.proofs.Local.{Local-mgu, LocalParts-instance_part}
use Rattle.ap_laws.proofs.Builtins.{Renamed-builtin, Renamed-fault_of, Local-builtin}
use Rattle.ap_term.proofs.Solutions.{same_var, same_test}

-- ---- the variables of a clause

at_most : (n x : ℕ) → in_range n x ≡ true → x ≤ n
at_most n x h = leb-true x n (and_parts (nat_le 1 x) (nat_le x n) h).1

mutual
  Local-numbered : (n : ℕ) (t : Tree) → numbered n t ≡ true → Local (λ x. x ≤ n) t
  Local-numbered n (var x) h = at_most n x h
  Local-numbered n (int z) h = tt
  Local-numbered n (atom a) h = tt
  Local-numbered n (node a ts) h = LocalAll-numbered_all n ts h

  LocalAll-numbered_all : (n : ℕ) (ts : Trees) → numbered_all n ts ≡ true → LocalAll (λ x. x ≤ n) ts
  LocalAll-numbered_all n none h = tt
  LocalAll-numbered_all n (more t ts) h = let r = and_parts (numbered n t) (numbered_all n ts) h in (Local-numbered n t r.0, LocalAll-numbered_all n ts r.1)

LocalChecks-numbered_check : (n : ℕ) (cs : List Check) → list_all (numbered_check n) cs ≡ true → AllByRecursion (LocalCheck (λ x. x ≤ n)) cs
LocalChecks-numbered_check n [] h = tt
LocalChecks-numbered_check n (Ground x ∷ cs) h =
    let r = and_parts (in_range n x) (list_all (numbered_check n) cs) h in (at_most n x r.0, LocalChecks-numbered_check n cs r.1)
LocalChecks-numbered_check n (Indep x y ∷ cs) h =
    let r = and_parts (in_range n x && in_range n y) (list_all (numbered_check n) cs) h in
    let q = and_parts (in_range n x) (in_range n y) r.0 in
    ((at_most n x q.0, at_most n y q.1), LocalChecks-numbered_check n cs r.1)

LocalPart-well_formed : (n : ℕ) (p : Part) → well_formed_part n p ≡ true → LocalPart (λ x. x ≤ n) p
LocalPart-well_formed n (call t) h = Local-numbered n t (and_parts (callable t) (numbered n t) h).1
LocalPart-well_formed n (group cs ts) h =
    let r = and_parts (list_all (numbered_check n) cs) _ h in
    let q = and_parts _ (all_callable ts && numbered_all n ts) r.1 in
    (LocalChecks-numbered_check n cs r.0, LocalAll-numbered_all n ts (and_parts (all_callable ts) (numbered_all n ts) q.1).1)

LocalParts-well_formed : (n : ℕ) (ps : List Part) → list_all (well_formed_part n) ps ≡ true → LocalParts (λ x. x ≤ n) ps
LocalParts-well_formed n [] h = tt
LocalParts-well_formed n (p ∷ ps) h = let r = and_parts (well_formed_part n p) (list_all (well_formed_part n) ps) h in (LocalPart-well_formed n p r.0, LocalParts-well_formed n ps r.1)

LocalCheck-weaken : (P Q : ℕ → Type 0) → ((x : ℕ) → P x → Q x) → (c : Check) → LocalCheck P c → LocalCheck Q c
LocalCheck-weaken P Q e (Ground x) h = e x h
LocalCheck-weaken P Q e (Indep x y) h = (e x h.0, e y h.1)

LocalPart-weaken : (P Q : ℕ → Type 0) → ((x : ℕ) → P x → Q x) → (p : Part) → LocalPart P p → LocalPart Q p
LocalPart-weaken P Q e (call t) h = Local-weaken P Q e t h
LocalPart-weaken P Q e (group cs ts) h = (AllByRecursion-weaken (LocalCheck P) (LocalCheck Q) (LocalCheck-weaken P Q e) cs h.0, LocalAll-weaken P Q e ts h.1)

pub LocalParts-weaken : (P Q : ℕ → Type 0) → ((x : ℕ) → P x → Q x) → (ps : List Part) → LocalParts P ps → LocalParts Q ps
LocalParts-weaken P Q e ps h = AllByRecursion-weaken (LocalPart P) (LocalPart Q) (LocalPart-weaken P Q e) ps h

pub Local-head : (c : Clause) → IsClause c → Local (λ x. x ≤ c.vars) c.head
Local-head c h = Local-numbered c.vars c.head (and_parts (callable c.head) (numbered c.vars c.head) h.head).1

pub LocalParts-body : (c : Clause) → IsClause c → LocalParts (λ x. x ≤ c.vars) c.body
LocalParts-body c h = LocalParts-well_formed c.vars c.body h.body

-- ---- links

pub IsOneToOne-Linked : (f g : ℕ → ℕ) (n m : ℕ) → IsOneToOne (Linked f g n m)
IsOneToOne-Linked f g n m x x' y y' h k = go (nat_eq x y) (nat_eq x' y') refl refl
  where
    go : (b c : Bool) → nat_eq x y ≡ b → nat_eq x' y' ≡ c → nat_eq x y ≡ nat_eq x' y'
    go true true p q = p ∙ sym q
    go false false p q = p ∙ sym q
    go true false p q = absurd (false≢true (sym q ∙ same_test x' y' (sym h.0 ∙ ap f (same_var x y p) ∙ k.0)))
    go false true p q = absurd (false≢true (sym p ∙ same_test x y (sym h.1 ∙ ap g (same_var x' y' q) ∙ k.1)))

pub Linked-more : (f g : ℕ → ℕ) (n m i j : ℕ) (x y : ℕ) → Linked f g n m x y → Linked f g (n + i) (m + j) x y
Linked-more f g n m i j x y h = (h.0, h.1, omega (arith, h.2), omega (arith, h.3))

-- the variables from n on go to those from m on, in order
abbrev pub Continues : (ℕ → ℕ) → ℕ → ℕ → Type 0
Continues f n m = (i : ℕ) → f (i + n) ≡ i + m

-- a renaming of the variables below n, continued
abbrev pub continued : (ℕ → ℕ) → ℕ → ℕ → ℕ → ℕ
continued f n m x = if nat_lt x n then f x else m + (x - n)

continued-old : (f : ℕ → ℕ) (n m x : ℕ) → x < n → continued f n m x ≡ f x
continued-old f n m x h = ap (λ b. if b then f x else m + (x - n)) (lt-ltb x n h)

pub Continues-continued : (f : ℕ → ℕ) (n m : ℕ) → Continues (continued f n m) n m
Continues-continued f n m i =
    let e : nat_lt (i + n) n ≡ false = le-ltb (i + n) n (omega arith) in
    ap (λ b. if b then f (i + n) else m + ((i + n) - n)) e ∙ omega arith

pub Linked-continued : (f g : ℕ → ℕ) (n m : ℕ) (x y : ℕ) → Linked f g n m x y → Linked (continued f n m) (continued g m n) n m x y
Linked-continued f g n m x y h = (continued-old f n m x h.2 ∙ h.0, continued-old g m n y h.3 ∙ h.1, h.2, h.3)

-- ---- two instances of one tree

mutual
  pub Renamed-both : (P : ℕ → Type 0) (R : ℕ → ℕ → Type 0) (f g : ℕ → Tree) → ((x : ℕ) → P x → Renamed R (f x) (g x)) → (t : Tree) → Local P t → Renamed R (instance f t) (instance g t)
  Renamed-both P R f g e (var x) h = e x h
  Renamed-both P R f g e (int z) h = refl
  Renamed-both P R f g e (atom a) h = refl
  Renamed-both P R f g e (node a ts) h = (refl, RenamedAll-both P R f g e ts h)

  pub RenamedAll-both : (P : ℕ → Type 0) (R : ℕ → ℕ → Type 0) (f g : ℕ → Tree) → ((x : ℕ) → P x → Renamed R (f x) (g x)) → (ts : Trees) → LocalAll P ts
      → RenamedAll R (instance_all f ts) (instance_all g ts)
  RenamedAll-both P R f g e none h = tt
  RenamedAll-both P R f g e (more t ts) h = (Renamed-both P R f g e t h.0, RenamedAll-both P R f g e ts h.1)

module _ (P : ℕ → Type 0) (R : ℕ → ℕ → Type 0) (one_one : IsOneToOne R) (f g : ℕ → Tree) (e : (x : ℕ) → P x → Renamed R (f x) (g x)) where
  AllZip-vars_both : (x : ℕ) → P x → AllZip R (vars (f x)) (vars (g x))
  AllZip-vars_both x h = Renamed-add_vars R one_one (f x) (g x) [] [] (e x h) tt

  RenamedCheck-both : (c : Check) → LocalCheck P c → AllZip (RenamedCheck R) (instance_check f c) (instance_check g c)
  RenamedCheck-both (Ground x) h = AllZip-map R (RenamedCheck R) Ground Ground (λ a b k. k) (vars (f x)) (vars (g x)) (AllZip-vars_both x h)
  RenamedCheck-both (Indep x y) h =
      AllZip-flat_map R (RenamedCheck R) (λ u. map (Indep u) (vars (f y))) (λ u. map (Indep u) (vars (g y)))
      (λ a b k. AllZip-map R (RenamedCheck R) (Indep a) (Indep b) (λ c d l. (k, l)) (vars (f y)) (vars (g y)) (AllZip-vars_both y h.1)) (vars (f x)) (vars (g x)) (AllZip-vars_both x h.0)

  RenamedPart-both : (p : Part) → LocalPart P p → RenamedPart R (instance_part f p) (instance_part g p)
  RenamedPart-both (call t) h = Renamed-both P R f g e t h
  RenamedPart-both (group cs ts) h =
      (AllZip-flat_map_both (LocalCheck P) (RenamedCheck R) (instance_check f) (instance_check g) RenamedCheck-both cs h.0, RenamedAll-both P R f g e ts h.1)

  pub RenamedParts-both : (ps : List Part) → LocalParts P ps → RenamedParts R (map (instance_part f) ps) (map (instance_part g) ps)
  RenamedParts-both ps h = AllZip-both (LocalPart P) (RenamedPart R) (instance_part f) (instance_part g) RenamedPart-both ps h

-- ---- ways

Renamed-way_if : (f g : ℕ → ℕ) (n m k : ℕ) (o p : Option Subst) (b c : List Part) → OptionZip (RenamedSubst (Linked f g (n + k) (m + k))) o p → RenamedParts (Linked f g (n + k) (m + k)) b c
    → AllZip (RenamedWay f g n m) (way_if o b k) (way_if p c k)
Renamed-way_if f g n m k None None b c h j = tt
Renamed-way_if f g n m k (Some s) (Some r) b c h j = ((refl, h, j, refl), tt)
Renamed-way_if f g n m k None (Some _) b c h j = absurd h
Renamed-way_if f g n m k (Some _) None b c h j = absurd h

module _ (f g : ℕ → ℕ) (n m : ℕ) (forth : Continues f n m) (back : Continues g m n) where
  Linked-new : (k x : ℕ) → x ≤ k → Linked f g (n + (k + 1)) (m + (k + 1)) (x + n) (x + m)
  Linked-new k x h = (forth x, back x, omega arith, omega arith)

  Renamed-clause_way : (t u : Tree) → Renamed (Linked f g n m) t u → (c : Clause) → IsClause c → AllZip (RenamedWay f g n m) (clause_way n t c) (clause_way m u c)
  Renamed-clause_way t u h c good =
      let k : ℕ = c.vars + 1 in
      let R : ℕ → ℕ → Type 0 = Linked f g (n + k) (m + k) in
      Renamed-way_if f g n m k _ _ _ _
      (Renamed-mgu R (IsOneToOne-Linked f g (n + k) (m + k)) t u (instance (shift n) c.head) (instance (shift m) c.head)
      (Renamed-weaken (Linked f g n m) R (Linked-more f g n m k k) t u h)
      (Renamed-both (λ x. x ≤ c.vars) R (shift n) (shift m) (Linked-new c.vars) c.head (Local-head c good)))
      (RenamedParts-both (λ x. x ≤ c.vars) R (IsOneToOne-Linked f g (n + k) (m + k)) (shift n) (shift m) (Linked-new c.vars) c.body (LocalParts-body c good))

  Renamed-clause_ways : (t u : Tree) → Renamed (Linked f g n m) t u → (p : Program) → IsProgram p → AllZip (RenamedWay f g n m) (flat_map (clause_way n t) p) (flat_map (clause_way m u) p)
  Renamed-clause_ways t u h [] good = tt
  Renamed-clause_ways t u h (c ∷ p) good =
      AllZip-append (RenamedWay f g n m) (clause_way n t c) (flat_map (clause_way n t) p) (clause_way m u c) (flat_map (clause_way m u) p)
      (Renamed-clause_way t u h c (All-head IsClause c p good)) (Renamed-clause_ways t u h p (All-tail IsClause c p good))

  Renamed-ways_by : (p : Program) → IsProgram p → (t u : Tree) → Renamed (Linked f g n m) t u → (a b : Option (Option Subst)) → OptionZip (OptionZip (RenamedSubst (Linked f g (n + 0) (m + 0)))) a b
      → AllZip (RenamedWay f g n m) (ways_by p n t a) (ways_by p m u b)
  Renamed-ways_by p good t u h None None k = Renamed-clause_ways t u h p good
  Renamed-ways_by p good t u h (Some a) (Some b) k = Renamed-way_if f g n m 0 a b [] [] k tt
  Renamed-ways_by p good t u h None (Some _) k = absurd k
  Renamed-ways_by p good t u h (Some _) None k = absurd k

  Renamed-ways_unless : (e i : Option Fault) → e ≡ i → (v w : List Way) → AllZip (RenamedWay f g n m) v w → AllZip (RenamedWay f g n m) (ways_unless e v) (ways_unless i w)
  Renamed-ways_unless None None q v w h = h
  Renamed-ways_unless (Some e) (Some i) q v w h = ((refl, tt, tt, q), tt)
  Renamed-ways_unless None (Some i) q v w h = cc
  Renamed-ways_unless (Some e) None q v w h = cc

  -- related goals have related ways on
  pub Renamed-ways : (p : Program) → IsProgram p → (t u : Tree) → Renamed (Linked f g n m) t u → AllZip (RenamedWay f g n m) (ways p n t) (ways p m u)
  Renamed-ways p good t u h =
      Renamed-ways_unless (fault_of t) (fault_of u) (Renamed-fault_of (Linked f g n m) t u h) (ways_by p n t (builtin t)) (ways_by p m u (builtin u))
      (Renamed-ways_by p good t u h (builtin t) (builtin u)
      (Renamed-builtin (Linked f g (n + 0) (m + 0)) (IsOneToOne-Linked f g (n + 0) (m + 0)) t u (Renamed-weaken (Linked f g n m) (Linked f g (n + 0) (m + 0)) (Linked-more f g n m 0 0) t u h)))

-- ---- what a way binds and mentions

module _ (P : ℕ → Type 0) where
  Local-way_if : (o : Option Subst) (b : List Part) (k : ℕ) → OptionAll (LocalSubst P) o → LocalParts P b → AllByRecursion (LocalWay P) (way_if o b k)
  Local-way_if None b k h j = tt
  Local-way_if (Some s) b k h j = ((h, j), tt)

  Local-clause_ways : (n : ℕ) (t : Tree) → Local P t → ((x : ℕ) → n ≤ x → P x) → (p : Program) → IsProgram p → AllByRecursion (LocalWay P) (flat_map (clause_way n t) p)
  Local-clause_ways n t h new [] good = tt
  Local-clause_ways n t h new (c ∷ p) good =
      let e : (x : ℕ) → x ≤ c.vars → P (x + n) = λ x l. new (x + n) (omega arith) in
      AllByRecursion-append (LocalWay P) (clause_way n t c) (flat_map (clause_way n t) p)
      (Local-way_if _ _ (c.vars + 1)
      (Local-mgu P t (instance (shift n) c.head) h (Local-instance (λ x. x ≤ c.vars) P (shift n) e c.head (Local-head c (All-head IsClause c p good))))
      (LocalParts-instance_part (λ x. x ≤ c.vars) P (shift n) e c.body (LocalParts-body c (All-head IsClause c p good))))
      (Local-clause_ways n t h new p (All-tail IsClause c p good))

  Local-ways_by : (p : Program) → IsProgram p → (n : ℕ) (t : Tree) → Local P t → ((x : ℕ) → n ≤ x → P x) → (a : Option (Option Subst)) → OptionAll (OptionAll (LocalSubst P)) a
      → AllByRecursion (LocalWay P) (ways_by p n t a)
  Local-ways_by p good n t h new None k = Local-clause_ways n t h new p good
  Local-ways_by p good n t h new (Some a) k = Local-way_if a [] 0 k tt

  Local-ways_unless : (e : Option Fault) (ws : List Way) → AllByRecursion (LocalWay P) ws → AllByRecursion (LocalWay P) (ways_unless e ws)
  Local-ways_unless None ws h = h
  Local-ways_unless (Some e) ws h = ((tt, tt), tt)

  -- the goal's variables and new ones
  pub Local-ways : (p : Program) → IsProgram p → (n : ℕ) (t : Tree) → Local P t → ((x : ℕ) → n ≤ x → P x) → AllByRecursion (LocalWay P) (ways p n t)
  Local-ways p good n t h new = Local-ways_unless (fault_of t) (ways_by p n t (builtin t)) (Local-ways_by p good n t h new (builtin t) (Local-builtin P t h))

-- ---- children

module _ (f g : ℕ → ℕ) (s t : State) (same : RenamedBy f g s t) where
  pub SameState-child : (ps qs : List Part) → RenamedParts (Linked f g s.next t.next) ps qs → (v w : Way) → RenamedWay f g s.next t.next v w → SameState (child s ps v) (child t qs w)
  SameState-child ps qs h v w k = (
    f,
    g,
    (
      Renamed-unless v.fault w.fault k.3 _ _ (RenamedParts-instance_part R R one_one (value v.binds) (value w.binds) values (v.body ++ ps) (w.body ++ qs)
          (AllZip-append (RenamedPart R) v.body ps w.body qs k.2 (RenamedParts-weaken (Linked f g s.next t.next) R (Linked-more f g s.next t.next v.takes w.takes) ps qs h))),
      RenamedAll-instance_all R R (value v.binds) (value w.binds) values s.tuple t.tuple
          (RenamedAll-weaken (Linked f g s.next t.next) R (Linked-more f g s.next t.next v.takes w.takes) s.tuple t.tuple same.1),
      ap (λ n. n + 1) same.2,
      k.3,
    ),
  )
    where
      R : ℕ → ℕ → Type 0
      R = Linked f g (s.next + v.takes) (t.next + w.takes)

      Renamed-unless : (e i : Option Fault) → e ≡ i → (ps qs : List Part) → RenamedParts R ps qs → RenamedParts R (unless e ps) (unless i qs)
      Renamed-unless None None q ps qs h = h
      Renamed-unless (Some e) (Some i) q ps qs h = tt
      Renamed-unless None (Some i) q ps qs h = cc
      Renamed-unless (Some e) None q ps qs h = cc

      one_one : IsOneToOne R
      one_one = IsOneToOne-Linked f g (s.next + v.takes) (t.next + w.takes)

      values : (x y : ℕ) → R x y → Renamed R (value v.binds x) (value w.binds y)
      values = Renamed-value R one_one v.binds w.binds k.1

  SameState-map-child : (ps qs : List Part) → RenamedParts (Linked f g s.next t.next) ps qs → (vs ws : List Way) → AllZip (RenamedWay f g s.next t.next) vs ws
      → AllZip SameState (map (child s ps) vs) (map (child t qs) ws)
  SameState-map-child ps qs h vs ws k = AllZip-map (RenamedWay f g s.next t.next) SameState (child s ps) (child t qs) (SameState-child ps qs h) vs ws k

  pub SameState-children_by : (p : Program) → IsProgram p → Continues f s.next t.next → Continues g t.next s.next → (ps qs : List Part) → RenamedParts (Linked f g s.next t.next) ps qs
      → AllZip SameState (children_by p s ps) (children_by p t qs)
  SameState-children_by p good forth back [] [] h = tt
  SameState-children_by p good forth back (call a ∷ ps) (call b ∷ qs) h =
      SameState-map-child ps qs h.1 (ways p s.next a) (ways p t.next b) (Renamed-ways f g s.next t.next forth back p good a b h.0)
  SameState-children_by p good forth back (group cs ts ∷ ps) (group ds us ∷ qs) h = tt
  SameState-children_by p good forth back (call _ ∷ _) (group _ _ ∷ _) h = absurd h.0
  SameState-children_by p good forth back (group _ _ ∷ _) (call _ ∷ _) h = absurd h.0
  SameState-children_by p good forth back [] (_ ∷ _) h = absurd h
  SameState-children_by p good forth back (_ ∷ _) [] h = absurd h

RenamedBy-continued : (f g : ℕ → ℕ) (s t : State) → RenamedBy f g s t → RenamedBy (continued f s.next t.next) (continued g t.next s.next) s t
RenamedBy-continued f g s t h =
    let e : (x y : ℕ) → Linked f g s.next t.next x y → Linked (continued f s.next t.next) (continued g t.next s.next) s.next t.next x y = Linked-continued f g s.next t.next in
    (RenamedParts-weaken _ _ e s.goals t.goals h.0, RenamedAll-weaken _ _ e s.tuple t.tuple h.1, h.2, h.3)

-- states that are equal up to names have children that are
pub SameState-children : (p : Program) → IsProgram p → (s t : State) → SameState s t → AllZip SameState (children p s) (children p t)
SameState-children p good s t h =
    let f : ℕ → ℕ = continued h.0 s.next t.next in
    let g : ℕ → ℕ = continued h.1 t.next s.next in
    let k : RenamedBy f g s t = RenamedBy-continued h.0 h.1 s t h.2 in
    SameState-children_by f g s t k p good (Continues-continued h.0 s.next t.next) (Continues-continued h.1 t.next s.next) (opened s.goals) (opened t.goals)
    (Renamed-opened (Linked f g s.next t.next) s.goals t.goals k.0)
