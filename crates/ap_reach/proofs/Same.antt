-- Programs that have the same ways on from each goal that comes up.
use Rattle.std.proofs.Common.{◌≡◌, ℕ, zero, suc, ◌+◌, ◌-◌, ◌==◌, Bool, true, false, not, ◌&&◌, ◌||◌, if◌then◌else◌, List, [], ◌∷◌, ◌++◌, map, option_map, Option, Some, None, refl, ap, ap₂, sym, ◌∙◌, subst, IsTrue}
use Rattle.std.specs.List.{AllByRecursion, IsDistinct, flat_map, list_any}
use Rattle.std.proofs.lemmas.Bool.{false≢true, and_parts}
use Rattle.std.proofs.lemmas.Bool.Decides.{Decides-eqb, Decides-int_eq}
use Rattle.std.specs.Ordering.{int_eq}
use Rattle.std.proofs.lemmas.Grind.{flat_map-append}
use Rattle.std.proofs.lemmas.Map.Keys.{IsDistinct-head, IsDistinct-tail}
use Rattle.std.proofs.lemmas.List.Elements.{recursion_from_All}
use Rattle.ap_term.specs.Tree.{Tree, Trees, var, int, atom, node, none, more, append_trees, count_trees}
use Rattle.ap_term.specs.Substitution.{instance, instance_all, Subst, value, shift}
use Rattle.ap_term.specs.Unification.{mgu}
use Rattle.ap_term.specs.Unifier.{IsMostGeneral}
use Rattle.ap_term.specs.Goals.{Part, call, group, Clause, Program, Query, joined, opened, instance_part, plain_goals}
use Rattle.ap_term.specs.WellFormed.{IsClause, IsProgram, callable, numbered}
use Rattle.ap_term.specs.declared.faults.Fault.{Fault}
use Rattle.ap_term.specs.Faults.{fault_of}
use Rattle.ap_term.specs.Builtins.{builtin}
use Rattle.ap_term.specs.Search.{State, Way, Met, search, start, done, open_states, by_goals, turn, with_outcomes, meets, unless, children, children_by, child, ways, ways_by, ways_unless, clause_way, way_if, outcome_of, outcomes_below, answers_to_depth, cut, found_by}
use Rattle.ap_term.proofs.Solvable.{mgu-general}
use Rattle.ap_term.proofs.TreeLists.{count_trees-instance_all}
use Rattle.ap_term.proofs.GoalLists.{plain_goals-append, plain_goals-instance, plain_goals-opened}
use Rattle.ap_term.proofs.Lists.{same_key}
use Rattle.ap_reach.specs.declared.called.Called.{Called}
use Rattle.ap_reach.specs.declared.called.Called.TheVariants.{All as Whole, Atom, Integer}
use Rattle.ap_reach.specs.Reached.{Key, is_key, is_called, has_call, key_of, place_of, is_beside, ArePlaced, heads, argument, argument_of, is_variable, fits, fits_in, heads_open, is_open, leads, is_closed, answers as answers_by, clauses_for, contribution, gathered, IsAmong, AreAmong, BodyIsAmong, CallsAmong, IsReached}
use Rattle.ap_reach.specs.Laws.{AreSameFor, IsStateAmong}
pub use Rattle.ap_reach.specs.Hashed.{same_call}

-- ---- calls

pub both : (a b : Bool) → a ≡ true → b ≡ true → (a && b) ≡ true
both a b e f = ap (λ c. c && b) e ∙ f

pub own_call : (k : Called) → is_called k k ≡ true
own_call (Whole f n) = both (f == f) (n == n) ((Decides-eqb f f).1 refl) ((Decides-eqb n n).1 refl)
own_call (Atom f n i a) =
    both (f == f) ((n == n) && ((i == i) && (a == a))) ((Decides-eqb f f).1 refl)
    (both (n == n) ((i == i) && (a == a)) ((Decides-eqb n n).1 refl) (both (i == i) (a == a) ((Decides-eqb i i).1 refl) ((Decides-eqb a a).1 refl)))
own_call (Integer f n i a) =
    both (f == f) ((n == n) && ((i == i) && int_eq a a)) ((Decides-eqb f f).1 refl)
    (both (n == n) ((i == i) && int_eq a a) ((Decides-eqb n n).1 refl) (both (i == i) (int_eq a a) ((Decides-eqb i i).1 refl) ((Decides-int_eq a a).1 refl)))

other_call : (k l : Called) → is_called k l ≡ false → is_called l k ≡ false
other_call k l e = go (is_called l k) refl
  where
    go : (b : Bool) → is_called l k ≡ b → is_called l k ≡ false
    go false f = f
    go true f = absurd (false≢true (sym e ∙ ap (λ m. is_called m l) (sym (same_call l k f)) ∙ own_call l))

-- ---- goals that are among those that are called

argument-instance : (f : ℕ → Tree) (ts : Trees) (i : ℕ) → argument (instance_all f ts) i ≡ option_map (instance f) (argument ts i)
argument-instance f none i = refl
argument-instance f (more t ts) zero = refl
argument-instance f (more t ts) (suc i) = argument-instance f ts i

fits-instance : (k : Called) (f : ℕ → Tree) (o : Option Tree) → fits k o ≡ true → fits k (option_map (instance f) o) ≡ true
fits-instance (Whole g n) f o h = refl
fits-instance (Atom g n i a) f None h = h
fits-instance (Atom g n i a) f (Some (var x)) h = absurd (false≢true h)
fits-instance (Atom g n i a) f (Some (int z)) h = h
fits-instance (Atom g n i a) f (Some (atom b)) h = h
fits-instance (Atom g n i a) f (Some (node b ts)) h = absurd (false≢true h)
fits-instance (Integer g n i a) f None h = h
fits-instance (Integer g n i a) f (Some (var x)) h = absurd (false≢true h)
fits-instance (Integer g n i a) f (Some (int z)) h = h
fits-instance (Integer g n i a) f (Some (atom b)) h = h
fits-instance (Integer g n i a) f (Some (node b ts)) h = absurd (false≢true h)

fits_in-instance : (k : Called) (f : ℕ → Tree) (b : ℕ) (ts : Trees) → fits_in k (node b ts) ≡ true → fits_in k (node b (instance_all f ts)) ≡ true
fits_in-instance (Whole g n) f b ts h = refl
fits_in-instance (Atom g n i a) f b ts h = ap (fits (Atom g n i a)) (argument-instance f ts i) ∙ fits-instance (Atom g n i a) f (argument ts i) h
fits_in-instance (Integer g n i a) f b ts h = ap (fits (Integer g n i a)) (argument-instance f ts i) ∙ fits-instance (Integer g n i a) f (argument ts i) h

leads-instance : (k : Called) (f : ℕ → Tree) (t : Tree) → leads k t ≡ true → leads k (instance f t) ≡ true
leads-instance k f (var x) h = absurd (false≢true (and_parts (fits_in k (var x)) false h).1)
leads-instance k f (int z) h = h
leads-instance k f (atom b) h = h
leads-instance k f (node b ts) h =
    let r = and_parts (fits_in k (node b ts)) (heads (key_of k) (node b ts)) h in
    both (fits_in k (node b (instance_all f ts))) (heads (key_of k) (node b (instance_all f ts))) (fits_in-instance k f b ts r.0) (ap (λ n. is_key (b, n) (key_of k)) (count_trees-instance_all f ts) ∙ r.1)

any-weaker : (p q : Called → Bool) → ((k : Called) → p k ≡ true → q k ≡ true) → (ks : List Called) → list_any p ks ≡ true → list_any q ks ≡ true
any-weaker p q f [] h = h
any-weaker p q f (k ∷ ks) h = go (p k) refl h (any-weaker p q f ks)
  where
    right : (a b : Bool) → b ≡ true → (a || b) ≡ true
    right true b e = refl
    right false b e = e

    go : (b : Bool) → p k ≡ b → (b || list_any p ks) ≡ true → (list_any p ks ≡ true → list_any q ks ≡ true) → (q k || list_any q ks) ≡ true
    go true e i ih = ap (λ b. b || list_any q ks) (f k e)
    go false e i ih = right (q k) (list_any q ks) (ih i)

instance-among : (w : Program) (ks : List Called) (f : ℕ → Tree) (t : Tree) → IsAmong w ks t → IsAmong w ks (instance f t)
instance-among w ks f t h =
    any-weaker (λ k. answers_by w k t) (λ k. answers_by w k (instance f t))
    (λ k a. let r = and_parts (is_closed w k) (leads k t) a in both (is_closed w k) (leads k (instance f t)) r.0 (leads-instance k f t r.1)) ks h

instances-among : (w : Program) (ks : List Called) (f : ℕ → Tree) (ts : Trees) → AreAmong w ks ts → AreAmong w ks (instance_all f ts)
instances-among w ks f none h = tt
instances-among w ks f (more t ts) h = (instance-among w ks f t h.0, instances-among w ks f ts h.1)

append-among : (w : Program) (ks : List Called) (ts us : Trees) → AreAmong w ks ts → AreAmong w ks us → AreAmong w ks (append_trees ts us)
append-among w ks none us h j = j
append-among w ks (more t ts) us h j = (h.0, append-among w ks ts us h.1 j)

-- ---- children

module _ (whole : Program) (ks : List Called) where
  abbrev WaysAmong : List Way → Type 0
  WaysAmong ws = AllByRecursion (λ (w : Way). AreAmong whole ks (plain_goals w.body)) ws

  ways-of : (o : Option Subst) (body : List Part) (n : ℕ) → AreAmong whole ks (plain_goals body) → WaysAmong (way_if o body n)
  ways-of None body n h = tt
  ways-of (Some s) body n h = (h, tt)

  append-all : (vs ws : List Way) → WaysAmong vs → WaysAmong ws → WaysAmong (vs ++ ws)
  append-all [] ws h j = j
  append-all (v ∷ vs) ws h j = (h.0, append-all vs ws h.1 j)

  clause-ways : (n : ℕ) (g : Tree) (p : Program) → AllByRecursion (BodyIsAmong whole ks) p → WaysAmong (flat_map (clause_way n g) p)
  clause-ways n g [] h = tt
  clause-ways n g (c ∷ p) h =
      append-all (clause_way n g c) (flat_map (clause_way n g) p)
      (ways-of (mgu g (instance (shift n) c.head)) (map (instance_part (shift n)) c.body) (c.vars + 1)
      (subst (AreAmong whole ks) (sym (plain_goals-instance (shift n) c.body)) (instances-among whole ks (shift n) (plain_goals c.body) h.0)))
      (clause-ways n g p h.1)

  ways-by : (p : Program) (n : ℕ) (g : Tree) (o : Option (Option Subst)) → AllByRecursion (BodyIsAmong whole ks) p → WaysAmong (ways_by p n g o)
  ways-by p n g None h = clause-ways n g p h
  ways-by p n g (Some o) h = ways-of o [] 0 tt

  all-ways : (p : Program) (n : ℕ) (g : Tree) (f : Option Fault) → AllByRecursion (BodyIsAmong whole ks) p → WaysAmong (ways_unless f (ways_by p n g (builtin g)))
  all-ways p n g None h = ways-by p n g (builtin g) h
  all-ways p n g (Some e) h = (tt, tt)

  goals-of : (f : Option Fault) (ps : List Part) → AreAmong whole ks (plain_goals ps) → AreAmong whole ks (plain_goals (unless f ps))
  goals-of None ps h = h
  goals-of (Some e) ps h = tt

  children-of : (s : State) (rest : List Part) (ws : List Way) → AreAmong whole ks (plain_goals rest) → WaysAmong ws → AllByRecursion (IsStateAmong whole ks) (map (child s rest) ws)
  children-of s rest [] h j = tt
  children-of s rest (w ∷ ws) h j = (
    goals-of w.fault (map (instance_part (value w.binds)) (w.body ++ rest))
        (subst (AreAmong whole ks) (sym (plain_goals-instance (value w.binds) (w.body ++ rest)))
        (instances-among whole ks (value w.binds) (plain_goals (w.body ++ rest)) (subst (AreAmong whole ks) (sym (plain_goals-append w.body rest)) (append-among whole ks (plain_goals w.body) (plain_goals rest) j.0 h)))),
    children-of s rest ws h j.1,
  )

  children-among : (p : Program) (s : State) → AllByRecursion (BodyIsAmong whole ks) p → IsStateAmong whole ks s → AllByRecursion (IsStateAmong whole ks) (children p s)
  children-among p s all h = go (opened s.goals) (subst (AreAmong whole ks) (sym (plain_goals-opened s.goals)) h)
    where
      go : (ps : List Part) → AreAmong whole ks (plain_goals ps) → AllByRecursion (IsStateAmong whole ks) (children_by p s ps)
      go [] j = tt
      go (call g ∷ rest) j = children-of s rest (ways p s.next g) j.1 (all-ways p s.next g (fault_of g) all)
      go (group cs ts ∷ rest) j = tt

  append-states : (ss ts : List State) → AllByRecursion (IsStateAmong whole ks) ss → AllByRecursion (IsStateAmong whole ks) ts → AllByRecursion (IsStateAmong whole ks) (ss ++ ts)
  append-states [] ts h j = j
  append-states (s ∷ ss) ts h j = (h.0, append-states ss ts h.1 j)

  open-among : (ss : List State) → AllByRecursion (IsStateAmong whole ks) ss → AllByRecursion (IsStateAmong whole ks) (open_states ss)
  open-among [] h = tt
  open-among (s ∷ ss) h = go s.goals (open-among ss h.1)
    where
      go : (gs : List Part) → AllByRecursion (IsStateAmong whole ks) (open_states ss) → AllByRecursion (IsStateAmong whole ks) (by_goals gs (open_states ss) (s ∷ ss))
      go [] j = j
      go (g ∷ gs) j = h

  -- ---- two programs

  module _ (p r : Program) (all : AllByRecursion (BodyIsAmong whole ks) r) (same : AreSameFor whole ks p r) where
    same-ways : (n : ℕ) (g : Tree) (o : Option (Option Subst)) → IsAmong whole ks g → ways_by r n g o ≡ ways_by p n g o
    same-ways n g None h = same n g h
    same-ways n g (Some o) h = refl

    same-children : (s : State) → IsStateAmong whole ks s → children r s ≡ children p s
    same-children s h = go (opened s.goals) (subst (AreAmong whole ks) (sym (plain_goals-opened s.goals)) h)
      where
        go : (ps : List Part) → AreAmong whole ks (plain_goals ps) → children_by r s ps ≡ children_by p s ps
        go [] j = refl
        go (call g ∷ rest) j = ap (λ ws. map (child s rest) (ways_unless (fault_of g) ws)) (same-ways s.next g (builtin g) j.0)
        go (group cs ts ∷ rest) j = refl

    same-meets : (n : ℕ) (ss : List State) → AllByRecursion (IsStateAmong whole ks) ss → meets r n ss ≡ meets p n ss
    same-meets zero ss h = refl
    same-meets (suc n) ss h = go (open_states ss) (open-among ss h) (same-meets n)
      where
        go : (os : List State) → AllByRecursion (IsStateAmong whole ks) os → ((ts : List State) → AllByRecursion (IsStateAmong whole ks) ts → meets r n ts ≡ meets p n ts)
            → with_outcomes (done ss) (turn (λ t ts. meets r n (children r t ++ ts)) os) ≡ with_outcomes (done ss) (turn (λ t ts. meets p n (children p t ++ ts)) os)
        go [] j ih = refl
        go (t ∷ ts) j ih =
            ap (with_outcomes (done ss))
            (ih (children r t ++ ts) (append-states (children r t) ts (children-among r t all j.0) j.1)
            ∙ ap (λ us. meets p n (us ++ ts)) (same-children t j.0))

    each-below : (n : ℕ) → ((s : State) → IsStateAmong whole ks s → outcomes_below r n s ≡ outcomes_below p n s)
        → (ss : List State) → AllByRecursion (IsStateAmong whole ks) ss → flat_map (outcomes_below r n) ss ≡ flat_map (outcomes_below p n) ss
    each-below n ih [] h = refl
    each-below n ih (s ∷ ss) h = ap₂ (λ u v. u ++ v) (ih s h.0) (each-below n ih ss h.1)

    same-below : (n : ℕ) (s : State) → IsStateAmong whole ks s → outcomes_below r n s ≡ outcomes_below p n s
    same-below zero s h = refl
    same-below (suc n) s h =
        ap (by_goals s.goals (outcome_of s ∷ [])) (each-below n (same-below n) (children r s) (children-among r s all h) ∙ ap (flat_map (outcomes_below p n)) (same-children s h))

found : (a b : Met) → a ≡ b → found_by (cut a.outcomes) a.ended ≡ found_by (cut b.outcomes) b.ended
found a b e = ap (λ (m : Met). found_by (cut m.outcomes) m.ended) e

pub same-search : (whole : Program) (ks : List Called) (p r : Program) → CallsAmong whole ks r → AreSameFor whole ks p r → (n : ℕ) (ss : List State) → AllByRecursion (IsStateAmong whole ks) ss → search r n ss ≡ search p n ss
same-search whole ks p r all same n ss h = found (meets r n ss) (meets p n ss) (same-meets whole ks p r (recursion_from_All (BodyIsAmong whole ks) r all) same n ss h)

-- ---- a program's clauses for what is called

-- whether it can be the name of a predicate
abbrev is_named : Tree → Bool
is_named (var x) = false
is_named (int z) = false
is_named (atom a) = true
is_named (node a ts) = true

callable-named : (t : Tree) → IsTrue (callable t) → is_named t ≡ true
callable-named (var x) h = absurd (false≢true h)
callable-named (int z) h = absurd (false≢true h)
callable-named (atom a) h = refl
callable-named (node a ts) h = refl

-- a goal that unifies with a head is of the same predicate
same-heads : (k : Key) (f u : ℕ → Tree) (g h : Tree) → is_named g ≡ true → is_named h ≡ true → instance u g ≡ instance u (instance f h) → heads k g ≡ heads k h
same-heads k f u (var x) h o n e = absurd (false≢true o)
same-heads k f u (int z) h o n e = absurd (false≢true o)
same-heads k f u (atom a) (var x) o n e = absurd (false≢true n)
same-heads k f u (atom a) (int z) o n e = absurd (false≢true n)
same-heads k f u (atom a) (atom b) o n e = let d : a ≡ b = cc in ap (λ c. is_key (c, 0) k) d
same-heads k f u (atom a) (node b ts) o n e = cc
same-heads k f u (node a us) (var x) o n e = absurd (false≢true n)
same-heads k f u (node a us) (int z) o n e = absurd (false≢true n)
same-heads k f u (node a us) (atom b) o n e = cc
same-heads k f u (node a us) (node b ts) o n e =
    let d : a ≡ b = cc in
    let args : instance_all u us ≡ instance_all u (instance_all f ts) = cc in
    let count : count_trees us ≡ count_trees ts =
    sym (count_trees-instance_all u us) ∙ ap count_trees args ∙ count_trees-instance_all u (instance_all f ts) ∙ count_trees-instance_all f ts
    in
    ap₂ (λ c m. is_key (c, m) k) d count

-- the predicate of a goal, where it has one
heads-key : (l : Key) (g : Tree) (k : Key) → heads k g ≡ true → heads l g ≡ is_key k l
heads-key l (var x) k e = cc
heads-key l (int z) k e = cc
heads-key l (atom a) k e = ap (λ m. is_key m l) (same_key (a, 0) k e)
heads-key l (node a ts) k e = ap (λ m. is_key m l) (same_key (a, count_trees ts) k e)

one-key : (k l : Key) (g : Tree) → heads k g ≡ true → heads l g ≡ true → k ≡ l
one-key k l g e f = same_key k l (sym (heads-key l g k e) ∙ f)

-- what is called for a constant is of its predicate
leads-heads : (k : Called) (h : Tree) → leads k h ≡ true → heads (key_of k) h ≡ true
leads-heads k h e = (and_parts (fits_in k h) (heads (key_of k) h) e).1

-- ---- a goal's clauses

abbrev Unify : Tree → Tree → Type 0
Unify g h = (f u : ℕ → Tree) → instance u g ≡ instance u (instance f h) → ⊥

named-instance : (f : ℕ → Tree) (t : Tree) → is_named t ≡ true → is_named (instance f t) ≡ true
named-instance f (var x) h = absurd (false≢true h)
named-instance f (int z) h = h
named-instance f (atom a) h = h
named-instance f (node a ts) h = h

argument_of-instance : (f : ℕ → Tree) (t : Tree) (i : ℕ) → is_named t ≡ true → argument_of (instance f t) i ≡ option_map (instance f) (argument_of t i)
argument_of-instance f (var x) i h = absurd (false≢true h)
argument_of-instance f (int z) i h = refl
argument_of-instance f (atom a) i h = refl
argument_of-instance f (node a ts) i h = argument-instance f ts i

-- an argument that isn't a variable, beside that of a goal that unifies with its head
fits-both : (k : Called) (u w : ℕ → Tree) (x y : Option Tree) → option_map (instance u) x ≡ option_map (instance u) (option_map (instance w) y) → fits k x ≡ true → is_variable y ≡ false → fits k y ≡ true
fits-both (Whole f n) u w x y e h v = refl
fits-both (Atom f n i a) u w (Some (atom b)) (Some (atom c)) e h v = let d : b ≡ c = cc in ap (λ z. z == a) (sym d) ∙ h
fits-both (Atom f n i a) u w (Some (atom b)) (Some (var c)) e h v = absurd (false≢true (sym v))
fits-both (Atom f n i a) u w (Some (atom b)) (Some (int c)) e h v = cc
fits-both (Atom f n i a) u w (Some (atom b)) (Some (node c ts)) e h v = cc
fits-both (Atom f n i a) u w (Some (atom b)) None e h v = cc
fits-both (Atom f n i a) u w (Some (var b)) y e h v = absurd (false≢true h)
fits-both (Atom f n i a) u w (Some (int b)) y e h v = absurd (false≢true h)
fits-both (Atom f n i a) u w (Some (node b ts)) y e h v = absurd (false≢true h)
fits-both (Atom f n i a) u w None y e h v = absurd (false≢true h)
fits-both (Integer f n i a) u w (Some (int b)) (Some (int c)) e h v = let d : b ≡ c = cc in ap (λ z. int_eq z a) (sym d) ∙ h
fits-both (Integer f n i a) u w (Some (int b)) (Some (var c)) e h v = absurd (false≢true (sym v))
fits-both (Integer f n i a) u w (Some (int b)) (Some (atom c)) e h v = cc
fits-both (Integer f n i a) u w (Some (int b)) (Some (node c ts)) e h v = cc
fits-both (Integer f n i a) u w (Some (int b)) None e h v = cc
fits-both (Integer f n i a) u w (Some (var b)) y e h v = absurd (false≢true h)
fits-both (Integer f n i a) u w (Some (atom b)) y e h v = absurd (false≢true h)
fits-both (Integer f n i a) u w (Some (node b ts)) y e h v = absurd (false≢true h)
fits-both (Integer f n i a) u w None y e h v = absurd (false≢true h)

-- a constant
fits-constant : (k : Called) (i : ℕ) (o : Option Tree) → place_of k ≡ Some i → fits k o ≡ true → is_variable o ≡ false
fits-constant (Whole f n) i o p h = cc
fits-constant (Atom f n j a) i None p h = refl
fits-constant (Atom f n j a) i (Some (var x)) p h = absurd (false≢true h)
fits-constant (Atom f n j a) i (Some (int z)) p h = refl
fits-constant (Atom f n j a) i (Some (atom b)) p h = refl
fits-constant (Atom f n j a) i (Some (node b ts)) p h = refl
fits-constant (Integer f n j a) i None p h = refl
fits-constant (Integer f n j a) i (Some (var x)) p h = absurd (false≢true h)
fits-constant (Integer f n j a) i (Some (int z)) p h = refl
fits-constant (Integer f n j a) i (Some (atom b)) p h = refl
fits-constant (Integer f n j a) i (Some (node b ts)) p h = refl

-- an argument is one constant
one-constant : (k l : Called) (i j : ℕ) (o : Option Tree) → key_of k ≡ key_of l → place_of k ≡ Some i → place_of l ≡ Some j → i ≡ j → fits k o ≡ true → fits l o ≡ true → is_called l k ≡ true
one-constant (Whole f n) l i j o e p q s h m = cc
one-constant (Atom f n x a) (Whole g y) i j o e p q s h m = cc
one-constant (Integer f n x a) (Whole g y) i j o e p q s h m = cc
one-constant (Atom f n x a) (Atom g y z b) i j (Some (atom c)) e p q s h m =
    let ca : c ≡ a = (Decides-eqb c a).0 h in
    let cb : c ≡ b = (Decides-eqb c b).0 m in
    let fg : f ≡ g = ap (λ (v : Key). v.0) e in
    let ny : n ≡ y = ap (λ (v : Key). v.1) e in
    let xi : x ≡ i = cc in
    let zj : z ≡ j = cc in
    ap₂ (λ v w. is_called (Atom g y z b) (Atom v w x a)) fg ny ∙ ap₂ (λ v w. is_called (Atom g y z b) (Atom g y v w)) (xi ∙ s ∙ sym zj) (sym ca ∙ cb) ∙ own_call (Atom g y z b)
one-constant (Integer f n x a) (Integer g y z b) i j (Some (int c)) e p q s h m =
    let ca : c ≡ a = (Decides-int_eq c a).0 h in
    let cb : c ≡ b = (Decides-int_eq c b).0 m in
    let fg : f ≡ g = ap (λ (v : Key). v.0) e in
    let ny : n ≡ y = ap (λ (v : Key). v.1) e in
    let xi : x ≡ i = cc in
    let zj : z ≡ j = cc in
    ap₂ (λ v w. is_called (Integer g y z b) (Integer v w x a)) fg ny ∙ ap₂ (λ v w. is_called (Integer g y z b) (Integer g y v w)) (xi ∙ s ∙ sym zj) (sym ca ∙ cb) ∙ own_call (Integer g y z b)
one-constant (Atom f n x a) (Integer g y z b) i j (Some (atom c)) e p q s h m = absurd (false≢true m)
one-constant (Integer f n x a) (Atom g y z b) i j (Some (int c)) e p q s h m = absurd (false≢true m)
one-constant (Atom f n x a) (Atom g y z b) i j None e p q s h m = absurd (false≢true h)
one-constant (Atom f n x a) (Atom g y z b) i j (Some (var c)) e p q s h m = absurd (false≢true h)
one-constant (Atom f n x a) (Atom g y z b) i j (Some (int c)) e p q s h m = absurd (false≢true h)
one-constant (Atom f n x a) (Atom g y z b) i j (Some (node c ts)) e p q s h m = absurd (false≢true h)
one-constant (Atom f n x a) (Integer g y z b) i j None e p q s h m = absurd (false≢true h)
one-constant (Atom f n x a) (Integer g y z b) i j (Some (var c)) e p q s h m = absurd (false≢true h)
one-constant (Atom f n x a) (Integer g y z b) i j (Some (int c)) e p q s h m = absurd (false≢true h)
one-constant (Atom f n x a) (Integer g y z b) i j (Some (node c ts)) e p q s h m = absurd (false≢true h)
one-constant (Integer f n x a) (Integer g y z b) i j None e p q s h m = absurd (false≢true h)
one-constant (Integer f n x a) (Integer g y z b) i j (Some (var c)) e p q s h m = absurd (false≢true h)
one-constant (Integer f n x a) (Integer g y z b) i j (Some (atom c)) e p q s h m = absurd (false≢true h)
one-constant (Integer f n x a) (Integer g y z b) i j (Some (node c ts)) e p q s h m = absurd (false≢true h)
one-constant (Integer f n x a) (Atom g y z b) i j None e p q s h m = absurd (false≢true h)
one-constant (Integer f n x a) (Atom g y z b) i j (Some (var c)) e p q s h m = absurd (false≢true h)
one-constant (Integer f n x a) (Atom g y z b) i j (Some (atom c)) e p q s h m = absurd (false≢true h)
one-constant (Integer f n x a) (Atom g y z b) i j (Some (node c ts)) e p q s h m = absurd (false≢true h)

-- a head's argument is what it is called for
fits-place : (k : Called) (i : ℕ) (t : Tree) → place_of k ≡ Some i → fits_in k t ≡ fits k (argument_of t i)
fits-place (Whole f n) i t e = refl
fits-place (Atom f n j a) i t e = let d : j ≡ i = cc in ap (λ m. fits (Atom f n j a) (argument_of t m)) d
fits-place (Integer f n j a) i t e = let d : j ≡ i = cc in ap (λ m. fits (Integer f n j a) (argument_of t m)) d

-- the argument of a head that unifies with a goal
fits-head : (k : Called) (i : ℕ) (g h : Tree) (w u : ℕ → Tree) → place_of k ≡ Some i → is_named g ≡ true → is_named h ≡ true → instance u g ≡ instance u (instance w h)
    → fits k (argument_of g i) ≡ true → is_variable (argument_of h i) ≡ false → fits k (argument_of h i) ≡ true
fits-head k i g h w u p o m j e v =
    fits-both k u w (argument_of g i) (argument_of h i)
    (sym (argument_of-instance u g i o) ∙ ap (λ t. argument_of t i) j ∙ argument_of-instance u (instance w h) i (named-instance w h m) ∙ ap (option_map (instance u)) (argument_of-instance w h i m)) e v

-- which of those that are called has a goal's clauses: all of them, and no other one has any of them
record Chosen (p : Program) (ks : List Called) (g : Tree) : Type 0 where
  call : Called
  there : has_call ks call ≡ true
  alone : is_beside ks call ≡ false
  own : AllByRecursion (λ (c : Clause). leads call c.head ≡ false → Unify g c.head) p
  others : (l : Called) → has_call ks l ≡ true → is_called l call ≡ false → is_beside ks l ≡ false → (h : Tree) → is_named h ≡ true → leads l h ≡ true → Unify g h

abbrev Named : Program → Type 0
Named p = AllByRecursion (λ (c : Clause). is_named c.head ≡ true) p

-- a head that unifies with a goal and is led to is of the goal's predicate
same-predicate : (k : Key) (l : Called) (g h : Tree) (f u : ℕ → Tree) → is_named g ≡ true → heads k g ≡ true → is_named h ≡ true → leads l h ≡ true → instance u g ≡ instance u (instance f h) → k ≡ key_of l
same-predicate k l g h f u o e n d i = one-key k (key_of l) g e (same-heads (key_of l) f u g h o n i ∙ leads-heads l h d)

none-left : (a b : Bool) → (a || b) ≡ false → (a ≡ false) × (b ≡ false)
none-left true b e = absurd (false≢true (sym e))
none-left false b e = (refl, e)

not-both : (a b : Bool) → b ≡ true → (a && b) ≡ false → a ≡ false
not-both true b e f = absurd (false≢true (sym f ∙ e))
not-both false b e f = refl

-- ---- all of a predicate

own-whole : (k : Key) (g : Tree) → is_named g ≡ true → heads k g ≡ true → (p : Program) → Named p → AllByRecursion (λ (c : Clause). leads (Whole k.0 k.1) c.head ≡ false → Unify g c.head) p
own-whole k g o e [] good = tt
own-whole k g o e (c ∷ p) good = (λ d w u j. false≢true (sym d ∙ sym (same-heads k w u g c.head o good.0 j) ∙ e), own-whole k g o e p good.1)

others-whole : (ks : List Called) (k : Key) (g : Tree) → is_named g ≡ true → heads k g ≡ true → has_call ks (Whole k.0 k.1) ≡ true
    → (l : Called) → has_call ks l ≡ true → is_called l (Whole k.0 k.1) ≡ false → is_beside ks l ≡ false → (h : Tree) → is_named h ≡ true → leads l h ≡ true → Unify g h
others-whole ks k g o e t (Whole f n) i s b h nh d w u j =
    let m = same-predicate k (Whole f n) g h w u o e nh d j in
    false≢true (sym s ∙ ap (λ (q : Key). is_called (Whole f n) (Whole q.0 q.1)) m ∙ own_call (Whole f n))
others-whole ks k g o e t (Atom f n x a) i s b h nh d w u j =
    let m = same-predicate k (Atom f n x a) g h w u o e nh d j in
    false≢true (sym b ∙ ap (λ (q : Key). has_call ks (Whole q.0 q.1)) (sym m) ∙ t)
others-whole ks k g o e t (Integer f n x z) i s b h nh d w u j =
    let m = same-predicate k (Integer f n x z) g h w u o e nh d j in
    false≢true (sym b ∙ ap (λ (q : Key). has_call ks (Whole q.0 q.1)) (sym m) ∙ t)

chosen-whole : (p : Program) (ks : List Called) (k : Key) (g : Tree) → Named p → is_named g ≡ true → heads k g ≡ true → has_call ks (Whole k.0 k.1) ≡ true → Chosen p ks g
chosen-whole p ks k g good o e t = record { call = Whole k.0 k.1; there = t; alone = refl; own = own-whole k g o e p good; others = others-whole ks k g o e t }

-- ---- those for a constant, where not all of the predicate are called

module _ (k : Called) (i : ℕ) (place : place_of k ≡ Some i) (g : Tree) (o : is_named g ≡ true) (e : heads (key_of k) g ≡ true) (fit : fits k (argument_of g i) ≡ true) where
  own-constant : (p : Program) → Named p → is_open (key_of k, i) p ≡ false → AllByRecursion (λ (c : Clause). leads k c.head ≡ false → Unify g c.head) p
  own-constant [] good v = tt
  own-constant (c ∷ p) good v =
      let r = none-left (heads_open (key_of k, i) c.head) (is_open (key_of k, i) p) v in (
        λ d w u j.
            let hd : heads (key_of k) c.head ≡ true = sym (same-heads (key_of k) w u g c.head o good.0 j) ∙ e in
            let closed = not-both (is_variable (argument_of c.head i)) (heads (key_of k) c.head) hd r.0 in
            let there = fits-place k i c.head place ∙ fits-head k i g c.head w u place o good.0 j fit closed in
            false≢true (sym d ∙ both (fits_in k c.head) (heads (key_of k) c.head) there hd),
        own-constant p good.1 r.1,
      )

  module _ (ks : List Called) (placed : ArePlaced ks) (there : has_call ks k ≡ true) (alone : has_call ks (Whole (key_of k).0 (key_of k).1) ≡ false) where
    others-at : (l : Called) (x : ℕ) → place_of l ≡ Some x → has_call ks l ≡ true → is_called l k ≡ false → (h : Tree) → is_named h ≡ true → leads l h ≡ true → Unify g h
    others-at l x at il s h nh d w u j =
        let m = same-predicate (key_of k) l g h w u o e nh d j in
        let ix = placed k l i x there il m place at in
        let fl : fits l (argument_of h i) ≡ true = ap (λ y. fits l (argument_of h y)) ix ∙ sym (fits-place l x h at) ∙ (and_parts (fits_in l h) (heads (key_of l) h) d).0 in
        let fk = fits-head k i g h w u place o nh j fit (fits-constant l x (argument_of h i) at fl) in
        false≢true (sym s ∙ one-constant k l i x (argument_of h i) m place at ix fk fl)

    others-constant : (l : Called) → has_call ks l ≡ true → is_called l k ≡ false → is_beside ks l ≡ false → (h : Tree) → is_named h ≡ true → leads l h ≡ true → Unify g h
    others-constant (Whole f n) il s b h nh d w u j =
        let m = same-predicate (key_of k) (Whole f n) g h w u o e nh d j in
        false≢true (sym alone ∙ ap (λ (q : Key). has_call ks (Whole q.0 q.1)) m ∙ il)
    others-constant (Atom f n x a) il s b h nh d w u j = others-at (Atom f n x a) x refl il s h nh d w u j
    others-constant (Integer f n x a) il s b h nh d w u j = others-at (Integer f n x a) x refl il s h nh d w u j

alone-constant : (ks : List Called) (k : Called) → has_call ks (Whole (key_of k).0 (key_of k).1) ≡ false → is_beside ks k ≡ false
alone-constant ks (Whole f n) h = refl
alone-constant ks (Atom f n i a) h = h
alone-constant ks (Integer f n i a) h = h

closed-not : (b : Bool) → not b ≡ true → b ≡ false
closed-not true h = absurd (false≢true h)
closed-not false h = refl

heads-named : (k : Key) (g : Tree) → heads k g ≡ true → is_named g ≡ true
heads-named k (var x) h = absurd (false≢true h)
heads-named k (int z) h = absurd (false≢true h)
heads-named k (atom a) h = refl
heads-named k (node a ts) h = refl

chosen-constant : (p : Program) (ks : List Called) (k : Called) (i : ℕ) (g : Tree) → Named p → ArePlaced ks → place_of k ≡ Some i → has_call ks k ≡ true → is_open (key_of k, i) p ≡ false → leads k g ≡ true
    → has_call ks (Whole (key_of k).0 (key_of k).1) ≡ false → Chosen p ks g
chosen-constant p ks k i g good placed at there v d t =
    let r = and_parts (fits_in k g) (heads (key_of k) g) d in
    let o = heads-named (key_of k) g r.1 in
    let fit = sym (fits-place k i g at) ∙ r.0 in
    record { call = k; there = there; alone = alone-constant ks k t; own = own-constant k i at g o r.1 fit p good v; others = others-constant k i at g o r.1 fit ks placed there t }

by-call : (p : Program) (ks : List Called) (k : Called) (g : Tree) → Named p → ArePlaced ks → has_call ks k ≡ true → answers_by p k g ≡ true → has_call ks (Whole (key_of k).0 (key_of k).1) ≡ false → Chosen p ks g
by-call p ks (Whole f n) g good placed there a t = absurd (false≢true (sym t ∙ there))
by-call p ks (Atom f n i a) g good placed there h t =
    let r = and_parts (not (is_open ((f, n), i) p)) (leads (Atom f n i a) g) h in
    chosen-constant p ks (Atom f n i a) i g good placed refl there (closed-not (is_open ((f, n), i) p) r.0) r.1 t
by-call p ks (Integer f n i a) g good placed there h t =
    let r = and_parts (not (is_open ((f, n), i) p)) (leads (Integer f n i a) g) h in
    chosen-constant p ks (Integer f n i a) i g good placed refl there (closed-not (is_open ((f, n), i) p) r.0) r.1 t

record Found (P : Called → Bool) (ks : List Called) : Type 0 where
  call : Called
  there : has_call ks call ≡ true
  holds : P call ≡ true

some-call : (P : Called → Bool) (ks : List Called) → list_any P ks ≡ true → Found P ks
some-call P [] h = absurd (false≢true h)
some-call P (k ∷ ks) h = go (P k) refl h (some-call P ks)
  where
    behind : (a b : Bool) → b ≡ true → (a || b) ≡ true
    behind true b e = refl
    behind false b e = e

    go : (b : Bool) → P k ≡ b → (b || list_any P ks) ≡ true → (list_any P ks ≡ true → Found P ks) → Found P (k ∷ ks)
    go true e i ih = record { call = k; there = ap (λ b. b || has_call ks k) (own_call k); holds = e }
    go false e i ih = let r = ih i in record { call = r.call; there = behind (is_called r.call k) (has_call ks r.call) r.there; holds = r.holds }

chosen : (p : Program) (ks : List Called) (g : Tree) → Named p → ArePlaced ks → IsAmong p ks g → Chosen p ks g
chosen p ks g good placed h =
    let k = some-call (λ k. answers_by p k g) ks h in
    go k.call k.there k.holds (leads-heads k.call g (and_parts (is_closed p k.call) (leads k.call g) k.holds).1) (has_call ks (Whole (key_of k.call).0 (key_of k.call).1)) refl
  where
    go : (k : Called) → has_call ks k ≡ true → answers_by p k g ≡ true → heads (key_of k) g ≡ true → (b : Bool) → has_call ks (Whole (key_of k).0 (key_of k).1) ≡ b → Chosen p ks g
    go k there a e true t = chosen-whole p ks (key_of k) g good (heads-named (key_of k) g e) e t
    go k there a e false t = by-call p ks k g good placed there a t

-- ---- its ways on

no-unifier : (f : ℕ → Tree) (g h : Tree) → Unify g h → mgu g (instance f h) ≡ None
no-unifier f g h apart = go (mgu g (instance f h)) refl (mgu-general g (instance f h))
  where
    go : (m : Option Subst) → mgu g (instance f h) ≡ m → IsMostGeneral g (instance f h) m → mgu g (instance f h) ≡ None
    go None e j = e
    go (Some s) e j = absurd (apart f (value s) j.0)

module _ (n : ℕ) (g : Tree) where
  no-way : (c : Clause) → Unify g c.head → clause_way n g c ≡ []
  no-way c apart = ap (λ m. way_if m (map (instance_part (shift n)) c.body) (c.vars + 1)) (no-unifier (shift n) g c.head apart)

  ways-own : (k : Called) (p : Program) → AllByRecursion (λ (c : Clause). leads k c.head ≡ false → Unify g c.head) p → flat_map (clause_way n g) (clauses_for k p) ≡ flat_map (clause_way n g) p
  ways-own k [] h = refl
  ways-own k (c ∷ p) h = go (leads k c.head) refl (ways-own k p h.1)
    where
      go : (b : Bool) → leads k c.head ≡ b → flat_map (clause_way n g) (clauses_for k p) ≡ flat_map (clause_way n g) p
          → flat_map (clause_way n g) (if b then c ∷ clauses_for k p else clauses_for k p) ≡ clause_way n g c ++ flat_map (clause_way n g) p
      go true e ih = ap (λ ws. clause_way n g c ++ ws) ih
      go false e ih = ih ∙ ap (λ ws. ws ++ flat_map (clause_way n g) p) (sym (no-way c (h.0 e)))

  ways-other : (k : Called) → ((h : Tree) → is_named h ≡ true → leads k h ≡ true → Unify g h) → (p : Program) → Named p → flat_map (clause_way n g) (clauses_for k p) ≡ []
  ways-other k apart [] good = refl
  ways-other k apart (c ∷ p) good = go (leads k c.head) refl (ways-other k apart p good.1)
    where
      go : (b : Bool) → leads k c.head ≡ b → flat_map (clause_way n g) (clauses_for k p) ≡ []
          → flat_map (clause_way n g) (if b then c ∷ clauses_for k p else clauses_for k p) ≡ []
      go true e ih = ap₂ (λ v w. v ++ w) (no-way c (apart c.head good.0 e)) ih
      go false e ih = ih

  module _ (p : Program) (ks : List Called) (good : Named p) (o : Chosen p ks g) where
    ways-chosen : (k : Called) → k ≡ o.call → flat_map (clause_way n g) (contribution ks p k) ≡ flat_map (clause_way n g) p
    ways-chosen k e = ap (λ l. flat_map (clause_way n g) (contribution ks p l)) e ∙ ap (λ b. flat_map (clause_way n g) (if b then [] else clauses_for o.call p)) o.alone ∙ ways-own o.call p o.own

    ways-beside : (k : Called) → has_call ks k ≡ true → is_called k o.call ≡ false → flat_map (clause_way n g) (contribution ks p k) ≡ []
    ways-beside k t s = go (is_beside ks k) refl
      where
        go : (b : Bool) → is_beside ks k ≡ b → flat_map (clause_way n g) (if b then [] else clauses_for k p) ≡ []
        go true e = refl
        go false e = ways-other k (o.others k t s e) p good

    ways-none : (ls : List Called) → AllByRecursion (λ k. has_call ks k ≡ true) ls → AllByRecursion (λ k. is_called o.call k ≡ false) ls → flat_map (clause_way n g) (gathered ks ls p) ≡ []
    ways-none [] t s = refl
    ways-none (k ∷ ls) t s =
        flat_map-append (clause_way n g) (contribution ks p k) (gathered ks ls p) ∙ ap₂ (λ v w. v ++ w) (ways-beside k t.0 (other_call o.call k s.0)) (ways-none ls t.1 s.1)

    nothing : (ws : List Way) → ws ++ [] ≡ ws
    nothing [] = refl
    nothing (w ∷ ws) = ap (λ l. w ∷ l) (nothing ws)

    gathered-ways : (ls : List Called) → IsDistinct is_called ls → AllByRecursion (λ k. has_call ks k ≡ true) ls → has_call ls o.call ≡ true → flat_map (clause_way n g) (gathered ks ls p) ≡ flat_map (clause_way n g) p
    gathered-ways [] once t h = absurd (false≢true h)
    gathered-ways (k ∷ ls) once t h = go (is_called o.call k) refl h (gathered-ways ls (IsDistinct-tail is_called k ls once) t.1)
      where
        go : (b : Bool) → is_called o.call k ≡ b → (b || has_call ls o.call) ≡ true → (has_call ls o.call ≡ true → flat_map (clause_way n g) (gathered ks ls p) ≡ flat_map (clause_way n g) p)
            → flat_map (clause_way n g) (gathered ks (k ∷ ls) p) ≡ flat_map (clause_way n g) p
        go true e i ih =
            let same = same_call o.call k e in
            flat_map-append (clause_way n g) (contribution ks p k) (gathered ks ls p)
            ∙ ap₂ (λ v w. v ++ w) (ways-chosen k (sym same)) (ways-none ls t.1 (subst (λ m. AllByRecursion (λ l. is_called m l ≡ false) ls) (sym same) (IsDistinct-head is_called k ls once)))
            ∙ nothing (flat_map (clause_way n g) p)
        go false e i ih =
            flat_map-append (clause_way n g) (contribution ks p k) (gathered ks ls p)
            ∙ ap₂ (λ v w. v ++ w) (ways-beside k t.0 (other_call o.call k e)) (ih i)

good-heads : (p : Program) → AllByRecursion IsClause p → Named p
good-heads [] h = tt
good-heads (c ∷ p) h = (callable-named c.head (first (callable c.head) (numbered c.vars c.head) h.0.head), good-heads p h.1)
  where
    first : (a b : Bool) → IsTrue (a && b) → IsTrue a
    first true b i = refl
    first false b i = absurd (false≢true i)

has-more : (ks : List Called) (k : Called) (ls : List Called) → AllByRecursion (λ l. has_call ks l ≡ true) ls → AllByRecursion (λ l. has_call (k ∷ ks) l ≡ true) ls
has-more ks k [] h = tt
has-more ks k (l ∷ ls) h = (go (is_called l k) h.0, has-more ks k ls h.1)
  where
    go : (b : Bool) → has_call ks l ≡ true → (b || has_call ks l) ≡ true
    go true i = refl
    go false i = i

has-all : (ks : List Called) → AllByRecursion (λ k. has_call ks k ≡ true) ks
has-all [] = tt
has-all (k ∷ ks) = (ap (λ b. b || has_call ks k) (own_call k), has-more ks k ks (has-all ks))

-- ---- a part of a program

module _ (p : Program) (q : Query) (r : Program) (good : IsProgram p) (part : IsReached p q r) where
  joined-ways : AreSameFor p part.called (joined p q) (joined r q)
  joined-ways n g o =
      let good' = good-heads p (recursion_from_All IsClause p good) in
      let k = chosen p part.called g good' part.placed o in
      flat_map-append (clause_way n g) r (q.question ∷ q.lifted)
      ∙ ap (λ ws. ws ++ flat_map (clause_way n g) (q.question ∷ q.lifted)) (ap (flat_map (clause_way n g)) part.clauses ∙ gathered-ways n g p part.called good' k part.called part.once (has-all part.called) k.there)
      ∙ sym (flat_map-append (clause_way n g) p (q.question ∷ q.lifted))

  all : AllByRecursion (BodyIsAmong p part.called) (joined r q)
  all = recursion_from_All (BodyIsAmong p part.called) (joined r q) part.among

  middle : (s l : Program) (c : Clause) → AllByRecursion (BodyIsAmong p part.called) (s ++ c ∷ l) → BodyIsAmong p part.called c
  middle [] l c h = h.0
  middle (e ∷ s) l c h = middle s l c h.1

  pub restriction : (n : ℕ) → search (joined r q) n (start q ∷ []) ≡ search (joined p q) n (start q ∷ [])
  restriction n = same-search p part.called (joined p q) (joined r q) part.among joined-ways n (start q ∷ []) (middle r q.lifted q.question all, tt)

  pub answers : (d : ℕ) → answers_to_depth (joined r q) (start q) d ≡ answers_to_depth (joined p q) (start q) d
  answers d = ap cut (same-below p part.called (joined p q) (joined r q) all joined-ways (d - 0) (start q) (middle r q.lifted q.question all))
