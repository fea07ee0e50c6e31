-- The call of a lifted predicate.
use Rattle.std.proofs.Common.{◌≡◌, ℕ, ◌+◌, ◌<◌, ◌≤◌, Bool, true, false, ◌==◌, if◌then◌else◌, nat_eq, length, option_and_then, List, [], ◌∷◌, ◌++◌, map, Option, Some, None, refl, ap, sym, ◌∙◌, subst, arith}
use Rattle.std.specs.List.{AllZip, AllByRecursion, flat_map}
use Rattle.std.proofs.lemmas.List.{map-append}
use Rattle.std.proofs.lemmas.Bool.{false≢true, and_parts}
use Rattle.std.proofs.lemmas.Bool.Decides.{nat_tests}
use Rattle.std.proofs.lemmas.List.Elements.{All-head, All-tail}
use Rattle.ap_term.specs.declared.fixed.TheConstants.{COUNT}
use Rattle.ap_term.specs.Tree.{Tree, Trees, var, int, atom, node, none, more, append_trees}
use Rattle.ap_term.specs.Substitution.{instance, instance_all, Subst, value, shift}
use Rattle.ap_term.specs.Unification.{mgu, solve, apart_all}
use Rattle.ap_term.specs.Unifier.{IsMostGeneral}
use Rattle.ap_term.specs.Builtins.{builtin, relation_named, named_answer}
use Rattle.ap_term.specs.Goals.{Part, Program, calls, instance_part, plain_goals}
use Rattle.ap_term.specs.WellFormed.{IsClause, IsProgram, callable, numbered}
use Rattle.ap_term.specs.Search.{variables, way_if, clause_way, ways_by, child}
use Rattle.ap_term.proofs.Solvable.{mgu-general}
use Rattle.ap_term.proofs.Solutions.{same_var, same_test}
use Rattle.ap_term.specs.Vars.{occurs, add_vars, Local, LocalAll}
use Rattle.ap_term.proofs.Locals.{Local-instance, LocalAll-weaken, Local-weaken}
use Rattle.ap_term.proofs.TreeLists.{instance_all-append_trees}
use Rattle.ap_term.proofs.GoalLists.{plain_goals-append, plain_goals-instance, plain_goals-calls}
use Rattle.ap_laws.specs.Renaming.{OptionAll, SameState, LocalSubst, LocalPart, LocalParts}
use Rattle.ap_laws.specs.Plain.{state, PlainWay, way, plain_of, as_state, plain_way, plain_child, plain_children_by, IsPlainBelow, SamePlain}
use Rattle.ap_term.proofs.Zips.{AllByRecursion-append, AllZip-append}
use Rattle.ap_term.proofs.WellFormed.{callable-instance}
use Rattle.ap_laws.proofs.Local.{Local-mgu, LocalParts-instance_part, LocalAll-calls}
use Rattle.ap_laws.proofs.Ways.{LocalParts-body}
use Rattle.ap_laws.proofs.Graft.{state-eq, Local-at}
use Rattle.ap_laws.proofs.Unifiers.{SameState-unifiers}
use Rattle.ap_laws.proofs.Views.{plain_by-None}
use Rattle.ap_laws.proofs.TraceNames.{trace_renaming}
use Rattle.ap_lifting.specs.Lifted.{applied, lifted_goal, lifted_clause}
use Rattle.ap_lifting.specs.LiftingLaws.{is_named, clauses_named, entered, LiftedCallLaw}
use Rattle.ap_lifting.proofs.Kept.{goals_called}
use Rattle.ap_lifting.proofs.Binds.{InRange, Local-numbered, LocalAll-numbered, occurs-applied, binds, old-stays, new-becomes, LocalSubst-binds, binds-unifier}

-- ---- one clause of a lifted predicate

module _ (p : Program) (good : IsProgram p) (h : Tree) (vars : ℕ) (f : ℕ → Tree) (G T : Trees) (n k : ℕ) (range : Local (InRange vars) h) (all : (x : ℕ) → 1 ≤ x → x ≤ vars → occurs x h ≡ true) (below : IsPlainBelow (state (more (instance f h) G) T n k)) where
  abbrev g : Tree
  g = instance f h

  abbrev P : ℕ → Type 0
  P x = x < n + (vars + 1)

  abbrev Q : ℕ → Type 0
  Q x = x < n

  wider : (x : ℕ) → Q x → P x
  wider x l = omega arith

  new : (x : ℕ) → x ≤ vars → P (x + n)
  new x l = omega arith

  child_is : (s : Subst) (ps : List Part) → plain_of (child (as_state (state (more g G) T n k)) (calls G) (record { binds = s; body = ps; takes = vars + 1; fault = None })) ≡ plain_child G T n k (way s (plain_goals ps) (vars + 1))
  child_is s ps =
      plain_by-None _ _ _ _
      ∙ state-eq (plain_goals-instance (value s) (ps ++ calls G) ∙ ap (instance_all (value s)) (plain_goals-append ps (calls G) ∙ ap (append_trees (plain_goals ps)) (plain_goals-calls G))) refl refl refl

  entered_is : (ps : List Part) → LocalAll (InRange vars) (plain_goals ps) → plain_child G T n k (way (binds f n vars) (plain_goals (map (instance_part (shift n)) ps)) (vars + 1)) ≡ entered vars f G T n k ps
  entered_is ps local =
      state-eq
      (instance_all-append_trees (value (binds f n vars)) (plain_goals (map (instance_part (shift n)) ps)) G
      ∙ ap (λ ts. append_trees ts (instance_all (value (binds f n vars)) G))
      (ap (instance_all (value (binds f n vars))) (plain_goals-instance (shift n) ps) ∙ new-becomes f n vars (plain_goals ps) local)
      ∙ ap (append_trees (instance_all f (plain_goals ps))) (old-stays f n vars G below.0.1))
      (old-stays f n vars T below.1) refl refl

  branch : (ps : List Part) → LocalAll (InRange vars) (plain_goals ps) → LocalParts (λ x. x ≤ vars) ps
      → AllZip SamePlain (plain_children_by G T n k (map plain_way (way_if (mgu g (instance (shift n) h)) (map (instance_part (shift n)) ps) (vars + 1)))) (entered vars f G T n k ps ∷ [])
  branch ps local parts =
      go (mgu g (instance (shift n) h)) (mgu-general g (instance (shift n) h))
      (Local-mgu P g (instance (shift n) h) (Local-weaken Q P wider g below.0.0) (Local-instance (InRange vars) P (shift n) (λ x l. new x l.1) h range))
    where
      unifier : IsMostGeneral g (instance (shift n) h) (Some (binds f n vars))
      unifier = binds-unifier f n vars h range below.0.0 all

      go : (o : Option Subst) → IsMostGeneral g (instance (shift n) h) o → OptionAll (LocalSubst P) o
          → AllZip SamePlain (plain_children_by G T n k (map plain_way (way_if o (map (instance_part (shift n)) ps) (vars + 1)))) (entered vars f G T n k ps ∷ [])
      go None most bound = absurd (most (value (binds f n vars)) unifier.0)
      go (Some s) most bound =
          let body = map (instance_part (shift n)) ps in
          let S = as_state (state (more g G) T n k) in
          let same : SameState (child S (calls G) (record { binds = s; body = body; takes = vars + 1; fault = None })) (child S (calls G) (record { binds = binds f n vars; body = body; takes = vars + 1; fault = None }))
          = SameState-unifiers S (calls G) body (vars + 1) g (instance (shift n) h) s (binds f n vars) most unifier bound
          (LocalSubst-binds f n P vars (λ x l m. (Local-weaken Q P wider (f x) (Local-at Q f h below.0.0 x (all x l m)), new x m)))
          (AllByRecursion-append (LocalPart P) body (calls G) (LocalParts-instance_part (λ x. x ≤ vars) P (shift n) new ps parts) (LocalAll-calls P G (LocalAll-weaken Q P wider G below.0.1)))
          (LocalAll-weaken Q P wider T below.1)
          in
          let plain = (trace_renaming p good).0 _ _ same in
          (subst (λ u. SamePlain u (entered vars f G T n k ps)) (child_is s body) (subst (SamePlain (plain_of (child S (calls G) (record { binds = s; body = body; takes = vars + 1; fault = None })))) (child_is (binds f n vars) body ∙ entered_is ps local) plain), tt)

-- ---- a goal's own clauses

pub named_callable : (a : ℕ) (t : Tree) (s : ℕ → Tree) → callable t ≡ true → is_named a (instance s t) ≡ is_named a t
named_callable a (var x) s h = absurd (false≢true h)
named_callable a (int z) s h = refl
named_callable a (atom b) s h = refl
named_callable a (node b ts) s h = refl

differ : (a b d : ℕ) → nat_eq b a ≡ true → nat_eq d a ≡ false → (b == d) ≡ false
differ a b d h k = go (b == d) refl
  where
    go : (v : Bool) → (b == d) ≡ v → v ≡ false
    go false e = refl
    go true e = absurd (false≢true (sym k ∙ ap (λ x. nat_eq x a) (sym (same_var b d e)) ∙ h))

-- a goal has no unifier with a head of another name
no_unifier : (a : ℕ) (t u : Tree) → is_named a t ≡ true → is_named a u ≡ false → callable u ≡ true → mgu t u ≡ None
no_unifier a t (var x) h k c = absurd (false≢true c)
no_unifier a t (int z) h k c = absurd (false≢true c)
no_unifier a (var x) u h k c = absurd (false≢true h)
no_unifier a (int z) u h k c = absurd (false≢true h)
no_unifier a (atom b) (node d us) h k c = refl
no_unifier a (node b ts) (atom d) h k c = refl
no_unifier a (atom b) (atom d) h k c = ap (λ v. option_and_then (solve (length (add_vars (atom d) (add_vars (atom b) [])))) (if v then Some [] else None)) (differ a b d h k)
no_unifier a (node b ts) (node d us) h k c =
    ap (λ v. option_and_then (solve (length (add_vars (node d us) (add_vars (node b ts) [])))) (if v then apart_all ts us else None)) (differ a b d h k)

-- the ways by a program's clauses are those by the clauses that have the goal's name
pub selected : (n a : ℕ) (t : Tree) → is_named a t ≡ true → (p : Program) → IsProgram p → flat_map (clause_way n t) p ≡ flat_map (clause_way n t) (clauses_named a p)
selected n a t h [] good = refl
selected n a t h (c ∷ p) good = go (is_named a c.head) refl (selected n a t h p (All-tail IsClause c p good))
  where
    calls_for : callable c.head ≡ true
    calls_for = (and_parts (callable c.head) (numbered c.vars c.head) (All-head IsClause c p good).head).0

    go : (v : Bool) → is_named a c.head ≡ v → flat_map (clause_way n t) p ≡ flat_map (clause_way n t) (clauses_named a p)
        → clause_way n t c ++ flat_map (clause_way n t) p ≡ flat_map (clause_way n t) (if v then c ∷ clauses_named a p else clauses_named a p)
    go true e rest = ap (λ l. clause_way n t c ++ l) rest
    go false e rest =
        ap (λ o. way_if o (map (instance_part (shift n)) c.body) (c.vars + 1) ++ flat_map (clause_way n t) p)
        (no_unifier a t (instance (shift n) c.head) h (named_callable a c.head (shift n) calls_for ∙ e) (callable-instance (shift n) c.head calls_for))
        ∙ rest

-- a name that isn't fixed is none of a built-in goal
pub no_builtin : (a : ℕ) (t : Tree) → is_named a t ≡ true → COUNT ≤ a → builtin t ≡ None
no_builtin a (var x) h k = refl
no_builtin a (int z) h k = refl
no_builtin a (atom b) h k = grind (arith, nat_tests)
no_builtin a (node b none) h k = refl
no_builtin a (node b (more t none)) h k = refl
no_builtin a (node b (more t (more u none))) h k = ap (λ r. named_answer r t u) (no_relation a b h k)
  where
    no_relation : (a b : ℕ) → nat_eq b a ≡ true → COUNT ≤ a → relation_named b ≡ None
    no_relation a b h k = grind (arith, nat_tests)
no_builtin a (node b (more t (more u (more v ts)))) h k = refl

pub clauses_kept : (a : ℕ) (p : Program) → IsProgram p → AllByRecursion IsClause (clauses_named a p)
clauses_kept a [] good = tt
clauses_kept a (c ∷ p) good = go (is_named a c.head) (All-head IsClause c p good) (clauses_kept a p (All-tail IsClause c p good))
  where
    go : (v : Bool) → IsClause c → AllByRecursion IsClause (clauses_named a p) → AllByRecursion IsClause (if v then c ∷ clauses_named a p else clauses_named a p)
    go true h rest = (h, rest)
    go false h rest = rest

plain_children_by-append : (G T : Trees) (n k : ℕ) (l m : List PlainWay) → plain_children_by G T n k (l ++ m) ≡ plain_children_by G T n k l ++ plain_children_by G T n k m
plain_children_by-append G T n k [] m = refl
plain_children_by-append G T n k (a ∷ l) m = ap (λ r. plain_child G T n k a ∷ r) (plain_children_by-append G T n k l m)

pub is_named-applied : (a : ℕ) (ts : Trees) (s : ℕ → Tree) → is_named a (instance s (applied a ts)) ≡ true
is_named-applied a none s = same_test a a refl
is_named-applied a (more t ts) s = same_test a a refl

module _ (p : Program) (good : IsProgram p) (names : ℕ → ℕ) (vars line i : ℕ) (f : ℕ → Tree) (G T : Trees) (n k : ℕ) (below : IsPlainBelow (state (more (instance f (lifted_goal names vars line i)) G) T n k)) where
  branches : (bodies : List (List Part)) → AllByRecursion IsClause (map (lifted_clause names vars line i) bodies)
      → AllZip SamePlain (plain_children_by G T n k (map plain_way (flat_map (clause_way n (instance f (lifted_goal names vars line i))) (map (lifted_clause names vars line i) bodies)))) (map (entered vars f G T n k) bodies)
  branches [] good = tt
  branches (ps ∷ bodies) kept =
      let h = lifted_goal names vars line i in
      let t = instance f h in
      let c = lifted_clause names vars line i ps in
      let cs = map (lifted_clause names vars line i) bodies in
      subst (λ l. AllZip SamePlain l (entered vars f G T n k ps ∷ map (entered vars f G T n k) bodies))
      (sym (ap (plain_children_by G T n k) (map-append plain_way (clause_way n t c) (flat_map (clause_way n t) cs))
      ∙ plain_children_by-append G T n k (map plain_way (clause_way n t c)) (map plain_way (flat_map (clause_way n t) cs))))
      (AllZip-append SamePlain (plain_children_by G T n k (map plain_way (clause_way n t c))) (plain_children_by G T n k (map plain_way (flat_map (clause_way n t) cs)))
      (entered vars f G T n k ps ∷ []) (map (entered vars f G T n k) bodies)
      (branch p good h vars f G T n k (Local-numbered vars h (and_parts (callable h) (numbered vars h) kept.0.head).1) (occurs-applied (names i) vars) below ps
      (LocalAll-numbered vars (plain_goals ps) (goals_called vars ps kept.0.body).1) (LocalParts-body c kept.0))
      (branches bodies kept.1))

pub lifted_call : LiftedCallLaw
lifted_call p good names vars line i bodies new is f G T n k below =
    let h = lifted_goal names vars line i in
    let t = instance f h in
    let named = is_named-applied (names i) (variables vars) f in
    subst (λ l. AllZip SamePlain (plain_children_by G T n k (map plain_way l)) (map (entered vars f G T n k) bodies))
    (sym (ap (ways_by p n t) (no_builtin (names i) t named new) ∙ selected n (names i) t named p good ∙ ap (flat_map (clause_way n t)) is))
    (branches p good names vars line i f G T n k below bodies (subst (AllByRecursion IsClause) is (clauses_kept (names i) p good)))
