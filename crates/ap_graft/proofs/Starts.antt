-- The safety of a query's start.
use Rattle.std.proofs.Common.{◌≡◌, ℕ, ◌+◌, ◌<◌, inl, inr, List, [], ◌∷◌, ◌++◌, map, Option, Some, None, refl, ap, sym, ◌∙◌, subst, arith, append-nil}
use Rattle.std.specs.List.{AllZip, flat_map}
use Rattle.ap_term.specs.declared.fixed.TheConstants.{QUERY}
use Rattle.ap_term.specs.Tree.{Tree, Trees, var, atom, none}
use Rattle.ap_term.specs.Substitution.{instance, instance_all, Subst, value, shift}
use Rattle.ap_term.specs.Unification.{mgu}
use Rattle.ap_term.specs.declared.faults.Fault.{Fault}
use Rattle.ap_term.specs.Faults.{fault_of}
use Rattle.ap_term.specs.Builtins.{builtin}
use Rattle.ap_term.specs.WellFormed.{IsQuery}
use Rattle.ap_term.specs.Goals as goals
use Rattle.ap_term.specs.Goals.{Clause, Program, Query, joined, instance_check, instance_part}
use Rattle.ap_term.specs.Search.{start, variables}
use Rattle.ap_term.proofs.Copies.{instance_var, parts_var}
use Rattle.ap_laws.proofs.Conjunctions.{query}
use Rattle.ap_tracked.specs.Tracked.{Goal, call, fork, moved, placed, renamed, opened, Tracked, untracked, IsOneOf, child_if, clause_children, call_children, children_unless, children_by, children}
use Rattle.ap_tracked.specs.Forks.{Fork, Forks, here, below, beside, alone}
use Rattle.ap_tracked.specs.Safe.{IsSafe}
use Rattle.ap_tracked.specs.Kept.{SameText, IsKept, itself}
use Rattle.ap_tracked.proofs.Safe.{deeper}
use Rattle.ap_tracked.proofs.Kept.{means-placed, one_of, from_same}
use Rattle.ap_graft.specs.Variables.{IsTrackedBelow}
use Rattle.ap_graft.specs.Starts.{tracked_start}
use Rattle.ap_graft.specs.Uncalled.{NeverCalls, HasName}
use Rattle.ap_graft.specs.Laws.{StartLaw}
use Rattle.ap_graft.proofs.Uncalled.{others-placed, same-forks, middle}
use Rattle.ap_tracked.proofs.Untracked.{body_up}
use Rattle.ap_graft.proofs.Variables.{over-placed}
use Rattle.ap_graft.proofs.Grafts.{tracked-eq}
use Rattle.ap_graft.proofs.Joins.{built}

-- ---- members

one_left : (xs ys : List Tracked) (x : Tracked) → IsOneOf x xs → IsOneOf x (xs ++ ys)
one_left [] ys x i = absurd i
one_left (z ∷ xs) ys x (inl e) = inl e
one_left (z ∷ xs) ys x (inr i) = inr (one_left xs ys x i)

one_right : (xs ys : List Tracked) (x : Tracked) → IsOneOf x ys → IsOneOf x (xs ++ ys)
one_right [] ys x i = i
one_right (z ∷ xs) ys x i = inr (one_right xs ys x i)

in_middle : (f : Clause → List Tracked) (p l : Program) (c : Clause) (x : Tracked) → IsOneOf x (f c) → IsOneOf x (flat_map f (p ++ c ∷ l))
in_middle f [] l c x i = one_left (f c) (flat_map f l) x i
in_middle f (d ∷ p) l c x i = one_right (f d) (flat_map f (p ++ c ∷ l)) x (in_middle f p l c x i)

-- ---- the search doesn't look at the tuple, nor at what was called before

abbrev shifted : Trees → ℕ → Tracked → Tracked
shifted T j s = record { goals = s.goals; tuple = T; next = s.next; steps = s.steps + j; fault = s.fault }

abbrev Moved : ℕ → Tracked → List Tracked → Type 0
Moved j x ys = (T : Trees) × IsOneOf (shifted T j x) ys

moved-child : (s : Tracked) (T : Trees) (j : ℕ) (rest : List Goal) (o : Option Subst) (body : List Goal) (n : ℕ) (x : Tracked) → IsOneOf x (child_if s rest o body n) → Moved j x (child_if (shifted T j s) rest o body n)
moved-child s T j rest None body n x i = absurd i
moved-child s T j rest (Some b) body n x (inl e) =
    (instance_all (value b) T, inl (ap (shifted (instance_all (value b) T) j) e ∙ tracked-eq refl refl refl (omega arith)))
moved-child s T j rest (Some b) body n x (inr i) = absurd i

moved-left : (j : ℕ) (xs ys : List Tracked) (x : Tracked) → Moved j x xs → Moved j x (xs ++ ys)
moved-left j xs ys x m = (m.0, one_left xs ys (shifted m.0 j x) m.1)

moved-right : (j : ℕ) (xs ys : List Tracked) (x : Tracked) → Moved j x ys → Moved j x (xs ++ ys)
moved-right j xs ys x m = (m.0, one_right xs ys (shifted m.0 j x) m.1)

moved-clauses : (p : Program) (s : Tracked) (T : Trees) (j : ℕ) (g : Tree) (rest : List Goal) (x : Tracked) → IsOneOf x (flat_map (clause_children s g rest) p) → Moved j x (flat_map (clause_children (shifted T j s) g rest) p)
moved-clauses [] s T j g rest x i = absurd i
moved-clauses (c ∷ p) s T j g rest x i =
    elim (one_of (clause_children s g rest c) (flat_map (clause_children s g rest) p) x i) [
      | inl k ↦ moved-left j (clause_children (shifted T j s) g rest c) (flat_map (clause_children (shifted T j s) g rest) p) x
          (moved-child s T j rest (mgu g (instance (shift s.next) c.head)) (map (placed (renamed c.vars s.next)) c.body) (c.vars + 1) x k)
      | inr k ↦ moved-right j (clause_children (shifted T j s) g rest c) (flat_map (clause_children (shifted T j s) g rest) p) x (moved-clauses p s T j g rest x k)
    ]

moved-call : (p : Program) (s : Tracked) (T : Trees) (j : ℕ) (g : Tree) (rest : List Goal) (o : Option (Option Subst)) (x : Tracked) → IsOneOf x (call_children p s g rest o) → Moved j x (call_children p (shifted T j s) g rest o)
moved-call p s T j g rest None x i = moved-clauses p s T j g rest x i
moved-call p s T j g rest (Some a) x i = moved-child s T j rest a [] 0 x i

moved-unless : (e : Option Fault) (s : Tracked) (T : Trees) (j : ℕ) (ss ts : List Tracked) (x : Tracked) → (IsOneOf x ss → Moved j x ts) → IsOneOf x (children_unless e s ss) → Moved j x (children_unless e (shifted T j s) ts)
moved-unless None s T j ss ts x h i = h i
moved-unless (Some e) s T j ss ts x h (inl q) = (instance_all (value []) T, inl (ap (shifted (instance_all (value []) T) j) q ∙ tracked-eq refl refl refl (omega arith)))
moved-unless (Some e) s T j ss ts x h (inr i) = absurd i

moved-children_by : (p : Program) (s : Tracked) (T : Trees) (j : ℕ) (gs : List Goal) (x : Tracked) → IsOneOf x (children_by p s gs) → Moved j x (children_by p (shifted T j s) gs)
moved-children_by p s T j [] x i = absurd i
moved-children_by p s T j (call g ∷ rest) x i = moved-unless (fault_of g) s T j (call_children p s g rest (builtin g)) (call_children p (shifted T j s) g rest (builtin g)) x (moved-call p s T j g rest (builtin g) x) i
moved-children_by p s T j (fork cs ts own now ∷ rest) x i = absurd i

forks-shifted : (p : Program) (s : Tracked) (T : Trees) (j d : ℕ) (f : Fork) → Forks p s d f → Forks p (shifted T j s) (d + j) f
forks-shifted p s T j d f (here l c) = here (omega (arith, l)) c
forks-shifted p s T j d f (below t l i k) =
    let m = moved-children_by p s T j (opened s.goals) t i in below (shifted m.0 j t) (omega (arith, l)) m.1 (forks-shifted p t m.0 j d f k)
forks-shifted p s T j d f (beside e g n k i u m) = beside e g n (forks-shifted p s T j d e k) i u (deeper j m)

-- ---- the question's child

same-back : (a : ℕ → Tree) → ((t : Tree) → instance a t ≡ t) → (gs : List Goal) → AllZip SameText (map (moved a) gs) gs
same-back a e [] = tt
same-back a e (call t ∷ gs) = (e t, same-back a e gs)
same-back a e (fork cs ts own now ∷ gs) = ((refl, refl, λ i. λ x. e (own x) i), same-back a e gs)

abbrev first_child : Query → Tracked
first_child q = record { goals = map (moved (value [])) (map (placed (renamed q.question.vars 0)) q.question.body ++ []); tuple = none; next = q.question.vars + 1; steps = 1; fault = None }

is_child : (p : Program) (q : Query) → IsQuery q → IsOneOf (first_child q) (children (joined p q) (alone (atom QUERY) 0))
is_child p q is = in_middle (clause_children (alone (atom QUERY) 0) (atom QUERY) []) p q.lifted q.question (first_child q)
    (subst (λ h. IsOneOf (first_child q) (child_if (alone (atom QUERY) 0) [] (mgu (atom QUERY) (instance (shift 0) h)) (map (placed (renamed q.question.vars 0)) q.question.body) (q.question.vars + 1))) (sym is.head)
    (inl (tracked-eq refl refl (omega arith) refl)))

start_safe : (p : Program) (q : Query) → IsQuery q → IsSafe (joined p q) (alone (atom QUERY) 0) → IsSafe (joined p q) (tracked_start q)
start_safe p q is safe d f k = safe (d + 1) f (below (first_child q) (omega arith) (is_child p q is)
    (from_same (joined p q) (first_child q) (shifted none 1 (tracked_start q)) (tracked_start q).goals (d + 1) f refl texts (forks-shifted (joined p q) (tracked_start q) none 1 d f k)))
  where
    body : List Goal
    body = map (placed (renamed q.question.vars 0)) q.question.body

    texts : AllZip SameText (map (moved (value [])) (body ++ [])) body
    texts = subst (λ l. AllZip SameText (map (moved (value [])) l) body) (sym (append-nil body)) (same-back (value []) instance_var body)

-- ---- the state is the query's

start_is : (q : Query) → IsQuery q → untracked (tracked_start q) ≡ start q
start_is q is = ap (λ l. built l (variables q.question.vars) (q.question.vars + 1) 0) (body_up q.question.vars 0 q.question.body is.question.body ∙ ap (λ f. map (instance_part f) q.question.body) (λ i. λ x. var (plus_zero x i)) ∙ parts_var q.question.body)
  where
    plus_zero : (x : ℕ) → x + 0 ≡ x
    plus_zero x = omega arith

start_below : (q : Query) → IsQuery q → IsTrackedBelow (tracked_start q)
start_below q is = (over-placed (λ x. x < q.question.vars + 1) q.question.vars 0 (λ x l. omega (arith, l)) q.question.body is.question.body, (query q is).0.1, omega arith, tt)

start_kept : (p : Program) (q : Query) → IsKept p (tracked_start q) (tracked_start q)
start_kept p q = record { means = means-placed (renamed q.question.vars 0) q.question.body; from = itself }

-- ---- the question's head

asked_safe : (p : Program) (q : Query) (c : Clause) → IsQuery q → HasName QUERY c.head → NeverCalls QUERY (joined p q) → IsSafe (joined p q) (tracked_start q) → IsSafe (p ++ c ∷ q.lifted) (tracked_start q)
asked_safe p q c is named never safe d f k =
    safe d f (same-forks QUERY p q.lifted c q.question named (subst (HasName QUERY) (sym is.head) refl) never (tracked_start q) d f
    (others-placed QUERY (renamed q.question.vars 0) q.question.body (middle QUERY p q.lifted q.question never)) k)

pub starting : StartLaw
starting = record { start = start_is; below = start_below; kept = start_kept; safe = start_safe; asked = asked_safe }
