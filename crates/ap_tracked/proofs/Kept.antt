-- What checks say along a search.
use Rattle.std.proofs.Common.{◌≡◌, ℕ, ◌+◌, ◌≤◌, ◌<◌, ◌⊎◌, inl, inr, List, [], ◌∷◌, ◌++◌, map, Option, Some, None, refl, ap, ap₂, sym, ◌∙◌, subst}
use Rattle.std.specs.List.{All, AllByRecursion, AllZip, flat_map}
use Rattle.ap_term.specs.Tree.{Tree, Trees, none, more}
use Rattle.ap_term.specs.Substitution.{instance, instance_all, Subst, value, shift}
use Rattle.ap_term.specs.Unification.{mgu}
use Rattle.ap_term.specs.declared.faults.Fault.{Fault}
use Rattle.ap_term.specs.Faults.{fault_of}
use Rattle.ap_term.specs.Builtins.{builtin}
use Rattle.ap_term.specs.Independence.{Holds}
use Rattle.ap_term.specs.Goals as goals
use Rattle.ap_term.specs.Goals.{Clause, Program, instance_check}
use Rattle.ap_term.proofs.Copies.{instance_twice}
use Rattle.ap_tracked.specs.Tracked.{Goal, call, fork, moved, placed, renamed, calls as goal_calls, opened, Tracked, IsOneOf, child_if, clause_children, call_children, faulted_child, children_unless, children_by, children}
use Rattle.ap_tracked.specs.Forks.{Fork, ComesFirst, Forks, here, below, beside}
use Rattle.ap_tracked.specs.Safe.{IsSafe}
use Rattle.ap_tracked.specs.Kept.{Means, SameText, with_goals, IsFrom, itself, calls, opens, reads, IsKept}
use Rattle.ap_tracked.specs.Laws.{KeptLaw}
use Rattle.ap_tracked.proofs.Checks.{checks-forth, checks-back}
use Rattle.ap_tracked.specs.Marks.{opening}
use Rattle.ap_tracked.proofs.Safe.{safe}

-- ---- goals

pub means-moved : (u : ℕ → Tree) (g : Goal) → Means g → Means (moved u g)
means-moved u (call t) h = tt
means-moved u (fork cs ts own now) h = λ w.
    let same : (λ x. instance w (instance u (own x))) ≡ (λ x. instance (λ y. instance w (u y)) (own x)) = λ i. λ x. instance_twice u w (own x) i in (
      λ k. checks-forth w u now ((h (λ y. instance w (u y))).0 (subst (λ f. All (Holds f) cs) same k)),
      λ k. subst (λ f. All (Holds f) cs) (sym same) ((h (λ y. instance w (u y))).1 (checks-back w u now k)),
    )

pub means-all : (u : ℕ → Tree) (gs : List Goal) → AllByRecursion Means gs → AllByRecursion Means (map (moved u) gs)
means-all u [] h = tt
means-all u (g ∷ gs) h = (means-moved u g h.0, means-all u gs h.1)

pub means-placed : (f : ℕ → Tree) (ps : List goals.Part) → AllByRecursion Means (map (placed f) ps)
means-placed f [] = tt
means-placed f (goals.call t ∷ ps) = (tt, means-placed f ps)
means-placed f (goals.group cs ts ∷ ps) = (λ w. (checks-forth w f cs, checks-back w f cs), means-placed f ps)

pub means-append : (gs hs : List Goal) → AllByRecursion Means gs → AllByRecursion Means hs → AllByRecursion Means (gs ++ hs)
means-append [] hs h k = k
means-append (g ∷ gs) hs h k = (h.0, means-append gs hs h.1 k)

pub means-calls : (f : ℕ → Tree) (ts : Trees) (gs : List Goal) → AllByRecursion Means gs → AllByRecursion Means (goal_calls f ts ++ gs)
means-calls f none gs h = h
means-calls f (more t ts) gs h = (tt, means-calls f ts gs h)

pub means-opened : (gs : List Goal) → AllByRecursion Means gs → AllByRecursion Means (opened gs)
means-opened [] h = tt
means-opened (call t ∷ gs) h = h
means-opened (fork cs none f now ∷ gs) h = means-opened gs h.1
means-opened (fork cs (more t ts) f now ∷ gs) h = (tt, means-calls f ts gs h.1)

-- ---- children

abbrev AreMeant : List Tracked → Type 0
AreMeant ss = AllByRecursion (λ (s : Tracked). AllByRecursion Means s.goals) ss

meant-append : (ss ts : List Tracked) → AreMeant ss → AreMeant ts → AreMeant (ss ++ ts)
meant-append [] ts h k = k
meant-append (s ∷ ss) ts h k = (h.0, meant-append ss ts h.1 k)

meant-child : (s : Tracked) (rest : List Goal) (o : Option Subst) (body : List Goal) (n : ℕ) → AllByRecursion Means body → AllByRecursion Means rest → AreMeant (child_if s rest o body n)
meant-child s rest None body n h k = tt
meant-child s rest (Some b) body n h k = (means-all (value b) (body ++ rest) (means-append body rest h k), tt)

meant-clauses : (p : Program) (s : Tracked) (g : Tree) (rest : List Goal) → AllByRecursion Means rest → AreMeant (flat_map (clause_children s g rest) p)
meant-clauses [] s g rest h = tt
meant-clauses (c ∷ cs) s g rest h =
    meant-append (clause_children s g rest c) (flat_map (clause_children s g rest) cs)
    (meant-child s rest (mgu g (instance (shift s.next) c.head)) (map (placed (renamed c.vars s.next)) c.body) (c.vars + 1) (means-placed (renamed c.vars s.next) c.body) h)
    (meant-clauses cs s g rest h)

meant-call : (p : Program) (s : Tracked) (g : Tree) (rest : List Goal) (o : Option (Option Subst)) → AllByRecursion Means rest → AreMeant (call_children p s g rest o)
meant-call p s g rest None h = meant-clauses p s g rest h
meant-call p s g rest (Some a) h = meant-child s rest a [] 0 tt h

meant-unless : (e : Option Fault) (s : Tracked) (ss : List Tracked) → AreMeant ss → AreMeant (children_unless e s ss)
meant-unless None s ss h = h
meant-unless (Some e) s ss h = (tt, tt)

meant-children : (p : Program) (s : Tracked) (gs : List Goal) → AllByRecursion Means gs → AreMeant (children_by p s gs)
meant-children p s [] h = tt
meant-children p s (call g ∷ rest) h = meant-unless (fault_of g) s (call_children p s g rest (builtin g)) (meant-call p s g rest (builtin g) h.1)
meant-children p s (fork cs ts f now ∷ rest) h = tt

with_origin : (p : Program) (o : Tracked) (ss : List Tracked) → AreMeant ss → ((t : Tracked) → IsOneOf t ss → IsFrom p o t) → AllByRecursion (IsKept p o) ss
with_origin p o [] h k = tt
with_origin p o (s ∷ ss) h k = (record { means = h.0; from = k s (inl refl) }, with_origin p o ss h.1 (λ t i. k t (inr i)))

kept_children : (p : Program) (o s : Tracked) → IsKept p o s → AllByRecursion (IsKept p o) (children p s)
kept_children p o s h = with_origin p o (children p s) (meant-children p s (opened s.goals) (means-opened s.goals h.means)) (λ t i. calls t h.from i)

-- ---- a state with its first group opened comes to what the state comes to

pub opened-twice : (gs : List Goal) → opened (opened gs) ≡ opened gs
opened-twice [] = refl
opened-twice (call t ∷ gs) = refl
opened-twice (fork cs none f now ∷ gs) = opened-twice gs
opened-twice (fork cs (more t ts) f now ∷ gs) = refl

child-opening : (s : Tracked) (rest : List Goal) (o : Option Subst) (body : List Goal) (n : ℕ) → child_if (opening s) rest o body n ≡ child_if s rest o body n
child-opening s rest None body n = refl
child-opening s rest (Some b) body n = refl

clauses-opening : (p : Program) (s : Tracked) (g : Tree) (rest : List Goal) → flat_map (clause_children (opening s) g rest) p ≡ flat_map (clause_children s g rest) p
clauses-opening [] s g rest = refl
clauses-opening (c ∷ cs) s g rest =
    ap₂ (λ a b. a ++ b) (child-opening s rest (mgu g (instance (shift s.next) c.head)) (map (placed (renamed c.vars s.next)) c.body) (c.vars + 1)) (clauses-opening cs s g rest)

call-opening : (p : Program) (s : Tracked) (g : Tree) (rest : List Goal) (o : Option (Option Subst)) → call_children p (opening s) g rest o ≡ call_children p s g rest o
call-opening p s g rest None = clauses-opening p s g rest
call-opening p s g rest (Some a) = child-opening s rest a [] 0

unless-opening : (e : Option Fault) (s : Tracked) (ss ts : List Tracked) → ss ≡ ts → children_unless e (opening s) ss ≡ children_unless e s ts
unless-opening None s ss ts h = h
unless-opening (Some e) s ss ts h = refl

children_by-opening : (p : Program) (s : Tracked) (gs : List Goal) → children_by p (opening s) gs ≡ children_by p s gs
children_by-opening p s [] = refl
children_by-opening p s (call g ∷ rest) = unless-opening (fault_of g) s (call_children p (opening s) g rest (builtin g)) (call_children p s g rest (builtin g)) (call-opening p s g rest (builtin g))
children_by-opening p s (fork cs ts f now ∷ rest) = refl

pub children-opening : (p : Program) (s : Tracked) → children p (opening s) ≡ children p s
children-opening p s = children_by-opening p s (opened (opened s.goals)) ∙ ap (children_by p s) (opened-twice s.goals)

pub no_group : (f : Fork) (gs : List Goal) → ComesFirst f (opened gs) → ⊥
no_group f [] h = h
no_group f (call t ∷ gs) h = h
no_group f (fork cs none g now ∷ gs) h = no_group f gs h
no_group f (fork cs (more t ts) g now ∷ gs) h = h

pub from_opening : (p : Program) (s v : Tracked) (d : ℕ) (f : Fork) → v ≡ opening s → Forks p v d f → Forks p s d f
from_opening p s v d f e (here l c) = absurd (no_group f s.goals (subst (λ x. ComesFirst f x.goals) e c))
from_opening p s v d f e (below t l i k) = below t (subst (λ x. x.steps < d) e l) (subst (IsOneOf t) (ap (children p) e ∙ children-opening p s) i) k
from_opening p s v d f e (beside a g n k i u m) = beside a g n (from_opening p s v d a e k) i u m

-- ---- what has become of checks is no matter

pub same-moved : (u : ℕ → Tree) (g h : Goal) → SameText g h → SameText (moved u g) (moved u h)
same-moved u (call t) (call s) e = ap (instance u) e
same-moved u (call t) (fork cs ts f now) e = absurd e
same-moved u (fork cs ts f now) (call t) e = absurd e
same-moved u (fork cs ts f now) (fork ds us g later) e = (e.0, e.1, ap (λ k. λ x. instance u (k x)) e.2)

pub same-all : (u : ℕ → Tree) (gs hs : List Goal) → AllZip SameText gs hs → AllZip SameText (map (moved u) gs) (map (moved u) hs)
same-all u [] [] e = tt
same-all u (g ∷ gs) (h ∷ hs) e = (same-moved u g h e.0, same-all u gs hs e.1)
same-all u [] (_ ∷ _) e = absurd e
same-all u (_ ∷ _) [] e = absurd e

pub same-append : (gs gs' hs hs' : List Goal) → AllZip SameText gs gs' → AllZip SameText hs hs' → AllZip SameText (gs ++ hs) (gs' ++ hs')
same-append [] [] hs hs' e k = k
same-append (g ∷ gs) (h ∷ gs') hs hs' e k = (e.0, same-append gs gs' hs hs' e.1 k)
same-append [] (_ ∷ _) hs hs' e k = absurd e
same-append (_ ∷ _) [] hs hs' e k = absurd e

pub same-itself : (gs : List Goal) → AllZip SameText gs gs
same-itself [] = tt
same-itself (call t ∷ gs) = (refl, same-itself gs)
same-itself (fork cs ts f now ∷ gs) = ((refl, refl, refl), same-itself gs)

pub same-calls : (f g : ℕ → Tree) (ts us : Trees) → f ≡ g → ts ≡ us → AllZip SameText (goal_calls f ts) (goal_calls g us)
same-calls f g ts us e k = subst (λ h. AllZip SameText (goal_calls f ts) (goal_calls h us)) e (subst (λ vs. AllZip SameText (goal_calls f ts) (goal_calls f vs)) k (same-itself (goal_calls f ts)))

pub same-opened : (gs hs : List Goal) → AllZip SameText gs hs → AllZip SameText (opened gs) (opened hs)
same-opened [] [] e = tt
same-opened (call t ∷ gs) (call u ∷ hs) e = e
same-opened (call t ∷ gs) (fork cs ts f now ∷ hs) e = absurd e.0
same-opened (fork cs ts f now ∷ gs) (call u ∷ hs) e = absurd e.0
same-opened (fork cs none f now ∷ gs) (fork ds none g later ∷ hs) e = same-opened gs hs e.1
same-opened (fork cs none f now ∷ gs) (fork ds (more u us) g later ∷ hs) e = absurd (no_trees e.0.1)
  where
    no_trees : none ≡ more u us → ⊥
    no_trees k = absurd (cc)
same-opened (fork cs (more t ts) f now ∷ gs) (fork ds none g later ∷ hs) e = absurd (no_trees e.0.1)
  where
    no_trees : more t ts ≡ none → ⊥
    no_trees k = absurd (cc)
same-opened (fork cs (more t ts) f now ∷ gs) (fork ds (more u us) g later ∷ hs) e =
    let k : t ≡ u = heads e.0.1 in
    let l : ts ≡ us = tails e.0.1 in
    (ap₂ (λ h x. instance h x) e.0.2 k, same-append (goal_calls f ts) (goal_calls g us) gs hs (same-calls f g ts us e.0.2 l) e.1)
  where
    heads : more t ts ≡ more u us → t ≡ u
    heads k = cc

    tails : more t ts ≡ more u us → ts ≡ us
    tails k = cc
same-opened [] (_ ∷ _) e = absurd e
same-opened (_ ∷ _) [] e = absurd e

-- a child of the state with other checks is one of the state, with other checks
abbrev Beside : List Tracked → Tracked → Type 0
Beside ss x = (t : Tracked) × IsOneOf t ss × ((hs : List Goal) × (x ≡ with_goals hs t) × AllZip SameText t.goals hs)

beside-left : (ss ts : List Tracked) (x : Tracked) → Beside ss x → Beside (ss ++ ts) x
beside-left ss ts x (t, i, r) = (t, left ss i, r)
  where
    left : (ss : List Tracked) → IsOneOf t ss → IsOneOf t (ss ++ ts)
    left [] i = absurd i
    left (s ∷ ss) (inl e) = inl e
    left (s ∷ ss) (inr i) = inr (left ss i)

beside-right : (ss ts : List Tracked) (x : Tracked) → Beside ts x → Beside (ss ++ ts) x
beside-right ss ts x (t, i, r) = (t, right ss, r)
  where
    right : (ss : List Tracked) → IsOneOf t (ss ++ ts)
    right [] = i
    right (s ∷ ss) = inr (right ss)

pub one_of : (xs ys : List Tracked) (x : Tracked) → IsOneOf x (xs ++ ys) → IsOneOf x xs ⊎ IsOneOf x ys
one_of [] ys x i = inr i
one_of (z ∷ xs) ys x (inl e) = inl (inl e)
one_of (z ∷ xs) ys x (inr i) = elim (one_of xs ys x i) [ inl j ↦ inl (inr j) | inr j ↦ inr j ]

child-beside : (s : Tracked) (gs : List Goal) (rest rest' : List Goal) (o : Option Subst) (body : List Goal) (n : ℕ) (x : Tracked) → AllZip SameText rest rest'
    → IsOneOf x (child_if (with_goals gs s) rest' o body n) → Beside (child_if s rest o body n) x
child-beside s gs rest rest' None body n x e i = absurd i
child-beside s gs rest rest' (Some b) body n x e (inl q) = (
  record { goals = map (moved (value b)) (body ++ rest); tuple = instance_all (value b) s.tuple; next = s.next + n; steps = s.steps + 1; fault = None },
  inl refl,
  (map (moved (value b)) (body ++ rest'), q, same-all (value b) (body ++ rest) (body ++ rest') (same-append body body rest rest' (same-itself body) e)),
)
child-beside s gs rest rest' (Some b) body n x e (inr i) = absurd i

clauses-beside : (p : Program) (s : Tracked) (gs : List Goal) (g : Tree) (rest rest' : List Goal) (x : Tracked) → AllZip SameText rest rest'
    → IsOneOf x (flat_map (clause_children (with_goals gs s) g rest') p) → Beside (flat_map (clause_children s g rest) p) x
clauses-beside [] s gs g rest rest' x e i = absurd i
clauses-beside (c ∷ cs) s gs g rest rest' x e i =
    elim (one_of (clause_children (with_goals gs s) g rest' c) (flat_map (clause_children (with_goals gs s) g rest') cs) x i) [
      | inl j ↦ beside-left (clause_children s g rest c) (flat_map (clause_children s g rest) cs) x
          (child-beside s gs rest rest' (mgu g (instance (shift s.next) c.head)) (map (placed (renamed c.vars s.next)) c.body) (c.vars + 1) x e j)
      | inr j ↦ beside-right (clause_children s g rest c) (flat_map (clause_children s g rest) cs) x (clauses-beside cs s gs g rest rest' x e j)
    ]

call-beside : (p : Program) (s : Tracked) (gs : List Goal) (g : Tree) (rest rest' : List Goal) (o : Option (Option Subst)) (x : Tracked) → AllZip SameText rest rest'
    → IsOneOf x (call_children p (with_goals gs s) g rest' o) → Beside (call_children p s g rest o) x
call-beside p s gs g rest rest' None x e i = clauses-beside p s gs g rest rest' x e i
call-beside p s gs g rest rest' (Some a) x e i = child-beside s gs rest rest' a [] 0 x e i

unless-beside : (e : Option Fault) (s : Tracked) (gs : List Goal) (ss ts : List Tracked) (x : Tracked) → (IsOneOf x ts → Beside ss x) → IsOneOf x (children_unless e (with_goals gs s) ts) → Beside (children_unless e s ss) x
unless-beside None s gs ss ts x h i = h i
unless-beside (Some e) s gs ss ts x h (inl q) = (faulted_child e s, inl refl, ([], q, tt))
unless-beside (Some e) s gs ss ts x h (inr i) = absurd i

children-beside : (p : Program) (s : Tracked) (gs : List Goal) (xs bs : List Goal) (x : Tracked) → AllZip SameText xs bs → IsOneOf x (children_by p (with_goals gs s) bs) → Beside (children_by p s xs) x
children-beside p s gs [] [] x e i = absurd i
children-beside p s gs (call t ∷ xs) (call u ∷ bs) x e i =
    unless-beside (fault_of t) s gs (call_children p s t xs (builtin t)) (call_children p (with_goals gs s) t bs (builtin t)) x (call-beside p s gs t xs bs (builtin t) x e.1)
    (subst (λ v. IsOneOf x (children_unless (fault_of v) (with_goals gs s) (call_children p (with_goals gs s) v bs (builtin v)))) (sym e.0) i)
children-beside p s gs (call t ∷ xs) (fork ds us g later ∷ bs) x e i = absurd e.0
children-beside p s gs (fork cs ts f now ∷ xs) (call u ∷ bs) x e i = absurd e.0
children-beside p s gs (fork cs ts f now ∷ xs) (fork ds us g later ∷ bs) x e i = absurd i
children-beside p s gs [] (_ ∷ _) x e i = absurd e
children-beside p s gs (_ ∷ _) [] x e i = absurd e

first-same : (f : Fork) (gs hs : List Goal) → AllZip SameText gs hs → ComesFirst f hs → ComesFirst f gs
first-same f [] [] e c = c
first-same f (call t ∷ gs) (call u ∷ hs) e c = c
first-same f (call t ∷ gs) (fork ds us g later ∷ hs) e c = absurd e.0
first-same f (fork cs ts k now ∷ gs) (call u ∷ hs) e c = absurd e.0
first-same f (fork cs ts k now ∷ gs) (fork ds us g later ∷ hs) e c =
    let a : cs ≡ ds = e.0.0 in
    let b : ts ≡ us = e.0.1 in
    let d : k ≡ g = e.0.2 in
    c ∙ (λ i. record { checks = sym a i; goals = sym b i; own = sym d i })
first-same f [] (_ ∷ _) e c = absurd e
first-same f (_ ∷ _) [] e c = absurd e

pub from_same : (p : Program) (s v : Tracked) (gs : List Goal) (d : ℕ) (f : Fork) → v ≡ with_goals gs s → AllZip SameText s.goals gs → Forks p v d f → Forks p s d f
from_same p s v gs d f e z (here l c) = here (subst (λ x. x.steps ≤ d) e l) (first-same f s.goals gs z (subst (λ x. ComesFirst f x.goals) e c))
from_same p s v gs d f e z (below t l i k) =
    let r = children-beside p s gs (opened s.goals) (opened gs) t (same-opened s.goals gs z) (subst (λ x. IsOneOf t (children p x)) e i) in
    below r.0 (subst (λ x. x.steps < d) e l) r.1 (from_same p r.0 t r.2.0 d f r.2.1 r.2.2 k)
from_same p s v gs d f e z (beside a g n k i u m) = beside a g n (from_same p s v gs d a e z k) i u m

pub from_safe : (p : Program) (o s : Tracked) → IsSafe p o → IsFrom p o s → IsSafe p s
from_safe p o s h itself = h
from_safe p o s h (calls {s = r} t k i) = safe.children p r t (from_safe p o r h k) i
from_safe p o s h (opens {s = r} k) = λ d f j. from_safe p o r h k d f (from_opening p r (opening r) d f refl j)
from_safe p o s h (reads {s = r} gs k z) = λ d f j. from_safe p o r h k d f (from_same p r (with_goals gs r) gs d f refl z j)

pub kept : KeptLaw
kept = record { children = kept_children; safe = from_safe }
