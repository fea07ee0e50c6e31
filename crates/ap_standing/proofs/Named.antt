-- Goals that are no marks, in the states that a search comes to.
use Rattle.std.proofs.Common.{◌≡◌, ℕ, ◌+◌, true, ◌&&◌, IsTrue, nat_le, List, [], ◌∷◌, ◌++◌, map, Option, Some, None, refl}
use Rattle.std.specs.List.{AllByRecursion, flat_map, list_all}
use Rattle.std.proofs.lemmas.Bool.{false≢true, and_parts}
use Rattle.std.proofs.lemmas.List.Elements.{All-head, All-tail}
use Rattle.ap_term.specs.Tree.{Tree, Trees, var, int, atom, node, none, more, count_trees}
use Rattle.ap_term.specs.Substitution.{instance, Subst, value, shift}
use Rattle.ap_term.specs.Unification.{mgu}
use Rattle.ap_term.specs.Builtins.{builtin}
use Rattle.ap_term.specs.Goals as goals
use Rattle.ap_term.specs.Goals.{Clause, Program}
use Rattle.ap_term.specs.WellFormed.{callable, all_callable, numbered, numbered_all, numbered_check, well_formed_part, IsClause, IsProgram}
use Rattle.ap_term.proofs.Zips.{AllByRecursion-append, AllByRecursion-map}
use Rattle.ap_tracked.specs.Tracked.{Goal, call, fork, moved, renamed, placed, calls, opened, Tracked, child_if, clause_children, call_children, children_by, children}
use Rattle.ap_instr.specs.Runs.{applied}
use Rattle.ap_standing.specs.Holds.{IsNamed, AllNamed, IsNamedGoal, AreNamed}

named-instance : (f : ℕ → Tree) (t : Tree) → IsNamed t → IsNamed (instance f t)
named-instance f (var x) h = absurd h
named-instance f (int z) h = absurd h
named-instance f (atom a) h = tt
named-instance f (node a ts) h = tt

named-callable : (t : Tree) → callable t ≡ true → IsNamed t
named-callable (var x) h = absurd (false≢true h)
named-callable (int z) h = absurd (false≢true h)
named-callable (atom a) h = tt
named-callable (node a ts) h = tt

all-callable : (ts : Trees) → all_callable ts ≡ true → AllNamed ts
all-callable none h = tt
all-callable (more t ts) h = let r = and_parts (callable t) (all_callable ts) h in (named-callable t r.0, all-callable ts r.1)

pub named-applied : (p : ℕ) (ts : Trees) → IsNamed (applied p ts)
named-applied p none = tt
named-applied p (more t ts) = tt

pub named-moved : (u : ℕ → Tree) (g : Goal) → IsNamedGoal g → IsNamedGoal (moved u g)
named-moved u (call t) h = named-instance u t h
named-moved u (fork cs ts own now) h = h

named-calls : (f : ℕ → Tree) (ts : Trees) (gs : List Goal) → AllNamed ts → AreNamed gs → AreNamed (calls f ts ++ gs)
named-calls f none gs h k = k
named-calls f (more t ts) gs h k = (named-instance f t h.0, named-calls f ts gs h.1 k)

pub named-opened : (gs : List Goal) → AreNamed gs → AreNamed (opened gs)
named-opened [] h = tt
named-opened (call t ∷ gs) h = h
named-opened (fork cs none own now ∷ gs) h = named-opened gs h.1
named-opened (fork cs (more t ts) own now ∷ gs) h = (named-instance own t h.0.0, named-calls own ts gs h.0.1 h.1)

pub named-placed : (f : ℕ → Tree) (n : ℕ) (ps : List goals.Part) → IsTrue (list_all (well_formed_part n) ps) → AreNamed (map (placed f) ps)
named-placed f n [] h = tt
named-placed f n (goals.call t ∷ ps) h =
    let r = and_parts (callable t && numbered n t) (list_all (well_formed_part n) ps) h in (named-instance f t (named-callable t (and_parts (callable t) (numbered n t) r.0).0), named-placed f n ps r.1)
named-placed f n (goals.group cs ts ∷ ps) h =
    let r = and_parts (well_formed_part n (goals.group cs ts)) (list_all (well_formed_part n) ps) h in
    let a = and_parts (list_all (numbered_check n) cs) (nat_le 1 (count_trees ts) && (all_callable ts && numbered_all n ts)) r.0 in
    let b = and_parts (nat_le 1 (count_trees ts)) (all_callable ts && numbered_all n ts) a.1 in
    (all-callable ts (and_parts (all_callable ts) (numbered_all n ts) b.1).0, named-placed f n ps r.1)

-- ---- children

abbrev IsGood : Tracked → Type 0
IsGood t = AreNamed t.goals × (t.fault ≡ None)

named-child : (s : Tracked) (rest : List Goal) (o : Option Subst) (body : List Goal) (takes : ℕ) → AreNamed body → AreNamed rest → AllByRecursion IsGood (child_if s rest o body takes)
named-child s rest None body takes h k = tt
named-child s rest (Some b) body takes h k =
    ((AllByRecursion-map IsNamedGoal IsNamedGoal (moved (value b)) (named-moved (value b)) (body ++ rest) (AllByRecursion-append IsNamedGoal body rest h k), refl), tt)

named-clauses : (s : Tracked) (g : Tree) (rest : List Goal) (p : Program) → IsProgram p → AreNamed rest → AllByRecursion IsGood (flat_map (clause_children s g rest) p)
named-clauses s g rest [] good k = tt
named-clauses s g rest (c ∷ p) good k =
    let is : IsClause c = All-head IsClause c p good in
    AllByRecursion-append IsGood (clause_children s g rest c) (flat_map (clause_children s g rest) p)
    (named-child s rest (mgu g (instance (shift s.next) c.head)) (map (placed (renamed c.vars s.next)) c.body) (c.vars + 1) (named-placed (renamed c.vars s.next) c.vars c.body is.body) k)
    (named-clauses s g rest p (All-tail IsClause c p good) k)

named-call : (p : Program) → IsProgram p → (s : Tracked) (g : Tree) (rest : List Goal) (o : Option (Option Subst)) → AreNamed rest → AllByRecursion IsGood (call_children p s g rest o)
named-call p good s g rest None k = named-clauses s g rest p good k
named-call p good s g rest (Some a) k = named-child s rest a [] 0 tt k

named-by : (p : Program) → IsProgram p → (s : Tracked) (gs : List Goal) → AreNamed gs → AllByRecursion IsGood (children_by p s gs)
named-by p good s [] h = tt
named-by p good s (call g ∷ rest) h = named-call p good s g rest (builtin g) h.1
named-by p good s (fork cs ts own now ∷ rest) h = tt

-- so are those of its children, none of which has met a fault
pub named-children : (p : Program) → IsProgram p → (s : Tracked) → AreNamed s.goals → AllByRecursion (λ t. AreNamed t.goals × (t.fault ≡ None)) (children p s)
named-children p good s h = named-by p good s (opened s.goals) (named-opened s.goals h)
