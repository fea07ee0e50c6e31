-- Without what a state keeps beside its groups the search is the search.
use Rattle.std.proofs.Common.{◌≡◌, ℕ, ◌+◌, inl, inr, true, ◌&&◌, if◌then◌else◌, IsTrue, nat_le, List, [], ◌∷◌, ◌++◌, map, Option, Some, None, refl, ap, ap₂, sym, ◌∙◌}
use Rattle.std.specs.List.{flat_map, list_all}
use Rattle.std.proofs.lemmas.Bool.{false≢true, and_parts, or_cases}
use Rattle.std.proofs.lemmas.List.Elements.{All-head, All-tail}
use Rattle.ap_term.specs.declared.clauses.Check.{Check}
use Rattle.ap_term.specs.declared.clauses.Check.TheVariants.{Ground, Indep}
use Rattle.ap_term.specs.Tree.{Tree, Trees, var, int, atom, node, none, more, count_trees}
use Rattle.ap_term.specs.Vars.{occurs, occurs_all, vars}
use Rattle.ap_term.specs.Substitution.{instance, instance_all, Subst, value, shift}
use Rattle.ap_term.specs.Unification.{mgu}
use Rattle.ap_term.specs.Builtins.{builtin}
use Rattle.ap_term.specs.WellFormed.{in_range, callable, all_callable, numbered, numbered_all, numbered_check, well_formed_part, IsClause, IsProgram}
use Rattle.ap_term.specs.Goals as goals
use Rattle.ap_term.specs.Goals.{Clause, Program, instance_check, instance_part}
use Rattle.ap_term.specs.Search as search
use Rattle.ap_term.specs.Search.{State, Way}
use Rattle.ap_term.proofs.Copies.{instance_all_twice}
use Rattle.ap_term.proofs.Solutions.{instance_agree}
use Rattle.ap_term.proofs.Solutions.{same_var}
use Rattle.ap_term.specs.declared.faults.Fault.{Fault}
use Rattle.ap_term.specs.Faults.{fault_of}
use Rattle.ap_tracked.specs.Tracked.{Goal, call, fork, untracked_goal, moved, renamed, placed, calls, opened, Tracked, untracked, child_if, clause_children, call_children, children_unless, children_by}
use Rattle.ap_tracked.specs.Laws.{TrackedLaw}
use Rattle.std.proofs.lemmas.List.{map-append}

-- ---- variables of what is numbered

mutual
  pub numbered-range : (n : ℕ) (t : Tree) → IsTrue (numbered n t) → (x : ℕ) → occurs x t ≡ true → in_range n x ≡ true
  numbered-range n (var y) h x o = ap (in_range n) (same_var x y o) ∙ h
  numbered-range n (int z) h x o = absurd (false≢true o)
  numbered-range n (atom a) h x o = absurd (false≢true o)
  numbered-range n (node a ts) h x o = numbered_all-range n ts h x o

  numbered_all-range : (n : ℕ) (ts : Trees) → IsTrue (numbered_all n ts) → (x : ℕ) → occurs_all x ts ≡ true → in_range n x ≡ true
  numbered_all-range n none h x o = absurd (false≢true o)
  numbered_all-range n (more t ts) h x o =
      let r = and_parts (numbered n t) (numbered_all n ts) h in
      elim (or_cases (occurs x t) (occurs_all x ts) o) [ inl i ↦ numbered-range n t r.0 x i | inr i ↦ numbered_all-range n ts r.1 x i ]

-- ---- goals

untracked_calls : (f : ℕ → Tree) (ts : Trees) → map untracked_goal (calls f ts) ≡ goals.calls (instance_all f ts)
untracked_calls f none = refl
untracked_calls f (more t ts) = ap (λ l. goals.call (instance f t) ∷ l) (untracked_calls f ts)

pub untracked_opened : (gs : List Goal) → map untracked_goal (opened gs) ≡ goals.opened (map untracked_goal gs)
untracked_opened [] = refl
untracked_opened (call t ∷ gs) = refl
untracked_opened (fork cs none f now ∷ gs) = untracked_opened gs
untracked_opened (fork cs (more t ts) f now ∷ gs) =
    ap (λ l. goals.call (instance f t) ∷ l) (map-append untracked_goal (calls f ts) gs ∙ ap (λ l. l ++ map untracked_goal gs) (untracked_calls f ts))

untracked_moved : (u : ℕ → Tree) (g : Goal) → untracked_goal (moved u g) ≡ instance_part u (untracked_goal g)
untracked_moved u (call t) = refl
untracked_moved u (fork cs ts f now) = ap (goals.group (flat_map (instance_check u) now)) (sym (instance_all_twice f u ts))

pub all_moved : (u : ℕ → Tree) (gs : List Goal) → map untracked_goal (map (moved u) gs) ≡ map (instance_part u) (map untracked_goal gs)
all_moved u [] = refl
all_moved u (g ∷ gs) = ap₂ (λ a l. a ∷ l) (untracked_moved u g) (all_moved u gs)

-- ---- a clause's parts

moved_up : (n next x : ℕ) → in_range n x ≡ true → renamed n next x ≡ shift next x
moved_up n next x h = ap (λ b. if b then var (x + next) else atom 0) h

goal_up : (n next : ℕ) (t : Tree) → IsTrue (numbered n t) → instance (renamed n next) t ≡ instance (shift next) t
goal_up n next t h = instance_agree (renamed n next) (shift next) t (λ x o. moved_up n next x (numbered-range n t h x o))

goals_up : (n next : ℕ) (ts : Trees) → IsTrue (numbered_all n ts) → instance_all (renamed n next) ts ≡ instance_all (shift next) ts
goals_up n next none h = refl
goals_up n next (more t ts) h = let r = and_parts (numbered n t) (numbered_all n ts) h in ap₂ more (goal_up n next t r.0) (goals_up n next ts r.1)

check_up : (n next : ℕ) (c : Check) → IsTrue (numbered_check n c) → instance_check (renamed n next) c ≡ instance_check (shift next) c
check_up n next (Ground x) h = ap (λ t. map Ground (vars t)) (moved_up n next x h)
check_up n next (Indep x y) h =
    let r = and_parts (in_range n x) (in_range n y) h in
    ap₂ (λ t u. flat_map (λ v. map (Indep v) (vars u)) (vars t)) (moved_up n next x r.0) (moved_up n next y r.1)

checks_up : (n next : ℕ) (cs : List Check) → IsTrue (list_all (numbered_check n) cs) → flat_map (instance_check (renamed n next)) cs ≡ flat_map (instance_check (shift next)) cs
checks_up n next [] h = refl
checks_up n next (c ∷ cs) h =
    let r = and_parts (numbered_check n c) (list_all (numbered_check n) cs) h in ap₂ (λ a b. a ++ b) (check_up n next c r.0) (checks_up n next cs r.1)

part_up : (n next : ℕ) (p : goals.Part) → IsTrue (well_formed_part n p) → untracked_goal (placed (renamed n next) p) ≡ instance_part (shift next) p
part_up n next (goals.call t) h = ap goals.call (goal_up n next t (and_parts (callable t) (numbered n t) h).1)
part_up n next (goals.group cs ts) h =
    let a = and_parts (list_all (numbered_check n) cs) (nat_le 1 (count_trees ts) && (all_callable ts && numbered_all n ts)) h in
    let b = and_parts (nat_le 1 (count_trees ts)) (all_callable ts && numbered_all n ts) a.1 in
    ap₂ goals.group (checks_up n next cs a.0) (goals_up n next ts (and_parts (all_callable ts) (numbered_all n ts) b.1).1)

pub body_up : (n next : ℕ) (ps : List goals.Part) → IsTrue (list_all (well_formed_part n) ps) → map untracked_goal (map (placed (renamed n next)) ps) ≡ map (instance_part (shift next)) ps
body_up n next [] h = refl
body_up n next (p ∷ ps) h = let r = and_parts (well_formed_part n p) (list_all (well_formed_part n) ps) h in ap₂ (λ a l. a ∷ l) (part_up n next p r.0) (body_up n next ps r.1)

-- ---- children

same_child : (s : Tracked) (rest : List Goal) (o : Option Subst) (body : List Goal) (parts : List goals.Part) (takes : ℕ) → map untracked_goal body ≡ parts
    → map untracked (child_if s rest o body takes) ≡ map (search.child (untracked s) (map untracked_goal rest)) (search.way_if o parts takes)
same_child s rest None body parts takes e = refl
same_child s rest (Some b) body parts takes e =
    ap (λ l. record { goals = l; tuple = instance_all (value b) s.tuple; next = s.next + takes; steps = s.steps + 1; fault = None } ∷ [])
    (all_moved (value b) (body ++ rest) ∙ ap (map (instance_part (value b))) (map-append untracked_goal body rest ∙ ap (λ l. l ++ map untracked_goal rest) e))

by_clauses : (s : Tracked) (g : Tree) (rest : List Goal) (p : Program) → IsProgram p
    → map untracked (flat_map (clause_children s g rest) p) ≡ map (search.child (untracked s) (map untracked_goal rest)) (flat_map (search.clause_way s.next g) p)
by_clauses s g rest [] w = refl
by_clauses s g rest (c ∷ cs) w =
    map-append untracked (clause_children s g rest c) (flat_map (clause_children s g rest) cs)
    ∙ ap₂ (λ a b. a ++ b)
    (same_child s rest (mgu g (instance (shift s.next) c.head)) (map (placed (renamed c.vars s.next)) c.body) (map (instance_part (shift s.next)) c.body) (c.vars + 1)
    (body_up c.vars s.next c.body (All-head IsClause c cs w).body))
    (by_clauses s g rest cs (All-tail IsClause c cs w))
    ∙ sym (map-append (search.child (untracked s) (map untracked_goal rest)) (search.clause_way s.next g c) (flat_map (search.clause_way s.next g) cs))

by_call : (p : Program) (s : Tracked) (g : Tree) (rest : List Goal) (o : Option (Option Subst)) → IsProgram p
    → map untracked (call_children p s g rest o) ≡ map (search.child (untracked s) (map untracked_goal rest)) (search.ways_by p s.next g o)
by_call p s g rest None w = by_clauses s g rest p w
by_call p s g rest (Some answer) w = same_child s rest answer [] [] 0 refl

unless_fault : (e : Option Fault) (s : Tracked) (rest : List Goal) (ss : List Tracked) (ws : List Way) → map untracked ss ≡ map (search.child (untracked s) (map untracked_goal rest)) ws
    → map untracked (children_unless e s ss) ≡ map (search.child (untracked s) (map untracked_goal rest)) (search.ways_unless e ws)
unless_fault None s rest ss ws h = h
unless_fault (Some e) s rest ss ws h = refl

by_first : (p : Program) (s : Tracked) (gs : List Goal) → IsProgram p → map untracked (children_by p s gs) ≡ search.children_by p (untracked s) (map untracked_goal gs)
by_first p s [] w = refl
by_first p s (call g ∷ rest) w = unless_fault (fault_of g) s rest (call_children p s g rest (builtin g)) (search.ways_by p s.next g (builtin g)) (by_call p s g rest (builtin g) w)
by_first p s (fork cs ts f now ∷ rest) w = refl

pub children-same : TrackedLaw
children-same p s w = by_first p s (opened s.goals) w ∙ ap (search.children_by p (untracked s)) (untracked_opened s.goals)
