-- Children of a state by some clauses of a program.
use Rattle.std.proofs.Common.{◌≡◌, ℕ, ◌==◌, ◌&&◌, Bool, true, false, cond, List, [], ◌∷◌, ◌++◌, None, refl, ap, ap₂, sym, ◌∙◌, subst, arith}
use Rattle.std.specs.List.{AllByRecursion, flat_map}
use Rattle.std.proofs.lemmas.Bool.{false≢true, and_parts}
use Rattle.std.proofs.lemmas.Bool.Decides.{Decides-eqb}
use Rattle.std.proofs.lemmas.List.{append-nil}
use Rattle.std.proofs.lemmas.List.Elements.{All-head, All-tail}
use Rattle.ap_tracked.specs.Sets.{IsSetOf, Resolved}
use Rattle.ap_term.proofs.TreeLists.{count_trees-instance_all}
use Rattle.ap_term.specs.Tree.{Tree, Trees, var, int, atom, node, none, more, count_trees}
use Rattle.ap_term.specs.Substitution.{instance, instance_all}
use Rattle.ap_term.specs.Goals.{Clause, Program}
use Rattle.ap_term.specs.WellFormed.{callable, numbered, IsClause, IsProgram}
use Rattle.ap_term.specs.Builtins.{builtin}
use Rattle.ap_tracked.specs.Tracked.{Goal, call, opened, Tracked, clause_children, call_children, children_by, children}
use Rattle.ap_tracked.specs.Marks.{marked}
use Rattle.ap_tracked.specs.Instances.{Inst}
use Rattle.ap_graft.specs.Variables.{Below, IsTrackedBelow}
use Rattle.ap_graft.proofs.Variables.{over-children}
use Rattle.ap_instr.specs.declared.compiled.Predicate.{Predicate}
use Rattle.ap_instr.specs.Runs.{applied}
use Rattle.ap_instr.specs.StandsFor.{is_head_of, clauses_of}
use Rattle.ap_resolution.proofs.Resolution.{resolution}
use Rattle.ap_resolution.proofs.Variants.{instances}
use Rattle.ap_steps.specs.Standing.{IsHead}
use Rattle.ap_standing.specs.Holds.{AreNamed, IsPlain}
use Rattle.ap_standing.proofs.Named.{named-children}

module _ (s : Tracked) (g : Tree) (rest : List Goal) (first : s.goals ≡ call g ∷ rest) (ordinary : builtin g ≡ None) where
  pub children-clauses : (p : Program) → children p s ≡ flat_map (clause_children s g rest) p
  children-clauses p = ap (λ gs. children_by p s (opened gs)) first ∙ ap (call_children p s g rest) ordinary

  pub children-one : (c : Clause) → children (c ∷ []) s ≡ clause_children s g rest c
  children-one c = children-clauses (c ∷ []) ∙ append-nil (clause_children s g rest c)

  pub children-split : (c : Clause) (cs : Program) → children (c ∷ cs) s ≡ children (c ∷ []) s ++ children cs s
  children-split c cs = children-clauses (c ∷ cs) ∙ ap₂ ◌++◌ (sym (children-one c)) (sym (children-clauses cs))

  pub children-none : children [] s ≡ []
  children-none = children-clauses []

  -- a clause's child has the instances that come by an instance of the clause
  pub resolves : (c : Clause) → IsTrackedBelow s → IsClause c → IsSetOf (Resolved (Inst s) c) (children (c ∷ []) s)
  resolves c below good = subst (IsSetOf (Resolved (Inst s) c)) (sym (children-one c)) (resolution s g rest c below good first)

pub plain-children : (p : Program) → IsProgram p → (s : Tracked) → IsPlain s → AllByRecursion IsPlain (children p s)
plain-children p good s plain =
    both (children p s) (over-children Below 0 (λ n m x l q. omega (arith, l, q)) (λ n m x l k q. q) p good s plain.0) (named-children p good s plain.1)
  where
    both : (ss : List Tracked) → AllByRecursion IsTrackedBelow ss → AllByRecursion (λ t. AreNamed t.goals × (t.fault ≡ None)) ss → AllByRecursion IsPlain ss
    both [] h k = tt
    both (t ∷ ts) h k = ((h.0, k.0.0, k.0.1), both ts h.1 k.1)

-- where there are no instances there is no state
pub no-state : (I : Trees → Trees → Type 0) (ss : List Tracked) → IsSetOf I ss → ((gs t : Trees) → I gs t → ⊥) → ss ≡ []
no-state I [] h empty = refl
no-state I (s ∷ ss) h empty = absurd (empty (marked s.goals) s.tuple ((h.0 (marked s.goals) s.tuple).1 (instances s)))

-- ---- clauses of other predicates

both_tests : (a b c d : ℕ) → a ≡ b → c ≡ d → ((a == b) && (c == d)) ≡ true
both_tests a b c d e f = ap₂ ◌&&◌ ((Decides-eqb a b).1 e) ((Decides-eqb c d).1 f)

-- a head of which an instance is the predicate's name on its arguments
is_head_of-instance : (q : Predicate) (h : ℕ → Tree) (t : Tree) (ts : Trees) → callable t ≡ true → instance h t ≡ applied q.name ts → count_trees ts ≡ q.arity → is_head_of q t ≡ true
is_head_of-instance q h (var x) ts c e n = absurd (false≢true c)
is_head_of-instance q h (int z) ts c e n = absurd (false≢true c)
is_head_of-instance q h (atom a) none c e n = both_tests a q.name q.arity 0 (cc) (sym n)
is_head_of-instance q h (atom a) (more t ts) c e n = absurd (let z : ⊥ = cc in z)
is_head_of-instance q h (node a us) none c e n = absurd (let z : ⊥ = cc in z)
is_head_of-instance q h (node a us) (more t ts) c e n =
    let f : instance_all h us ≡ more t ts = cc in
    both_tests a q.name (count_trees us) q.arity (cc) (sym (count_trees-instance_all h us) ∙ ap count_trees f ∙ n)

-- a head of the predicate
pub is_head : (q : Predicate) (t : Tree) → callable t ≡ true → is_head_of q t ≡ true → IsHead t q.name q.arity
is_head q (var x) c e = absurd (false≢true e)
is_head q (int z) c e = absurd (false≢true e)
is_head q (atom a) c e =
    let k = and_parts (a == q.name) (q.arity == 0) e in
    ((Decides-eqb a q.name).0 k.0, (Decides-eqb q.arity 0).0 k.1)
is_head q (node a none) c e = absurd (false≢true c)
is_head q (node a (more t ts)) c e =
    let k = and_parts (a == q.name) (count_trees (more t ts) == q.arity) e in
    ((Decides-eqb a q.name).0 k.0, sym ((Decides-eqb (count_trees (more t ts)) q.arity).0 k.1))

-- a state whose first goal is a call of the predicate
module _ (q : Predicate) (s : Tracked) (g : Tree) (rest : List Goal) (first : s.goals ≡ call g ∷ rest) (ordinary : builtin g ≡ None) (below : IsTrackedBelow s)
    (calls : (h : Tree) (gs us : Trees) → Inst s (more h gs) us → (vs : Trees) × (count_trees vs ≡ q.arity) × (h ≡ applied q.name vs)) where
  others : (c : Clause) → IsClause c → is_head_of q c.head ≡ false → children (c ∷ []) s ≡ []
  others c good other =
      no-state (Resolved (Inst s) c) (children (c ∷ []) s) (resolves s g rest first ordinary c below good)
      (λ gs t r.
      let k = calls (instance r.0 c.head) r.1 t r.2 in
      false≢true (sym other ∙ is_head_of-instance q r.0 c.head k.0 (callable-head c good) k.2 k.1))
    where
      callable-head : (c : Clause) → IsClause c → callable c.head ≡ true
      callable-head c good = (and_parts (callable c.head) (numbered c.vars c.head) good.head).0

  pub children-own : (p : Program) → IsProgram p → children p s ≡ children (clauses_of q p) s
  children-own [] good = refl
  children-own (c ∷ cs) good = go (is_head_of q c.head) refl (children-own cs (All-tail IsClause c cs good))
    where
      go : (b : Bool) → is_head_of q c.head ≡ b → children cs s ≡ children (clauses_of q cs) s → children (c ∷ cs) s ≡ children (cond b (c ∷ clauses_of q cs) (clauses_of q cs)) s
      go true e ih = children-split s g rest first ordinary c cs ∙ ap (λ ss. children (c ∷ []) s ++ ss) ih ∙ sym (children-split s g rest first ordinary c (clauses_of q cs))
      go false e ih = children-split s g rest first ordinary c cs ∙ ap (λ ss. ss ++ children cs s) (others c (All-head IsClause c cs good) e) ∙ ih

abbrev pub AreHeads : Predicate → Program → Type 0
AreHeads q ds = AllByRecursion (λ d. IsHead d.head q.name q.arity) ds

pub heads-of : (q : Predicate) (p : Program) → IsProgram p → AllByRecursion (λ c. IsHead c.head q.name q.arity) (clauses_of q p)
heads-of q [] good = tt
heads-of q (c ∷ cs) good = go (is_head_of q c.head) refl (heads-of q cs (All-tail IsClause c cs good))
  where
    go : (b : Bool) → is_head_of q c.head ≡ b → AreHeads q (clauses_of q cs) → AreHeads q (cond b (c ∷ clauses_of q cs) (clauses_of q cs))
    go true e ih = (is_head q c.head (and_parts (callable c.head) (numbered c.vars c.head) (All-head IsClause c cs good).head).0 e, ih)
    go false e ih = ih
