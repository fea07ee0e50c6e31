-- A goal that isn't loud meets no fault.
use Rattle.std.proofs.Common.{◌≡◌, inl, inr, ℕ, zero, suc, ◌+◌, ◌&&◌, true, false, List, [], ◌∷◌, map, Option, Some, None, refl, ap, sym, ◌∙◌, subst}
use Rattle.std.specs.Prelude.{nat_le}
use Rattle.std.specs.List.{flat_map, list_all, AllByRecursion}
use Rattle.std.proofs.lemmas.Bool.{false≢true, false_from_ne_true, and_parts}
use Rattle.std.proofs.lemmas.List.Elements.{All-head, All-tail}
use Rattle.ap_term.specs.Tree.{Tree, Trees, var, int, atom, node, none, more, append_trees, count_trees}
use Rattle.ap_term.specs.Substitution.{instance, instance_all, Subst, value, shift}
use Rattle.ap_term.specs.Unification.{mgu}
use Rattle.ap_term.specs.Unifier.{IsMostGeneral}
use Rattle.ap_term.specs.Goals.{Part, call, group, Clause, Program, instance_part, plain_goals}
use Rattle.ap_term.specs.Builtins.{builtin}
use Rattle.ap_term.specs.WellFormed.{callable, all_callable, numbered, numbered_all, numbered_check, well_formed_part, IsClause, IsProgram}
use Rattle.ap_term.specs.Faults.{fault_of}
use Rattle.ap_term.specs.Loud.{predicate_of, is_arithmetic, IsMember, IsGoal, IsLoud, by_itself, by_call}
use Rattle.ap_term.specs.Search.{Way, way_if, clause_way, ways_by, ways_unless}
use Rattle.ap_term.proofs.TreeLists.{count_trees-instance_all}
use Rattle.ap_term.proofs.GoalLists.{plain_goals-instance}
use Rattle.ap_term.proofs.Solvable.{mgu-general}
use Rattle.ap_laws.specs.Plain.{Plain, state, faulted, PlainWay, way, fault_way, way_by, plain_way, plain_ways, plain_children_by, IsAnswer}
use Rattle.ap_laws.specs.Trace.{trace, AllAnswers}
use Rattle.ap_laws.specs.Graft.{alone}
use Rattle.ap_laws.specs.SearchLaws.{QuietLaw}
use Rattle.ap_laws.proofs.Traces.{AllAnswers-flat_map}
use Rattle.ap_term.proofs.Zips.{AllByRecursion-append, AllByRecursion-map}
use Rattle.ap_term.proofs.WellFormed.{callable-instance}

abbrev EachGoal : (Tree → Type 0) → Trees → Type 0
EachGoal P none = Unit {0}
EachGoal P (more t ts) = P t × EachGoal P ts

EachGoal-append : (P : Tree → Type 0) (ts us : Trees) → EachGoal P ts → EachGoal P us → EachGoal P (append_trees ts us)
EachGoal-append P none us h k = k
EachGoal-append P (more t ts) us h k = (h.0, EachGoal-append P ts us h.1 k)

EachGoal-instance : (P Q : Tree → Type 0) (f : ℕ → Tree) → ((t : Tree) → P t → Q (instance f t)) → (ts : Trees) → EachGoal P ts → EachGoal Q (instance_all f ts)
EachGoal-instance P Q f e none h = tt
EachGoal-instance P Q f e (more t ts) h = (e t h.0, EachGoal-instance P Q f e ts h.1)

EachGoal-in : (P : Tree → Type 0) (ts : Trees) → ((h : Tree) → IsGoal h ts → P h) → EachGoal P ts
EachGoal-in P none e = tt
EachGoal-in P (more t ts) e = (e t (inl refl), EachGoal-in P ts (λ h i. e h (inr i)))

EachGoal-and : (P Q : Tree → Type 0) (ts : Trees) → EachGoal P ts → EachGoal Q ts → EachGoal (λ t. P t × Q t) ts
EachGoal-and P Q none h k = tt
EachGoal-and P Q (more t ts) h k = ((h.0, k.0), EachGoal-and P Q ts h.1 k.1)

-- ---- names of goals

predicate_of-instance : (f : ℕ → Tree) (t : Tree) → callable t ≡ true → predicate_of (instance f t) ≡ predicate_of t
predicate_of-instance f (var x) h = absurd (false≢true h)
predicate_of-instance f (int z) h = absurd (false≢true h)
predicate_of-instance f (atom a) h = refl
predicate_of-instance f (node a ts) h = ap (λ n. Some (a, n)) (count_trees-instance_all f ts)

is_arithmetic-instance : (f : ℕ → Tree) (t : Tree) → callable t ≡ true → is_arithmetic (instance f t) ≡ is_arithmetic t
is_arithmetic-instance f (var x) h = absurd (false≢true h)
is_arithmetic-instance f (int z) h = absurd (false≢true h)
is_arithmetic-instance f (atom a) h = refl
is_arithmetic-instance f (node a none) h = refl
is_arithmetic-instance f (node a (more t none)) h = refl
is_arithmetic-instance f (node a (more t (more u none))) h = refl
is_arithmetic-instance f (node a (more t (more u (more v ts)))) h = refl

-- by the switch; with faults on it is ap_term's law of faults
fault_of-quiet : (g : Tree) → is_arithmetic g ≡ false → fault_of g ≡ None
fault_of-quiet g h = refl

-- ---- goals of clauses

EachGoal-all_callable : (ts : Trees) → all_callable ts ≡ true → EachGoal (λ h. callable h ≡ true) ts
EachGoal-all_callable none h = tt
EachGoal-all_callable (more t ts) h = let r = and_parts (callable t) (all_callable ts) h in (r.0, EachGoal-all_callable ts r.1)

EachGoal-well_formed : (n : ℕ) (ps : List Part) → list_all (well_formed_part n) ps ≡ true → EachGoal (λ h. callable h ≡ true) (plain_goals ps)
EachGoal-well_formed n [] h = tt
EachGoal-well_formed n (call t ∷ ps) h =
    let r = and_parts (callable t && numbered n t) (list_all (well_formed_part n) ps) h in ((and_parts (callable t) (numbered n t) r.0).0, EachGoal-well_formed n ps r.1)
EachGoal-well_formed n (group cs ts ∷ ps) h =
    let r = and_parts (well_formed_part n (group cs ts)) (list_all (well_formed_part n) ps) h in
    let q = and_parts (list_all (numbered_check n) cs) (nat_le 1 (count_trees ts) && (all_callable ts && numbered_all n ts)) r.0 in
    let x = and_parts (nat_le 1 (count_trees ts)) (all_callable ts && numbered_all n ts) q.1 in
    EachGoal-append (λ h. callable h ≡ true) ts (plain_goals ps) (EachGoal-all_callable ts (and_parts (all_callable ts) (numbered_all n ts) x.1).0) (EachGoal-well_formed n ps r.1)

module _ (p : Program) (good : IsProgram p) where
  abbrev Fits : Tree → Type 0
  Fits g = (callable g ≡ true) × (IsLoud p g → ⊥)

  IsLoud-instance : (f : ℕ → Tree) (t : Tree) → callable t ≡ true → IsLoud p (instance f t) → IsLoud p t
  IsLoud-instance f t h (by_itself e) = by_itself (sym (is_arithmetic-instance f t h) ∙ e)
  IsLoud-instance f t h (by_call c m e i l) = by_call c m (sym (predicate_of-instance f t h) ∙ e) i l

  Fits-instance : (f : ℕ → Tree) (t : Tree) → Fits t → Fits (instance f t)
  Fits-instance f t h = (callable-instance f t h.0, λ l. h.1 (IsLoud-instance f t h.0 l))

  -- the goals that come in a quiet goal's place
  abbrev WayFits : Way → Type 0
  WayFits w = (w.fault ≡ None) × EachGoal Fits (plain_goals w.body)

  WayFits-clause : (n : ℕ) (g : Tree) (c : Clause) → Fits g → IsClause c → IsMember c p → (o : Option Subst) → IsMostGeneral g (instance (shift n) c.head) o
      → AllByRecursion WayFits (way_if o (map (instance_part (shift n)) c.body) (c.vars + 1))
  WayFits-clause n g c h ok m None e = tt
  WayFits-clause n g c h ok m (Some s) e = ((refl, subst (EachGoal Fits) (sym (plain_goals-instance (shift n) c.body)) (EachGoal-instance Fits Fits (shift n) (Fits-instance (shift n)) (plain_goals c.body) fit)), tt)
    where
      head : callable c.head ≡ true
      head = (and_parts (callable c.head) (numbered c.vars c.head) ok.head).0

      same : predicate_of g ≡ predicate_of c.head
      same =
          sym (predicate_of-instance (value s) g h.0) ∙ ap predicate_of e.0 ∙ predicate_of-instance (value s) (instance (shift n) c.head) (callable-instance (shift n) c.head head)
          ∙ predicate_of-instance (shift n) c.head head

      fit : EachGoal Fits (plain_goals c.body)
      fit = EachGoal-and (λ t. callable t ≡ true) (λ t. IsLoud p t → ⊥) (plain_goals c.body) (EachGoal-well_formed c.vars c.body ok.body)
          (EachGoal-in (λ t. IsLoud p t → ⊥) (plain_goals c.body) (λ t i l. h.1 (by_call c m same i l)))

  WayFits-clauses : (n : ℕ) (g : Tree) → Fits g → (q : Program) → IsProgram q → ((c : Clause) → IsMember c q → IsMember c p) → AllByRecursion WayFits (flat_map (clause_way n g) q)
  WayFits-clauses n g h [] ok in_p = tt
  WayFits-clauses n g h (c ∷ q) ok in_p =
      AllByRecursion-append WayFits (clause_way n g c) (flat_map (clause_way n g) q)
      (WayFits-clause n g c h (All-head IsClause c q ok) (in_p c (inl refl)) (mgu g (instance (shift n) c.head)) (mgu-general g (instance (shift n) c.head)))
      (WayFits-clauses n g h q (All-tail IsClause c q ok) (λ d i. in_p d (inr i)))

  WayFits-ways_by : (n : ℕ) (g : Tree) → Fits g → (a : Option (Option Subst)) → AllByRecursion WayFits (ways_by p n g a)
  WayFits-ways_by n g h None = WayFits-clauses n g h p good (λ c i. i)
  WayFits-ways_by n g h (Some None) = tt
  WayFits-ways_by n g h (Some (Some s)) = ((refl, tt), tt)

  abbrev PlainFits : PlainWay → Type 0
  PlainFits (way s b u) = EachGoal Fits b
  PlainFits (fault_way e) = ⊥

  PlainFits-plain_way : (w : Way) → WayFits w → PlainFits (plain_way w)
  PlainFits-plain_way w h = subst (λ e. PlainFits (way_by e w)) (sym h.0) h.1

  PlainFits-plain_ways : (n : ℕ) (g : Tree) → Fits g → AllByRecursion PlainFits (plain_ways p g n)
  PlainFits-plain_ways n g h =
      subst (λ e. AllByRecursion PlainFits (map plain_way (ways_unless e (ways_by p n g (builtin g))))) (sym (fault_of-quiet g (false_from_ne_true (is_arithmetic g) (λ e. h.1 (by_itself e)))))
      (AllByRecursion-map WayFits PlainFits plain_way PlainFits-plain_way (ways_by p n g (builtin g)) (WayFits-ways_by n g h (builtin g)))

  abbrev StateFits : Plain → Type 0
  StateFits (state G T n k) = EachGoal Fits G
  StateFits (faulted e k) = ⊥

  StateFits-children : (G T : Trees) (n k : ℕ) → EachGoal Fits G → (l : List PlainWay) → AllByRecursion PlainFits l → AllByRecursion StateFits (plain_children_by G T n k l)
  StateFits-children G T n k h [] q = tt
  StateFits-children G T n k h (way s b u ∷ l) q =
      (EachGoal-instance Fits Fits (value s) (Fits-instance (value s)) (append_trees b G) (EachGoal-append Fits b G q.0 h), StateFits-children G T n k h l q.1)
  StateFits-children G T n k h (fault_way e ∷ l) q = absurd q.0

  harmless : (r : ℕ) (s : Plain) → StateFits s → AllAnswers (λ a l. IsAnswer a) (trace (plain_ways p) r s)
  unfolding trace
  harmless zero (state none T n k) h = (tt, tt)
  harmless (suc r) (state none T n k) h = (tt, tt)
  harmless zero (faulted e k) h = absurd h
  harmless (suc r) (faulted e k) h = absurd h
  harmless zero (state (more g G) T n k) h = tt
  harmless (suc r) (state (more g G) T n k) h =
      AllAnswers-flat_map (λ a l. IsAnswer a) StateFits (λ s. trace (plain_ways p) r s) (harmless r) (plain_children_by G T n k (plain_ways p g n))
      (StateFits-children G T n k h.1 (plain_ways p g n) (PlainFits-plain_ways n g h.0))

pub quiet : QuietLaw
quiet p good g h q b r = harmless p good r (alone g b) ((h, q), tt)
