-- A call is one turn of the model, and clauses are taken one after another.
use Rattle.std.proofs.Common.{◌≡◌, ℕ, ◌⊎◌, inl, inr, List, [], ◌∷◌, ◌++◌, slice_get, Some, None, refl, ap, sym, ◌∙◌, subst, arith}
use Rattle.std.specs.List.{AllZip, AllByRecursion}
use Rattle.std.proofs.lemmas.List.{append_assoc}
use Rattle.std.proofs.lemmas.List.Elements.{All-nil, All-cons, All-head, All-tail, All-filter}
use Rattle.ap_tracked.specs.Sets.{SameSet, IsSetOf, Resolved}
use Rattle.ap_term.specs.Tree.{Tree, Trees, atom, node, none, more, count_trees}
use Rattle.ap_term.specs.Substitution.{instance}
use Rattle.ap_term.specs.Goals.{Clause, Program}
use Rattle.ap_term.specs.WellFormed.{IsClause, IsProgram}
use Rattle.ap_term.specs.declared.builtins.Op.TheVariants.{Eq, Ne, Lt, Gt, Le, Ge}
use Rattle.ap_term.specs.declared.builtins.Relation.{Relation}
use Rattle.ap_term.specs.declared.builtins.Relation.TheVariants.{Unify, NotUnify, Same, NotSame, Is, Compare}
use Rattle.ap_term.specs.Builtins.{builtin, relation_answer}
use Rattle.ap_tracked.specs.Tracked.{Goal, call, Tracked, children}
use Rattle.ap_tracked.specs.Marks.{marked}
use Rattle.ap_tracked.specs.Instances.{Inst}
use Rattle.ap_instr.specs.declared.builtins.Builtin.{Builtin}
use Rattle.ap_instr.specs.declared.builtins.Builtin.TheVariants.{True, Fail, Relation as relation_goal}
use Rattle.ap_instr.specs.declared.compiled.Predicate.{Predicate}
use Rattle.ap_instr.specs.Builtin.{relation_name, builtin_name, builtin_arity}
use Rattle.ap_instr.specs.Steps.{steps_from}
use Rattle.ap_instr.specs.Code.{Compiled}
use Rattle.ap_instr.specs.Runs.{applied, spread, AsksOpenly}
use Rattle.ap_instr.specs.StandsFor.{ReadsAt, IsOfClauses, IsOfBuiltin, clauses_of, clause_places, is_head_of}
use Rattle.ap_instr.proofs.Registers.{spread-agree, count-spread}
use Rattle.ap_resolution.proofs.Unified.{IsSetOf-same}
use Rattle.ap_resolution.proofs.Variants.{instances}
use Rattle.ap_steps.specs.Moves.{held}
use Rattle.ap_steps.specs.Standing.{Standing, AtCall, InCode}
use Rattle.ap_steps.proofs.Entry.{entry}
use Rattle.ap_standing.specs.Machine.{Point, standing_at}
use Rattle.ap_standing.specs.Holds.{IsApart, AreOpen, IsPlain, Untried, HoldsPoints, HoldsRest}
use Rattle.ap_standing.specs.Laws.{SameArguments}
use Rattle.ap_standing.proofs.FirstGoals.{first-call}
use Rattle.ap_standing.proofs.Children.{children-none, children-split, resolves, plain-children, AreHeads, heads-of, children-own}

-- ---- sets

pub SameSet-trans : (I J K : Trees → Trees → Type 0) → SameSet I J → SameSet J K → SameSet I K
SameSet-trans I J K h k gs t = (λ i. (k gs t).0 ((h gs t).0 i), λ j. (h gs t).1 ((k gs t).1 j))

pub SameSet-sym : (I J : Trees → Trees → Type 0) → SameSet I J → SameSet J I
SameSet-sym I J h gs t = ((h gs t).1, (h gs t).0)

Resolved-same : (I J : Trees → Trees → Type 0) (c : Clause) → SameSet I J → SameSet (Resolved I c) (Resolved J c)
Resolved-same I J c h gs t = (
  λ r. (r.0, r.1, (h (more (instance r.0 c.head) r.1) t).0 r.2, r.3),
  λ r. (r.0, r.1, (h (more (instance r.0 c.head) r.1) t).1 r.2, r.3),
)

-- ---- registers of a call

pub AtCall-registers : (code : Compiled) (st : Standing) (x y : ℕ → ℕ) (p n : ℕ) → SameArguments n x y → SameSet (AtCall code st x p n) (AtCall code st y p n)
AtCall-registers code st x y p n h gs t = (
  λ m. (m.0, m.1, m.2, m.3 ∙ ap (λ ts. more (applied p ts) m.1) (spread-agree (λ w. m.0 (x w)) (λ w. m.0 (y w)) 1 n (λ w a b. ap m.0 (h w (omega arith) (omega arith)))), m.4),
  λ m. (m.0, m.1, m.2, m.3 ∙ ap (λ ts. more (applied p ts) m.1) (sym (spread-agree (λ w. m.0 (x w)) (λ w. m.0 (y w)) 1 n (λ w a b. ap m.0 (h w (omega arith) (omega arith))))), m.4),
)

-- ---- predicates

-- the answer that the model gives
pub relation-answered : (r : Relation) (t u : Tree) → builtin (node (relation_name r) (more t (more u none))) ≡ Some (relation_answer r t u)
relation-answered Unify t u = refl
relation-answered NotUnify t u = refl
relation-answered Same t u = refl
relation-answered NotSame t u = refl
relation-answered Is t u = refl
relation-answered (Compare Eq) t u = refl
relation-answered (Compare Ne) t u = refl
relation-answered (Compare Lt) t u = refl
relation-answered (Compare Gt) t u = refl
relation-answered (Compare Le) t u = refl
relation-answered (Compare Ge) t u = refl

some-arguments : (b : Builtin) → (ts : Trees) × (count_trees ts ≡ builtin_arity b) × (builtin (applied (builtin_name b) ts) ≡ None → ⊥)
some-arguments True = (none, refl, λ e. cc)
some-arguments Fail = (none, refl, λ e. cc)
some-arguments (relation_goal r) = (more (atom 0) (more (atom 0) none), refl, λ e. let d : None ≡ Some (relation_answer r (atom 0) (atom 0)) = sym e ∙ relation-answered r (atom 0) (atom 0) in let z : ⊥ = cc in z)

-- a predicate that isn't that of built-in goals is one of clauses
pub of-clauses : (code : Compiled) (p : Program) (q : Predicate) → IsOfClauses code p q ⊎ IsOfBuiltin code q → IsApart q → IsOfClauses code p q
of-clauses code p q (inl k) apart = k
of-clauses code p q (inr b) apart =
    let s = some-arguments b.goal in
    absurd (s.2 (ap (λ n. builtin (applied n s.0)) b.name ∙ apart s.0 (s.1 ∙ b.arity)))

-- ---- a call

module _ (code : Compiled) (p : Program) (good : IsProgram p) (q : Predicate) (stands : IsOfClauses code p q) (roots : List ℕ) (point : Point) (known : slice_get code.predicates point.predicate ≡ Some q) where
  -- what is known of a state at whose first goal the machine is
  pub called : (x : ℕ → ℕ) (s : Tracked) → SameArguments q.arity x (held point.arguments) → IsPlain s → AreOpen code point.returns
      → SameSet (AtCall code (standing_at roots point) x q.name q.arity) (Inst s)
      → (u : Untried code roots point (clause_places code q)) × (children u.clauses u.state ≡ children p s) × (s.goals ≡ [] → ⊥)
  called x s args plain open_returns same = (
    record {
      predicate = q;
      state = s;
      goal = g;
      rest = f.0;
      clauses = clauses_of q p;
      known = known;
      same = SameSet-trans (AtCall code st (held point.arguments) q.name q.arity) (AtCall code st x q.name q.arity) (Inst s) (SameSet-sym (AtCall code st x q.name q.arity) (AtCall code st (held point.arguments) q.name q.arity) (AtCall-registers code st x (held point.arguments) q.name q.arity args)) same;
      plain = plain;
      first = f.1;
      ordinary = ordinary;
      heads = heads-of q p good;
      good = All-filter (λ c. is_head_of q c.head) IsClause p good;
      reads = stands.reads;
      open_returns = open_returns;
    },
    sym (children-own q s g f.0 f.1 ordinary plain.0 calls p good),
    λ e. absurd (let d : none ≡ more g m.1 = ap marked (sym e) ∙ m.3 in let z : ⊥ = cc in z),
  )
    where
      st : Standing
      st = standing_at roots point

      m : AtCall code st x q.name q.arity (marked s.goals) s.tuple
      m = (same (marked s.goals) s.tuple).1 (instances s)

      ts : Trees
      ts = spread (λ w. m.0 (x w)) 1 q.arity

      g : Tree
      g = applied q.name ts

      f : (rest : List Goal) × (s.goals ≡ call g ∷ rest)
      f = first-call s.goals q.name ts m.1 m.3

      ordinary : builtin g ≡ None
      ordinary = stands.apart ts (count-spread (λ w. m.0 (x w)) 1 q.arity)

      calls : (h : Tree) (gs us : Trees) → Inst s (more h gs) us → (vs : Trees) × (count_trees vs ≡ q.arity) × (h ≡ applied q.name vs)
      calls h gs us i =
          let c = (same (more h gs) us).1 i in
          let vs : Trees = spread (λ w. c.0 (x w)) 1 q.arity in
          let e : more h gs ≡ more (applied q.name vs) c.1 = c.3 in
          let d : h ≡ applied q.name vs = cc in
          (vs, count-spread (λ w. c.0 (x w)) 1 q.arity, d)

-- ---- clauses that are left

-- no clause is left
pub rest-none : (code : Compiled) (roots : List ℕ) (q : Point) (qs : List Point) (ss : List Tracked) → HoldsRest code roots q [] qs ss → HoldsPoints code roots qs ss
rest-none code roots q qs ss h = subst (HoldsPoints code roots qs) (sym (h.3 ∙ ap (λ us. us ++ h.1) (go h.0.clauses h.0.reads))) h.2
  where
    go : (cs : Program) → AllZip (ReadsAt code) [] cs → children cs h.0.state ≡ []
    go [] r = children-none h.0.state h.0.goal h.0.rest h.0.first h.0.ordinary
    go (c ∷ cs) r = absurd r

-- the first clause that is left, and the others
pub record Split (code : Compiled) (roots : List ℕ) (q : Point) (l : ℕ) (ls : List ℕ) (qs : List Point) (ss : List Tracked) : Type 0 where
  pub here : List Tracked
  pub left : List Tracked
  pub same : ss ≡ here ++ left
  pub plain : AllByRecursion IsPlain here
  pub openly : AsksOpenly (steps_from code l)
  pub returns : AreOpen code q.returns
  pub others : HoldsRest code roots q ls qs left
  pub is_set : (x y : ℕ → ℕ) → ((n : ℕ) → SameArguments n x (held q.arguments)) → IsSetOf (InCode code (standing_at roots q) x y (steps_from code l)) here

pub split : (code : Compiled) (roots : List ℕ) (q : Point) (l : ℕ) (ls : List ℕ) (qs : List Point) (ss : List Tracked) → HoldsRest code roots q (l ∷ ls) qs ss → Split code roots q l ls qs ss
split code roots q l ls qs ss h = go u.clauses refl
  where
    u : Untried code roots q (l ∷ ls)
    u = h.0

    st : Standing
    st = standing_at roots q

    p : ℕ
    p = u.predicate.name

    n : ℕ
    n = u.predicate.arity

    go : (ds : Program) → u.clauses ≡ ds → Split code roots q l ls qs ss
    go [] e = absurd (subst (AllZip (ReadsAt code) (l ∷ ls)) e u.reads)
    go (c ∷ cs) e =
        let reads : AllZip (ReadsAt code) (l ∷ ls) (c ∷ cs) = subst (AllZip (ReadsAt code) (l ∷ ls)) e u.reads in
        let heads : AreHeads u.predicate (c ∷ cs) = subst (AreHeads u.predicate) e u.heads in
        let good : IsProgram (c ∷ cs) = subst IsProgram e u.good in
        let one : IsProgram (c ∷ []) = All-cons IsClause c [] (All-head IsClause c cs good) (All-nil IsClause) in
        record {
          here = children (c ∷ []) u.state;
          left = children cs u.state ++ h.1;
          same = h.3 ∙ ap (λ us. us ++ h.1) (ap (λ ds. children ds u.state) e ∙ children-split u.state u.goal u.rest u.first u.ordinary c cs) ∙ append_assoc (children (c ∷ []) u.state) (children cs u.state) h.1;
          plain = plain-children (c ∷ []) one u.state u.plain;
          openly = reads.0.openly;
          returns = u.open_returns;
          others = (
            record {
              predicate = u.predicate;
              state = u.state;
              goal = u.goal;
              rest = u.rest;
              clauses = cs;
              known = u.known;
              same = u.same;
              plain = u.plain;
              first = u.first;
              ordinary = u.ordinary;
              heads = heads.1;
              good = All-tail IsClause c cs good;
              reads = reads.1;
              open_returns = u.open_returns;
            },
            h.1,
            h.2,
            refl,
          );
          is_set = λ x y args.
              let at_call : SameSet (AtCall code st x p n) (Inst u.state) = SameSet-trans (AtCall code st x p n) (AtCall code st (held q.arguments) p n) (Inst u.state) (AtCall-registers code st x (held q.arguments) p n (args n)) u.same in
              IsSetOf-same (Resolved (Inst u.state) c) (InCode code st x y (steps_from code l))
              (SameSet-trans (Resolved (Inst u.state) c) (Resolved (AtCall code st x p n) c) (InCode code st x y (steps_from code l))
              (Resolved-same (Inst u.state) (AtCall code st x p n) c (SameSet-sym (AtCall code st x p n) (Inst u.state) at_call))
              (SameSet-sym (InCode code st x y (steps_from code l)) (Resolved (AtCall code st x p n) c) (entry code st x y p n (steps_from code l) c heads.0 reads.0.reads)))
              (children (c ∷ []) u.state) (resolves u.state u.goal u.rest u.first u.ordinary c u.plain.0 (All-head IsClause c cs good));
        }
