-- Calls, clauses that are taken and answers.
use Rattle.std.proofs.Common.{◌≡◌, ℕ, ◌<◌, List, [], ◌∷◌, ◌++◌, length, slice_get, Some, None, refl, ap, sym, ◌∙◌, subst}
use Rattle.std.specs.List.{AllByRecursion}
use Rattle.ap_tracked.specs.Sets.{SameSet, IsSetOf}
use Rattle.ap_term.specs.Tuples.{tuple_under}
use Rattle.ap_term.specs.Tree.{Tree, Trees, none, more}
use Rattle.ap_term.specs.Substitution.{instance, instance_all}
use Rattle.ap_term.specs.Goals.{Program}
use Rattle.ap_term.specs.WellFormed.{IsProgram}
use Rattle.ap_term.specs.UpToNames.{SameUpToNames}
use Rattle.ap_tracked.specs.Tracked.{Tracked, children}
use Rattle.ap_tracked.specs.Marks.{marked}
use Rattle.ap_tracked.specs.Instances.{Inst}
use Rattle.ap_cells.specs.declared.cells.Raw.{Raw}
use Rattle.ap_cells.specs.Trees.{tree_at, trees}
use Rattle.ap_instr.specs.declared.compiled.Predicate.{Predicate}
use Rattle.ap_instr.specs.Code.{Compiled}
use Rattle.ap_instr.specs.Steps.{steps_from}
use Rattle.ap_instr.specs.StandsFor.{StandsFor, IsOfClauses, clause_places}
use Rattle.ap_match.proofs.Maps.{fits-own}
use Rattle.ap_resolution.proofs.Variants.{instances, tuples}
use Rattle.ap_steps.specs.Moves.{held, IsStuck}
use Rattle.ap_steps.specs.Standing.{Standing, AtCall, InCode}
use Rattle.ap_standing.specs.Machine.{Point, calling, inside, returning, standing_at}
use Rattle.ap_standing.specs.Holds.{AtReturn, AtCallOf, AreOpen, IsPlain, HoldsPoints, HoldsRest, Holds, Turned}
use Rattle.ap_standing.specs.Laws.{machine, SameArguments}
use Rattle.ap_standing.proofs.Children.{no-state}
use Rattle.ap_standing.proofs.Moved.{stuck, some-call, some-return}
use Rattle.ap_standing.proofs.FirstGoals.{no-goals}
use Rattle.ap_standing.proofs.Turns.{of-clauses, called, Split, split}
use Rattle.ap_standing.proofs.Machines.{a-state}

-- a list of states that begins with one
abbrev pub Begins : (I : Trees → Trees → Type 0) → List Tracked → List Tracked → Type 0
Begins I left ss = (s : Tracked) × (ss ≡ s ∷ left) × SameSet I (Inst s) × IsPlain s

pub begins : (I : Trees → Trees → Type 0) (here left ss : List Tracked) → IsSetOf I here → AllByRecursion IsPlain here → (gs t : Trees) × I gs t → ss ≡ here ++ left → Begins I left ss
begins I here left ss is plain some e =
    let a = a-state I here is some in
    let p : AllByRecursion IsPlain (a.0 ∷ []) = subst (AllByRecursion IsPlain) a.1 plain in
    (a.0, e ∙ ap (λ us. us ++ left) a.1, a.2, p.0)

module _ (code : Compiled) (roots : List ℕ) (qs : List Point) where
  -- ---- a call is a turn of the model

  pub turned : (p : Program) → IsProgram p → StandsFor code p → (q : Predicate) (point : Point) → slice_get code.predicates point.predicate ≡ Some q
      → (x y : List ℕ) → SameArguments q.arity (held x) (held point.arguments)
      → (ss : List Tracked) → Holds code (machine point.cells x y point.returns roots qs (calling point.predicate)) ss
      → (ts : List Tracked) × Turned p 1 ss ts × HoldsRest code roots point (clause_places code q) qs ts
  turned p good stands q point known x y args ss h =
      let st : Standing = standing_at roots point in
      let I : Trees → Trees → Type 0 = AtCall code st (held x) q.name q.arity in
      let is : IsSetOf I h.0 = subst (λ f. IsSetOf (AtCallOf code st x f) h.0) known h.2 in
      let b = begins I h.0 h.1 ss is h.3 (some-call code st (held x) q.name q.arity h.5) h.7 in
      let own : IsOfClauses code p q = of-clauses code p q (stands.predicates point.predicate q known) (h.4 q known) in
      let c = called code p good q own roots point known (held x) b.0 args b.3 h.5 b.2 in
      let ts : List Tracked = children p b.0 ++ h.1 in (
        ts,
        subst (λ us. Turned p 1 us ts) (sym b.1) (c.2, refl),
        (c.0, h.1, h.6, ap (λ us. us ++ h.1) (sym c.1)),
      )

  -- ---- clauses are taken one after another

  -- control comes to the first clause that is left
  pub taken : (point : Point) (l : ℕ) (ls : List ℕ) (points : List Point) (x y : List ℕ) → ((n : ℕ) → SameArguments n (held x) (held point.arguments))
      → ((left : List Tracked) → HoldsRest code roots point ls qs left → HoldsPoints code roots points left)
      → (ss : List Tracked) → HoldsRest code roots point (l ∷ ls) qs ss → Holds code (machine point.cells x y point.returns roots points (inside l)) ss
  taken point l ls points x y args keep ss h =
      let s : Split code roots point l ls qs ss = split code roots point l ls qs ss h in
      (s.here, s.left, s.is_set (held x) (held y) args, s.plain, s.openly, s.returns, keep s.left s.others, s.same)

  -- a clause that can't be taken is left out
  pub skipped : (point : Point) (l : ℕ) (ls : List ℕ) (x y : List ℕ) → ((n : ℕ) → SameArguments n (held x) (held point.arguments))
      → IsStuck point.cells (held x) (held y) (steps_from code l)
      → (ss : List Tracked) → HoldsRest code roots point (l ∷ ls) qs ss → HoldsRest code roots point ls qs ss
  skipped point l ls x y args is_stuck ss h =
      let s : Split code roots point l ls qs ss = split code roots point l ls qs ss h in
      let none_here : s.here ≡ [] =
      no-state (InCode code (standing_at roots point) (held x) (held y) (steps_from code l)) s.here (s.is_set (held x) (held y) args) (stuck code point.cells point.returns roots (held x) (held y) (steps_from code l) is_stuck)
      in
      subst (HoldsRest code roots point ls qs) (sym (s.same ∙ ap (λ us. us ++ s.left) none_here)) s.others

  -- what is left doesn't depend on how the choice point names it
  pub renamed : (point other : Point) → other.cells ≡ point.cells → other.returns ≡ point.returns → other.arguments ≡ point.arguments → other.predicate ≡ point.predicate
      → (ls : List ℕ) (ss : List Tracked) → HoldsRest code roots point ls qs ss → HoldsRest code roots other ls qs ss
  renamed point other ec er ea ep ls ss h =
      let u = h.0 in (
        record {
          predicate = u.predicate;
          state = u.state;
          goal = u.goal;
          rest = u.rest;
          clauses = u.clauses;
          known = subst (λ n. slice_get code.predicates n ≡ Some u.predicate) (sym ep) u.known;
          same = subst (λ cs. SameSet (AtCall code (record { cells = cs; returns = other.returns; roots = roots }) (held other.arguments) u.predicate.name u.predicate.arity) (Inst u.state)) (sym ec)
              (subst (λ ws. SameSet (AtCall code (record { cells = point.cells; returns = ws; roots = roots }) (held other.arguments) u.predicate.name u.predicate.arity) (Inst u.state)) (sym er)
              (subst (λ xs. SameSet (AtCall code (standing_at roots point) (held xs) u.predicate.name u.predicate.arity) (Inst u.state)) (sym ea) u.same));
          plain = u.plain;
          first = u.first;
          ordinary = u.ordinary;
          heads = u.heads;
          good = u.good;
          reads = u.reads;
          open_returns = subst (AreOpen code) (sym er) u.open_returns;
        },
        h.1,
        h.2,
        h.3,
      )

  -- ---- an answer

  general_tuple : (f k : ℕ → Tree) (n : ℕ) (ts : ℕ → Tree) → ((i : ℕ) → i < n → k i ≡ instance f (ts i)) → (rs : List ℕ) → AllByRecursion (λ r. r < n) rs → tuple_under k rs ≡ instance_all f (tuple_under ts rs)
  general_tuple f k n ts h [] w = refl
  general_tuple f k n ts h (r ∷ rs) w = ap (λ t. more t (tuple_under k rs)) (h r w.0) ∙ ap (more (instance f (ts r))) (general_tuple f k n ts h rs w.1)

  -- the first state has no goals, and the tuple that the machine's places have, up to names
  pub answered : (cs : List Raw) (x y : List ℕ) → AllByRecursion (λ r. r < length cs) roots → (ss : List Tracked) → Holds code (machine cs x y [] roots qs returning) ss
      → (s : Tracked) × (left : List Tracked) × (ss ≡ s ∷ left) × (s.goals ≡ []) × (s.fault ≡ None) × SameUpToNames (tuple_under (tree_at (trees cs)) roots) s.tuple × HoldsPoints code roots qs left
  answered cs x y inside_roots ss h =
      let st : Standing = record { cells = cs; returns = []; roots = roots } in
      let I : Trees → Trees → Type 0 = AtReturn code st in
      let b = begins I h.0 h.1 ss h.2 h.3 (some-return code st h.5) h.7 in
      let own : I (marked b.0.goals) b.0.tuple = (b.2 (marked b.0.goals) b.0.tuple).1 (instances b.0) in (
        b.0,
        h.1,
        b.1,
        no-goals b.0.goals own.2.0,
        b.3.2,
        tuples b.0 (tuple_under (tree_at (trees cs)) roots) (
          (none, (b.2 none (tuple_under (tree_at (trees cs)) roots)).0 (tree_at (trees cs), fits-own cs, (refl, refl))),
          λ hs us i.
              let m : I hs us = (b.2 hs us).1 i in
              (m.1.0, m.2.1 ∙ general_tuple m.1.0 m.0 (length cs) (tree_at (trees cs)) m.1.1 roots inside_roots),
        ),
        h.6,
      )
