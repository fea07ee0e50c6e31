-- A text that is accepted never calls `?-` and has no clause for it: the name is refused in goals and heads, and those of
-- lifted predicates are new.
use Rattle.std.proofs.Common.{◌≡◌, ℕ, zero, suc, ◌+◌, ◌≤◌, Bool, true, false, ◌&&◌, ◌||◌, ◌==◌, List, [], ◌∷◌, ◌++◌, map, length, length-append, Option, Some, None, refl, ap, sym, ◌∙◌, subst, arith}
use Rattle.std.specs.Prelude.{nat_lt, not, slice_index, is_some}
use Rattle.std.specs.List.{AllByRecursion}
use Rattle.ap_lexer.specs.Lexeme.{Text}
use Rattle.ap_lexer.specs.declared.cut.Piece.{Piece}
use Rattle.ap_lexer.specs.Piece.{pieces}
use Rattle.ap_lexer.specs.Token.{Placed, tokens}
use Rattle.ap_term.specs.declared.fixed.TheConstants.{QUERY, TRUE, FAIL}
use Rattle.ap_term.specs.declared.clauses.Check.{Check}
use Rattle.ap_term.specs.Builtins.{relation_named}
use Rattle.ap_term.specs.Tree.{Tree, Trees, var, int, atom, node, none, more, count_trees, append_trees}
use Rattle.ap_term.specs.Goals.{Part, Clause, Program, Query, plain_goals}
use Rattle.ap_term.specs.Search.{variables}
use Rattle.ap_term.proofs.GoalLists.{plain_goals-append}
use Rattle.ap_term.proofs.Zips.{AllByRecursion-append}
use Rattle.ap_reader.specs.declared.written.TheConstants.{MAX_OPEN}
use Rattle.ap_reader.specs.declared.depth.TheConstants.{MAX_DEPTH}
use Rattle.ap_reader.specs.Bracket.{most_open}
use Rattle.ap_reader.specs.Depth.{depth}
use Rattle.ap_reader.specs.Reading.{first_line, term_of}
use Rattle.ap_lifting.specs.Body.{Body, goal, conjunction, disjunction, parallel, conditional}
use Rattle.ap_lifting.specs.Rule.{Rule}
use Rattle.ap_lifting.specs.Lifted.{Lifted, applied, stays, number_inside, checks_of, lifted, raised_unless, lifted_if, lifted_rule, lifted_rules, lifted_program, clause_of}
use Rattle.ap_clause.specs.Clause.{Halves}
use Rattle.ap_clause.specs.Fresh.{lift_name, atoms_from, names_by}
use Rattle.ap_clause.specs.Outside.{is_refused, some_if, or_else, outside_goal, outside_head, outside_body, outside_rest, first_outside}
use Rattle.ap_clause.specs.declared.source.Source.{Source}
use Rattle.ap_clause.specs.declared.source.Source.TheVariants as source
use Rattle.ap_clause.specs.Reads.{Position, Taken, Verdict, Refused, Took, Whole, Sentence, fits, refused_outside, judged, JudgesOpen, JudgesBy, Judges, Goes, Reads, start, beside, AcceptsProgram, AcceptsQuery}
use Rattle.ap_clause.proofs.RulesRead.{clash, whole-is, stopped-whole}
use Rattle.ap_clause.proofs.Taken.{took_outside, took_past, took}
use Rattle.ap_graft.specs.Uncalled.{IsOther, AreOthers, BodyIsOther, NeverCalls}
use Rattle.ap_machine.specs.Started.{HasName, NoneIsFor}
use Rattle.ap_worker.specs.Sought.{MayBeAsked}
use Rattle.ap_top.specs.Unasked.{LeavesQuery}
use Rattle.ap_top.proofs.Grown.{took_if, put_behind, by_behind}
use Rattle.ap_open.proofs.Tracing.{append_other}

-- ---- goals

none-some : {A : Type 0} (a : A) → Some a ≡ None → ⊥
none-some a e = cc

refused-goal : (a : ℕ) → some_if (is_refused a) a ≡ None → a ≡ QUERY → ⊥
refused-goal a e q = none-some QUERY (sym (ap (λ b. some_if (is_refused b) b) q) ∙ e)

refused-head : (a : ℕ) (b : Bool) → some_if (is_refused a || b) a ≡ None → a ≡ QUERY → ⊥
refused-head a b e q = none-some QUERY (sym (ap (λ n. some_if (is_refused n || b) n) q) ∙ e)

goal-other : (t : Tree) → outside_goal t ≡ None → IsOther QUERY t
goal-other (var x) e = absurd (none-some _ e)
goal-other (int z) e = tt
goal-other (atom a) e = refused-goal a e
goal-other (node a ts) e = refused-goal a e

both-none : (a b : Option ℕ) → or_else a b ≡ None → (a ≡ None) × (b ≡ None)
both-none None b e = (refl, e)
both-none (Some a) b e = absurd (none-some a e)

head-other : (t : Tree) → outside_head t ≡ None → HasName QUERY t → ⊥
head-other (var x) e h = h
head-other (int z) e h = h
head-other (atom a) e h = refused-head a (a == TRUE || a == FAIL) e h
head-other (node a ts) e h = refused-head a (count_trees ts == 2 && is_some (relation_named a)) e h

-- a clause that neither calls `?-` nor is for it
abbrev IsAway : Clause → Type 0
IsAway c = BodyIsOther QUERY c × (HasName QUERY c.head → ⊥)

abbrev AreAway : Program → Type 0
AreAway p = AllByRecursion IsAway p

away-calls : (p : Program) → AreAway p → NeverCalls QUERY p
away-calls [] h = tt
away-calls (c ∷ p) h = (h.0.0, away-calls p h.1)

away-heads : (p : Program) → AreAway p → NoneIsFor QUERY p
away-heads [] h = tt
away-heads (c ∷ p) h = (h.0.1, away-heads p h.1)

-- ---- lifting

abbrev IsInside : Lifted → Type 0
IsInside x = AreOthers QUERY (plain_goals x.parts) × AreAway x.clauses

append-parts : (ps qs : List Part) → AreOthers QUERY (plain_goals ps) → AreOthers QUERY (plain_goals qs) → AreOthers QUERY (plain_goals (ps ++ qs))
append-parts ps qs h k = subst (AreOthers QUERY) (sym (plain_goals-append ps qs)) (append_other QUERY (plain_goals ps) (plain_goals qs) h k)

append-clauses : (p q : Program) → AreAway p → AreAway q → AreAway (p ++ q)
append-clauses p q h k = AllByRecursion-append IsAway p q h k

module _ (names : ℕ → ℕ) (vars line : ℕ) (new : (n : ℕ) → names n ≡ QUERY → ⊥) where
  lifted-other : (n : ℕ) (ts : Trees) → IsOther QUERY (applied (names n) ts)
  lifted-other n none = new n
  lifted-other n (more t ts) = new n

  lifted-head : (n : ℕ) (ts : Trees) → HasName QUERY (applied (names n) ts) → ⊥
  lifted-head n none = new n
  lifted-head n (more t ts) = new n

  raised-inside : (b : Bool) (n : ℕ) (x : Lifted) → IsInside x → IsInside (raised_unless names vars line b n x)
  raised-inside true n x h = h
  raised-inside false n x h = ((lifted-other n (variables vars), tt), ((h.0, lifted-head n (variables vars)), h.1))

  lifted-inside : (b : Body) (cs : List Check) (n : ℕ) → outside_body b ≡ None → IsInside (lifted names vars line b cs n)
  lifted-inside (goal t) cs n e = ((goal-other t e, tt), tt)
  lifted-inside (conjunction a b) cs n e =
      let s = both-none (outside_body a) (outside_body b) e in
      let x = lifted names vars line a [] n in
      let h = lifted-inside a [] n s.0 in
      let k = lifted-inside b [] x.next s.1 in
      (append-parts x.parts (lifted names vars line b [] x.next).parts h.0 k.0, append-clauses x.clauses (lifted names vars line b [] x.next).clauses h.1 k.1)
  lifted-inside (disjunction a b) cs n e =
      let s = both-none (outside_body a) (outside_body b) e in
      let x = lifted names vars line a [] (n + 1) in
      let h = lifted-inside a [] (n + 1) s.0 in
      let k = lifted-inside b [] x.next s.1 in
      ((lifted-other n (variables vars), tt), ((h.0, lifted-head n (variables vars)), ((k.0, lifted-head n (variables vars)), append-clauses x.clauses (lifted names vars line b [] x.next).clauses h.1 k.1)))
  lifted-inside (parallel a b) cs n e =
      let s = both-none (outside_body a) (outside_body b) e in
      let x = raised_unless names vars line (stays false a) n (lifted names vars line a [] (number_inside (stays false a) n)) in
      let y = raised_unless names vars line (stays true b) x.next (lifted names vars line b [] (number_inside (stays true b) x.next)) in
      let h = raised-inside (stays false a) n (lifted names vars line a [] (number_inside (stays false a) n)) (lifted-inside a [] (number_inside (stays false a) n) s.0) in
      let k = raised-inside (stays true b) x.next (lifted names vars line b [] (number_inside (stays true b) x.next)) (lifted-inside b [] (number_inside (stays true b) x.next) s.1) in
      (append_other QUERY (append_trees (plain_goals x.parts) (plain_goals y.parts)) none (append_other QUERY (plain_goals x.parts) (plain_goals y.parts) h.0 k.0) tt, append-clauses x.clauses y.clauses h.1 k.1)
  lifted-inside (conditional ds b) cs n e = lifted-inside b (checks_of ds) n e

  if-inside : (b : Option Body) (n : ℕ) → outside_rest b ≡ None → IsInside (lifted_if names vars line b n)
  if-inside None n e = (tt, tt)
  if-inside (Some b) n e = lifted-inside b [] n e

-- a head of a program has no name from outside; that of a query is `?-`
abbrev IsHeadBy : Source → Tree → Type 0
IsHeadBy source.Program t = outside_head t ≡ None
IsHeadBy source.Query t = Unit {0}

-- a rule whose goals have no name from outside, nor its head
abbrev IsInsideRule : Source → Rule → Type 0
IsInsideRule s r = (outside_rest r.body ≡ None) × IsHeadBy s r.head

module _ (names : ℕ → ℕ) (new : (n : ℕ) → names n ≡ QUERY → ⊥) where
  rules-inside : (rs : List Rule) (n : ℕ) → AllByRecursion (IsInsideRule source.Program) rs → AreAway (lifted_rules names rs n).clauses × AreAway (lifted_rules names rs n).lifted
  rules-inside [] n h = (tt, tt)
  rules-inside (r ∷ rs) n h =
      let x = lifted_rule names r n in
      let here = if-inside names r.vars r.line new r.body n h.0.0 in
      let rest = rules-inside rs x.next h.1 in
      (((here.0, head-other r.head h.0.1), rest.0), append-clauses x.clauses (lifted_rules names rs x.next).lifted here.1 rest.1)

  program-inside : (rs : List Rule) → AllByRecursion (IsInsideRule source.Program) rs → AreAway (lifted_program names rs)
  program-inside rs h = let x = rules-inside rs 0 h in append-clauses (lifted_rules names rs 0).clauses (lifted_rules names rs 0).lifted x.0 x.1

-- ---- names of lifted predicates

names-new : (table : List Text) (ks : List ℕ) → 28 ≤ length table → (n : ℕ) → names_by table ks n ≡ QUERY → ⊥
names-new table ks le n e = go (length table) ks n le e
  where
    go : (at : ℕ) (ks : List ℕ) (n : ℕ) → 28 ≤ at → slice_index (atoms_from at ks) n ≡ QUERY → ⊥
    go at [] n le e = cc
    go at (k ∷ ks) zero le e = let f : at ≡ 27 = e in omega arith
    go at (k ∷ ks) (suc n) le e = go (at + 1) ks n (omega arith) e

-- ---- what is read

not-refused : (o : Option ℕ) (line : ℕ) (v : Verdict) (t : Taken) → refused_outside o line v ≡ Took t → o ≡ None
not-refused None line v t h = refl
not-refused (Some a) line v t h = absurd (clash _ t h)

halves-inside : (s : Source) (h : Halves) → first_outside s h ≡ None → (outside_rest h.1 ≡ None) × IsHeadBy s h.0
halves-inside source.Program h e = let b = both-none (outside_head h.0) (outside_rest h.1) e in (b.1, b.0)
halves-inside source.Query h e = (e, tt)

sentence-inside : (s : Source) (p : Position) (line : ℕ) (o : Option Sentence) (t : Taken) → judged s p line o ≡ Took t → IsInsideRule s t.rule
sentence-inside s p line None t h = absurd (clash _ t h)
sentence-inside s p line (Some x) t h =
    let form = took_if (not (fits s (term_of x.front x.tree))) _ _ t h in
    let deep = took_if (nat_lt MAX_DEPTH (depth (term_of x.front x.tree))) _ _ t form in
    let room = took_if _ _ _ t deep in
    let out = not-refused _ line _ t room in
    let whole = took (took_past _ line _ t (took_outside _ line _ t room)) in
    subst (λ u. IsInsideRule s u.rule) whole (halves-inside s _ out)

open-inside : (full : Bool) (s : Source) (p : Position) (ts : List Placed) (t : Taken) → JudgesOpen full s p ts (Took t) → IsInsideRule s t.rule
open-inside true s p ts t h = absurd (clash _ t (sym h))
open-inside false s p ts t h = sentence-inside s p (first_line ts) h.0 t (sym h.2)

by-inside : (bad : Option ℕ) (s : Source) (p : Position) (ts : List Placed) (t : Taken) → JudgesBy bad s p ts (Took t) → IsInsideRule s t.rule
by-inside (Some line) s p ts t h = absurd (clash _ t (sym h))
by-inside None s p ts t h = open-inside (nat_lt MAX_OPEN (most_open 0 ts)) s p ts t h

by-longer : (bad : Option ℕ) (s : Source) (p : Position) (ts : List Placed) (t : Taken) → JudgesBy bad s p ts (Took t) → 28 ≤ length p.table → 28 ≤ length t.after.table
by-longer bad s p ts t h le =
    let b = by_behind bad s p ts t h in
    let c = put_behind p.table b.0 in
    let e : length t.after.table ≡ length (p.table ++ c.0) = ap length (b.1 ∙ c.1) in
    omega (arith, length-append p.table c.0)

reads-inside : (text : Text) (ps : List Piece) (p q : Position) (rules all : List Rule) → Reads text ps p rules (Whole all q) → AllByRecursion (IsInsideRule source.Program) rules → 28 ≤ length p.table
    → AllByRecursion (IsInsideRule source.Program) all × (28 ≤ length q.table)
reads-inside text [] p q rules all h k le =
    let e = whole-is h in
    (subst (AllByRecursion (IsInsideRule source.Program)) (sym e.0) k, subst (λ u. 28 ≤ length u.table) (sym e.1) le)
reads-inside text (piece ∷ ps) p q rules all h k le = go h.0 h.1 h.2 (λ p' rules' g k' le'. reads-inside text ps p' q rules' all g k' le')
  where
    go : (v : Verdict) → Judges source.Program text p piece v → Goes (Reads text ps) rules v (Whole all q)
        → ((p' : Position) (rules' : List Rule) → Reads text ps p' rules' (Whole all q) → AllByRecursion (IsInsideRule source.Program) rules' → 28 ≤ length p'.table → AllByRecursion (IsInsideRule source.Program) all × (28 ≤ length q.table))
        → AllByRecursion (IsInsideRule source.Program) all × (28 ≤ length q.table)
    go (Refused r) j g on = absurd (stopped-whole r all q g)
    go (Took t) j g on =
        on t.after (rules ++ t.rule ∷ []) g
        (AllByRecursion-append (IsInsideRule source.Program) rules (t.rule ∷ []) k (by-inside piece.bad source.Program p (tokens text piece) t j, tt))
        (by-longer piece.bad source.Program p (tokens text piece) t j le)

-- ---- programs and queries

pub program-leaves : (text : Text) (table : List Text) (program : Program) (new : List Text) → 28 ≤ length table → AcceptsProgram text table program new → LeavesQuery program new
program-leaves text table program new le h =
    let r = reads-inside text (pieces text) (start table) h.1 [] h.0 h.3 tt le in
    let away = subst AreAway (sym h.6) (program-inside (names_by h.1.table h.2) (names-new h.1.table h.2 r.1) h.0 r.0) in
    let long : length new ≡ length (h.1.table ++ map lift_name h.2) = ap length h.7 in
    record {
      calls = away-calls program away;
      heads = away-heads program away;
      fixed = let k = r.1 in omega (arith, long, length-append h.1.table (map lift_name h.2));
    }

pub query-may-be-asked : (text : Text) (piece : Piece) (program : Program) (table : List Text) (query : Query) (new : List Text) → LeavesQuery program table → AcceptsQuery text piece program table query new → MayBeAsked program query
query-may-be-asked text piece program table query new leaves h =
    let t = h.0 in
    let names = names_by t.after.table h.1 in
    let long = by-longer piece.bad source.Query (beside program table) (tokens text piece) t h.2 leaves.fixed in
    let inside = by-inside piece.bad source.Query (beside program table) (tokens text piece) t h.2 in
    let x = if-inside names t.rule.vars t.rule.line (names-new t.after.table h.1 long) t.rule.body 0 inside.0 in
    let lifted : Program = (lifted_rule names t.rule 0).clauses in
    subst (MayBeAsked program) (sym h.5)
    (record {
      calls = AllByRecursion-append (BodyIsOther QUERY) program (clause_of t.rule (lifted_rule names t.rule 0).parts ∷ lifted) leaves.calls (x.0, away-calls lifted x.1);
      program = leaves.heads;
      lifted = away-heads lifted x.1;
    })
