-- A query behind a lifted program.
use Rattle.std.proofs.Common.{◌≡◌, ℕ, zero, suc, ◌+◌, ◌<◌, ◌≤◌, Bool, true, false, if◌then◌else◌, List, [], ◌∷◌, ◌++◌, map, refl, ap, sym, ◌∙◌, subst, append-nil, append_assoc, arith, None}
use Rattle.std.specs.List.{AllZip, AllByRecursion}
use Rattle.std.proofs.lemmas.Bool.{false≢true}
use Rattle.std.proofs.lemmas.List.Elements.{All-cons, All-append}
use Rattle.ap_term.specs.Goals.{Clause, Program, Query, joined, plain_goals}
use Rattle.ap_term.specs.WellFormed.{IsClause, IsProgram}
use Rattle.ap_term.specs.Search.{start, variables}
use Rattle.ap_term.specs.UpToNames.{SameUpToNames}
use Rattle.ap_term.specs.Vars.{LocalAll}
use Rattle.ap_term.proofs.Locals.{LocalAll-weaken}
use Rattle.ap_laws.specs.Laws.{SameOutcome, SameFound}
use Rattle.ap_laws.specs.Plain.{Plain, state, faulted, outcome, plain_by, plain_of, plain_ways, SamePlain, HasFullGroups}
use Rattle.ap_laws.specs.Trace.{Action, called, cut, answered, trace, trace_to, answers_in, found_upto, SameAction}
use Rattle.ap_term.proofs.Zips.{AllByRecursion-weaken}
use Rattle.ap_term.proofs.WellFormed.{numbered_all-variables}
use Rattle.ap_laws.proofs.Names.{SameUpToNames-SameTuple}
use Rattle.ap_laws.proofs.Views.{AreGroups-well_formed, plain_by-None, trace_to-plain_of, answers_to_depth-trace, search-trace}
use Rattle.ap_lifting.specs.Rule.{Rule, IsRule}
use Rattle.ap_lifting.specs.Lifted.{Lifted, clause_of, lifted_rule, lifted_rules, lifted_program}
use Rattle.ap_lifting.specs.LiftingLaws.{is_named, clauses_named, AreFresh, supply, KeepsMeaning, MeaningLaw, AvoidsIf}
use Rattle.ap_lifting.specs.Shown.{ShowsIf}
use Rattle.ap_lifting.specs.Sizes.{predicates_if, predicates_in}
use Rattle.ap_lifting.specs.WrittenSearch.{written_trace, written_start}
use Rattle.ap_lifting.proofs.Kept.{goals_called}
use Rattle.ap_lifting.proofs.Binds.{InRange, LocalAll-numbered}
use Rattle.ap_lifting.proofs.Filled.{one_more, next-lifted_rule}
use Rattle.ap_lifting.proofs.LiftedPrograms.{clauses_named-append, none_named, another_name, InNumbers, has_second, shows_if}
use Rattle.ap_lifting.proofs.Again.{program_again, supply_first, supply_last, again_if}
use Rattle.ap_lifting.proofs.Shown.{items_show_if}
use Rattle.ap_lifting.proofs.Simulation.{IsLiftedFrom, Follows, follows_trace, later}
use Rattle.ap_lifting.proofs.Meaning.{rule_clause, main_kept, all_kept, rules_numbers, has_all, lifted_from, lifted_kept_if}

-- ---- two views of traces that are the same

tuples_zip : (es fs : List Action) → AllZip SameAction es fs → AllZip SameOutcome (map outcome (answers_in es)) (map outcome (answers_in fs))
tuples_zip [] [] h = tt
tuples_zip (called ∷ es) (called ∷ fs) h = tuples_zip es fs h.1
tuples_zip (cut ∷ es) (cut ∷ fs) h = tuples_zip es fs h.1
tuples_zip (answered s l ∷ es) (answered t m ∷ fs) h = (same_tuple s t h.0.0, tuples_zip es fs h.1)
  where
    same_tuple : (s t : Plain) → SamePlain s t → SameOutcome (outcome s) (outcome t)
    same_tuple (state G T n k) (state H U m j) e = SameUpToNames-SameTuple T U (e.0, e.1, n, m, e.2.1)
    same_tuple (faulted i k) (faulted h j) e = e.2.0
    same_tuple (state G T n k) (faulted h j) e = absurd e.2
    same_tuple (faulted i k) (state H U m j) e = absurd e.2
tuples_zip [] (_ ∷ _) h = absurd h
tuples_zip (_ ∷ _) [] h = absurd h
tuples_zip (called ∷ _) (cut ∷ _) h = absurd h.0
tuples_zip (called ∷ _) (answered _ _ ∷ _) h = absurd h.0
tuples_zip (cut ∷ _) (called ∷ _) h = absurd h.0
tuples_zip (cut ∷ _) (answered _ _ ∷ _) h = absurd h.0
tuples_zip (answered _ _ ∷ _) (called ∷ _) h = absurd h.0
tuples_zip (answered _ _ ∷ _) (cut ∷ _) h = absurd h.0

found_zip : (n : ℕ) (es fs : List Action) → AllZip SameAction es fs → SameFound (found_upto n es) (found_upto n fs)
found_zip n [] [] h = (tt, refl)
found_zip zero (called ∷ es) (called ∷ fs) h = (tt, refl)
found_zip (suc n) (called ∷ es) (called ∷ fs) h = found_zip n es fs h.1
found_zip n (cut ∷ es) (cut ∷ fs) h = (tt, refl)
found_zip n (answered s l ∷ es) (answered t m ∷ fs) h = ((same_tuple s t h.0.0, (found_zip n es fs h.1).0), (found_zip n es fs h.1).1)
  where
    same_tuple : (s t : Plain) → SamePlain s t → SameOutcome (outcome s) (outcome t)
    same_tuple (state G T n k) (state H U m j) e = SameUpToNames-SameTuple T U (e.0, e.1, n, m, e.2.1)
    same_tuple (faulted i k) (faulted h j) e = e.2.0
    same_tuple (state G T n k) (faulted h j) e = absurd e.2
    same_tuple (faulted i k) (state H U m j) e = absurd e.2
found_zip n [] (_ ∷ _) h = absurd h
found_zip n (_ ∷ _) [] h = absurd h
found_zip n (called ∷ _) (cut ∷ _) h = absurd h.0
found_zip n (called ∷ _) (answered _ _ ∷ _) h = absurd h.0
found_zip n (cut ∷ _) (called ∷ _) h = absurd h.0
found_zip n (cut ∷ _) (answered _ _ ∷ _) h = absurd h.0
found_zip n (answered _ _ ∷ _) (called ∷ _) h = absurd h.0
found_zip n (answered _ _ ∷ _) (cut ∷ _) h = absurd h.0

-- ---- the program with the query's clauses behind it

module _ (ps : List Rule) (q : Rule) (names : ℕ → ℕ) (count : ℕ) (query : Query) (ok : AllByRecursion IsRule (ps ++ q ∷ [])) (fresh : AreFresh names count (ps ++ q ∷ [])) (enough : predicates_in (ps ++ q ∷ []) ≤ count) (asked : query.question ≡ clause_of q (lifted_rule names q (predicates_in ps)).parts) (added : query.lifted ≡ (lifted_rule names q (predicates_in ps)).clauses) where
  abbrev rs : List Rule
  rs = ps ++ q ∷ []

  abbrev x : Lifted
  x = lifted_rule names q (predicates_in ps)

  abbrev C : Program
  C = (lifted_rules names ps 0).clauses

  abbrev L : Program
  L = (lifted_rules names ps 0).lifted

  abbrev c : Clause
  c = clause_of q x.parts

  abbrev p : Program
  p = joined (lifted_program names ps) query

  p_is : p ≡ (C ++ L) ++ c ∷ x.clauses
  p_is = ap (λ d. (C ++ L) ++ d ∷ query.lifted) asked ∙ ap (λ l. (C ++ L) ++ c ∷ l) added

  whole : lifted_program names rs ≡ (C ++ c ∷ []) ++ (L ++ x.clauses)
  whole =
      let more = one_more names ps q 0 (predicates_in ps) (omega arith) in
      ap (λ l. l ++ (lifted_rules names rs 0).lifted) more.0 ∙ ap (λ l. (C ++ c ∷ []) ++ l) more.1

  first_ok : AllByRecursion IsRule ps × IsRule q
  first_ok = split ps ok
    where
      split : (qs : List Rule) → AllByRecursion IsRule (qs ++ q ∷ []) → AllByRecursion IsRule qs × IsRule q
      split [] h = (tt, h.0)
      split (r ∷ qs) h = let rest = split qs h.1 in ((h.0, rest.0), rest.1)

  last_of : (P : Rule → Type 0) (qs : List Rule) → AllByRecursion P (qs ++ q ∷ []) → P q
  last_of P [] h = h.0
  last_of P (r ∷ qs) h = last_of P qs h.1

  sum_is : predicates_in rs ≡ predicates_in ps + predicates_if q.body
  sum_is = go ps
    where
      go : (qs : List Rule) → predicates_in (qs ++ q ∷ []) ≡ predicates_in qs + predicates_if q.body
      go [] = omega arith
      go (r ∷ qs) = omega (arith, go qs)

  good : IsProgram p
  good =
      subst IsProgram (sym p_is)
      (All-append IsClause (C ++ L) (c ∷ x.clauses) (All-append IsClause C L (main_kept names ps 0 first_ok.0) (all_kept names ps 0 first_ok.0))
      (All-cons IsClause c x.clauses (rule_clause names q (predicates_in ps) first_ok.1) (lifted_kept_if names q.vars q.line first_ok.1.few q.body (predicates_in ps) first_ok.1.body)))

  -- no lifted clause has the name of the query's head
  apart_from_head : (a : ℕ) → is_named a q.head ≡ true → clauses_named a L ≡ []
  apart_from_head a h =
      none_named a L
      (AllByRecursion-weaken (InNumbers names 0 (0 + predicates_in ps)) (λ d. is_named a d.head ≡ false)
      (λ d k. another_name a (names k.0) d.head k.3
      (λ e. false≢true (sym (last_of (λ r. is_named (names k.0) r.head ≡ false) ps (fresh.heads k.0 (omega (arith, k.2, sum_is, enough)))) ∙ ap (λ b. is_named b q.head) e ∙ h))) L
      (rules_numbers names ps 0))

  same : (a : ℕ) → clauses_named a p ≡ clauses_named a (lifted_program names rs)
  same a =
      ap (clauses_named a) p_is ∙ clauses_named-append a (C ++ L) (c ∷ x.clauses)
      ∙ ap (λ l. l ++ clauses_named a (c ∷ x.clauses)) (clauses_named-append a C L)
      ∙ go (is_named a q.head) refl
      ∙ sym (ap (clauses_named a) whole ∙ clauses_named-append a (C ++ c ∷ []) (L ++ x.clauses)
      ∙ ap (λ l. l ++ clauses_named a (L ++ x.clauses)) (clauses_named-append a C (c ∷ []))
      ∙ ap (λ l. (clauses_named a C ++ clauses_named a (c ∷ [])) ++ l) (clauses_named-append a L x.clauses))
    where
      A : Program
      A = clauses_named a C

      B : Program
      B = clauses_named a L

      D : Program
      D = clauses_named a x.clauses

      go : (v : Bool) → is_named a q.head ≡ v → (clauses_named a C ++ clauses_named a L) ++ (if v then c ∷ clauses_named a x.clauses else clauses_named a x.clauses)
          ≡ (clauses_named a C ++ (if v then c ∷ [] else [])) ++ (clauses_named a L ++ clauses_named a x.clauses)
      go false e =
          append_assoc (clauses_named a C) (clauses_named a L) (clauses_named a x.clauses)
          ∙ ap (λ l. l ++ (clauses_named a L ++ clauses_named a x.clauses)) (sym (append-nil (clauses_named a C)))
      go true e =
          let none : clauses_named a L ≡ [] = apart_from_head a e in
          ap (λ l. (clauses_named a C ++ l) ++ c ∷ clauses_named a x.clauses) none
          ∙ ap (λ l. l ++ c ∷ clauses_named a x.clauses) (append-nil (clauses_named a C))
          ∙ sym (append_assoc (clauses_named a C) (c ∷ []) (clauses_named a x.clauses))
          ∙ ap (λ l. (clauses_named a C ++ c ∷ []) ++ (l ++ clauses_named a x.clauses)) (sym none)

  from : IsLiftedFrom names count rs p
  from = lifted_from names count rs p good ok fresh enough same

  question_shows : ShowsIf names count p q.body (plain_goals x.parts)
  question_shows =
      let N = predicates_in ps in
      let zero : 0 + N ≡ N = omega arith in
      let hi : x.next ≡ predicates_in rs = next-lifted_rule names q N ∙ sym sum_is in
      let more = one_more names ps q 0 N (omega arith) in
      shows_if names count fresh.apart p fresh.fixed q.vars q.line q.body N first_ok.1.body (λ i l. last_of (λ r. AvoidsIf (names i) r.body) ps (fresh.goals i l)) (omega (arith, hi, enough))
      (λ i a b.
      has_second names count fresh.apart p fresh.fixed 0 N (0 + predicates_in rs) L x.clauses (omega arith) (omega (arith, sum_is)) (subst (λ k. AllByRecursion (InNumbers names 0 k) L) zero (rules_numbers names ps 0))
      (λ j s t. has_all names count rs p good ok fresh enough same j s t ∙ ap (clauses_named (names j)) more.1) i a (omega (arith, b, hi)))

  start_follows : Follows names count rs p from (written_start q) (plain_of (start query))
  start_follows =
      let v = q.vars in
      let goals : LocalAll (λ y. y < v + 1) (plain_goals x.parts)
      = LocalAll-weaken (InRange v) (λ y. y < v + 1) (λ y l. omega (arith, l.1)) (plain_goals x.parts)
      (LocalAll-numbered v (plain_goals x.parts) (goals_called v x.parts (rule_clause names q (predicates_in ps) first_ok.1).body).1)
      in
      let tuple : LocalAll (λ y. y < v + 1) (variables v)
      = LocalAll-weaken (InRange v) (λ y. y < v + 1) (λ y l. omega (arith, l.1)) (variables v) (LocalAll-numbered v (variables v) (numbered_all-variables v v (omega arith)))
      in (
        plain_goals x.parts,
        items_show_if names count p q.body (plain_goals x.parts) question_shows,
        subst (λ d. SamePlain (state (plain_goals x.parts) (variables v) (v + 1) 0) (plain_by None (plain_goals d.body) (variables d.vars) (d.vars + 1) 0)) (sym asked)
            (subst (SamePlain (state (plain_goals x.parts) (variables v) (v + 1) 0)) (sym (plain_by-None (plain_goals x.parts) (variables v) (v + 1) 0)) (later (plain_goals x.parts) (variables v) (v + 1) (v + 1) 0 (omega arith) goals tuple)),
      )

  full : HasFullGroups (start query)
  full = subst (λ d. HasFullGroups (record { goals = d.body; tuple = variables d.vars; next = d.vars + 1; steps = 0; fault = None })) (sym asked) (AreGroups-well_formed q.vars x.parts (rule_clause names q (predicates_in ps) first_ok.1).body)

  same_traces : (r : ℕ) → AllZip SameAction (written_trace rs r (written_start q)) (trace (plain_ways p) r (plain_of (start query)))
  same_traces r = follows_trace names count rs p from r (written_start q) (plain_of (start query)) start_follows

  pub keeps : KeepsMeaning rs q (lifted_program names ps) query
  keeps = record {
    program = good;
    traces = same_traces;
    answers = λ d.
        subst (AllZip SameOutcome (map outcome (answers_in (written_trace rs d (written_start q)))))
        (sym (answers_to_depth-trace p good d (start query) full ∙ ap (λ es. map outcome (answers_in es)) (trace_to-plain_of (plain_ways p) d (start query) ∙ ap (λ k. trace (plain_ways p) k (plain_of (start query))) (omega arith))))
        (tuples_zip (written_trace rs d (written_start q)) (trace (plain_ways p) d (plain_of (start query))) (same_traces d));
    budgets = λ n d l.
        subst (SameFound (found_upto n (written_trace rs d (written_start q))))
        (sym (search-trace p good d n (start query ∷ []) (full, tt) (omega arith, tt)
        ∙ ap (found_upto n) (append-nil (trace_to (plain_ways p) d (plain_of (start query))) ∙ trace_to-plain_of (plain_ways p) d (start query) ∙ ap (λ k. trace (plain_ways p) k (plain_of (start query))) (omega arith))))
        (found_zip n (written_trace rs d (written_start q)) (trace (plain_ways p) d (plain_of (start query))) (same_traces d));
  }

pub meaning : MeaningLaw
meaning ps q names own count query ok fresh enough asked added =
    let N = predicates_in ps in
    let joint = supply N names own in
    let program : lifted_program joint ps ≡ lifted_program names ps = program_again joint names ps (λ i l. supply_first N names own i l) in
    let asks = again_if joint own N q.vars q.line q.body 0 (λ i a b. supply_last N names own i) N (omega arith) in
    subst (λ P. KeepsMeaning (ps ++ q ∷ []) q P query) program
    (keeps ps q joint count query ok fresh enough (asked ∙ ap (clause_of q) (sym asks.0)) (added ∙ sym asks.2))
