-- A query that is asked by a clause for `?-`.
use Rattle.std.proofs.Common.{◌≡◌, ℕ, ◌-◌, ◌^◌, ◌<◌, ◌≤◌, min, List, [], ◌∷◌, map, length, slice_get, Option, Result, Ok, Err, Some, None, IfOk, refl, ap, sym, ◌∙◌, subst, rules}
use Rattle.ap_outside.specs.Halting.{Finishes, SinkCount}
use Rattle.ap_outside.specs.declared.halting.Halt.TheVariants as halt
use Rattle.ap_outside.proofs.Puts.{puts_map}
use Rattle.ap_outside.specs.Pieces.{Puts}
use Rattle.ap_outside.specs.declared.halting.Halt.{Halt}
use Rattle.ap_outside.proofs.Halts.{halts_map}
use Rattle.ap_term.specs.declared.fixed.TheConstants.{QUERY}
use Rattle.ap_term.specs.Tree.{Trees}
use Rattle.ap_term.specs.Goals.{Program, Query, joined}
use Rattle.ap_term.specs.Search.{start, variables}
use Rattle.ap_term.specs.Blocks.{IsPrefix, IsBlock}
use Rattle.ap_term.specs.UpToNames.{SameUpToNames}
use Rattle.ap_term.specs.WellFormed.{IsProgram, IsQuery}
use Rattle.ap_graft.specs.Starts.{tracked_start}
use Rattle.ap_instr.specs.Code.{Compiled}
use Rattle.ap_instr.specs.StandsFor.{asked_query, StandsForQuery}
use Rattle.ap_machine.specs.Started.{IsAsked}
use Rattle.ap_tie.specs.Sections.{Section}
use Rattle.ap_tied.specs.Ties.{IsSearched}
use Rattle.ap_core.specs.Relation.{Rules}
use Rattle.ap_open.specs.Away.{IsSolvingBeside}
use Rattle.ap_open.specs.Opened.{IsSolving}
use Rattle.ap_open.specs.Sharing.{OutcomeLaw}
use Rattle.ap_open.specs.Solving.{SolvingLaw}
use Rattle.ap_open.specs.Ungrouped.{AreCalls, IsUngrouped}
use Rattle.ap_open.specs.Reading.{AreRead, IsSafeQuery, rules_beside, ReadingLaw}
use Rattle.ap_section.specs.Ends.{Begins}
use Rattle.ap_stack.specs.declared.stack.Stack.{Stack}
use Rattle.ap_stack.specs.Stacks.{code_in, section_in}
use Rattle.ap_ledger.specs.declared.share.Total.{Total}
use Rattle.ap_worker.specs.declared.emission.Answered.{Answered}
use Rattle.ap_worker.specs.declared.emission.End.{End}
use Rattle.ap_worker.specs.declared.emission.Ended.{Ended}
use Rattle.ap_section.specs.Views.{budget_in}
use Rattle.ap_section.specs.Owed.{owed}
use Rattle.ap_worker.specs.Totals.{IsFresh, ended_with}
use Rattle.ap_worker.specs.Charged.{IsChargedBlock, IsChargedEnd}
use Rattle.ap_worker.specs.Ends.{end_of}
use Rattle.ap_worker.specs.Sought.{MayBeAsked}

pub is-asked : (code : Compiled) (p : Program) (q : Query) → IsQuery q → StandsForQuery code p q → MayBeAsked p q → IsAsked code p q
is-asked code p q is stands may = record { is_query = is; stands = stands; program = may.program; lifted = may.lifted }

-- a section that begins by the query's predicate makes the query's search
pub begun-solves : SolvingLaw → (code : Compiled) (p : Program) (q : Query) (number rest n : ℕ) (ts : Trees) (s : Section) → Begins code ts number rest s → code.query ≡ Some number → n ≡ length q.names → SameUpToNames ts (variables n)
    → IsAsked code p q → IsSearched code (rules_beside p q) (tracked_start q) → IsSolving code (rules_beside p q) (tracked_start q) (start q) rest [] s []
begun-solves law code p q number rest n ts s begins is count same asked searched =
    let holds = begins.1.asks is p q asked (subst (λ k. SameUpToNames ts (variables k)) (count ∙ asked.is_query.named) same) in
    subst (λ v. IsSolving code (rules_beside p q) (tracked_start q) (start q) rest [] v []) (sym begins.3) (law.begun code (rules_beside p q) q begins.0.machine rest asked.is_query searched holds)

pub begun-fresh : (code : Compiled) (number rest : ℕ) (ts : Trees) (s : Section) → Begins code ts number rest s → IsFresh rest s
begun-fresh code number rest ts s begins = record { given = ap budget_in begins.3; owes = ap owed begins.3 }

-- ---- what was read

turned : (p a : Program) (q b : Query) → AreRead p q a b → AreRead a b p q
turned p a q b h = record { same_program = sym h.same_program; same_question = sym h.same_question; same_lifted = sym h.same_lifted }

-- with the total of all calls
with-total : (t : Total) (n m : ℕ) (o o' : Option (List (List ℕ))) (E F : End → List (List ℕ) → Type 0) (r : Result Answered Halt) → ((e : End) (put : List (List ℕ)) → E e put → F e put) → Finishes o o' (λ (a : Answered) put. E a.end put) r
    → Finishes o o' (λ (a : Ended) put. F a.end put) (ended_with t n m r)
with-total t n m o o' E F (Ok a) f h = puts_map o o' (E a.end) (F a.end) (f a.end) h
with-total t n m o o' E F (Err e) f h =
    halts_map o o' (λ (a : Answered) put. E a.end put) (λ (a : Ended) put. F a.end put) (λ ls any. (record { end = any.0.end; charged = any.0.charged; total = t; taken = n; stolen = m }, f any.0.end ls any.1)) e h

pub total-counts : (t : Total) (n m before now : ℕ) (r : Result Answered Halt) → SinkCount before now r → SinkCount before now (ended_with t n m r)
total-counts t n m before now (Ok a) h = h
total-counts t n m before now (Err halt.Sink) h = h
total-counts t n m before now (Err halt.NoMemory) h = h

-- what was charged is a part of it
pub total-paid : (t : Total) (n m : ℕ) (r : Result Answered Halt) (share : ℕ) → min share (2 ^ 64 - 1) ≤ t.sum → IfOk r (λ e. e.charged < 2 ^ 64) → IfOk r (λ e. e.charged ≤ share) → IfOk (ended_with t n m r) (λ e. e.charged ≤ e.total.sum)
total-paid t n m (Ok a) share least few most = most-of a.charged share t.sum few most least
  where
    most-of : (c share sum : ℕ) → c < 2 ^ 64 → c ≤ share → min share (2 ^ 64 - 1) ≤ sum → c ≤ sum
    most-of c share sum few most least = search rules
total-paid t n m (Err e) share least few most = tt

-- the query's search by its code, and the lines that it puts
module _ (law : ReadingLaw) (code : Compiled) (a : Program) (b : Query) (good : IsProgram a) (is : IsQuery b) (may : MayBeAsked a b) (stands : StandsForQuery code a b) where
  pub is-searched : IsSafeQuery a b → IsSearched code (rules_beside a b) (tracked_start b)
  is-searched safe = law.searched code a b good is may.calls safe stands.stands

  pub read-finishes : (line : Trees → List ℕ) (budget limit : ℕ) (o o' : Option (List (List ℕ))) (t : Total) (n m : ℕ) (r : Result Answered Halt) (p : Program) (q : Query) → IsProgram p → IsQuery q → AreRead p q a b
      → Finishes o o' (λ e put. IsBlock line (joined a (asked_query b)) (start b) budget limit put (end_of e.end)) r → Finishes o o' (λ e put. IsBlock line (joined p q) (start q) budget limit put (end_of e.end)) (ended_with t n m r)
  read-finishes line budget limit o o' t n m r p q fine asks read h =
      let never = law.never_calls a p b q QUERY (turned p a q b read) may.calls in
      with-total t n m o o' (λ e put. IsBlock line (joined a (asked_query b)) (start b) budget limit put (end_of e)) (λ e put. IsBlock line (joined p q) (start q) budget limit put (end_of e)) r
      (λ e put block. law.blocks line p a q b budget limit put (end_of e) fine asks good is read never block) h

  abbrev Searched : (Trees → List ℕ) → ℕ → ℕ → Answered → List (List ℕ) → Type 0
  Searched line budget limit e put = IsChargedEnd line (joined a (asked_query b)) (start b) budget limit (IsUngrouped (joined a (asked_query b)) × AreCalls b.question.body) e.end e.charged put

  pub read-charged : (line : Trees → List ℕ) (budget limit : ℕ) (o o' : Option (List (List ℕ))) (t : Total) (n m : ℕ) (r : Result Answered Halt) (p : Program) (q : Query) → IsProgram p → IsQuery q → AreRead p q a b
      → IfOk r (λ e. Puts o o' (Searched line budget limit e)) → IfOk (ended_with t n m r) (λ e. Puts o o' (IsChargedBlock line (joined p q) (start q) budget limit (IsUngrouped (joined a b)) e))
  read-charged line budget limit o o' t n m (Err h) p q fine asks read k = tt
  read-charged line budget limit o o' t n m (Ok e) p q fine asks read (put, adds, k) =
      let never = law.never_calls a p b q QUERY (turned p a q b read) may.calls in (
        put,
        adds,
        record {
          block = law.blocks line p a q b budget limit put (end_of e.end) fine asks good is read never k.block;
          charged = law.charges line p a q b e.charged put fine asks good is read never k.charged;
          spent = k.spent;
          found = λ bare. subst (λ f. IsPrefix put (map line f.answers)) (law.searches p a q b e.charged fine asks good is read never) (k.found (law.ungrouped a b bare));
          ended = λ bare end. ap (λ f. f.ended) (sym (law.searches p a q b e.charged fine asks good is read never)) ∙ k.ended (law.ungrouped a b bare) end;
        },
      )

-- the search of the query by the sections of whoever leads
pub leads-solving : OutcomeLaw → (code : Compiled) (r : Rules) (b : Query) (budget : ℕ) (s : Stack) (v : Section) → code_in s ≡ code → section_in s ≡ v → IsSolving code r (tracked_start b) (start b) budget [] v []
    → IsSolvingBeside (code_in s) r (tracked_start b) (start b) budget [] (section_in s) [] []
leads-solving law code r b budget s v is same h =
    subst (λ k. IsSolvingBeside k r (tracked_start b) (start b) budget [] (section_in s) [] []) (sym is)
    (subst (λ u. IsSolvingBeside code r (tracked_start b) (start b) budget [] u [] []) (sym same) (law.beside_is code r (tracked_start b) (start b) budget v [] h))
