-- The program and the query that were read, beside those that are searched: with groups, and asked by a call of `?-`.
use Rattle.std.specs.Prelude.{◌≡◌, ℕ, false, List, [], ◌∷◌}
use Rattle.ap_term.specs.declared.fixed.TheConstants.{QUERY}
use Rattle.ap_term.specs.Tree.{Trees, atom}
use Rattle.ap_term.specs.Goals.{Program, Query, joined}
use Rattle.ap_term.specs.Search.{start, search}
use Rattle.ap_term.specs.Blocks.{End, IsBlock}
use Rattle.ap_term.specs.WellFormed.{IsProgram, IsQuery}
use Rattle.ap_core.specs.Relation.{Rules}
use Rattle.ap_cge.specs.Stripped.{stripped, stripped_clause}
use Rattle.ap_tracked.specs.Safe.{IsSafe}
use Rattle.ap_tracked.specs.Forks.{alone}
use Rattle.ap_graft.specs.Starts.{tracked_start}
use Rattle.ap_graft.specs.Uncalled.{NeverCalls}
use Rattle.ap_instr.specs.Code.{Compiled}
use Rattle.ap_instr.specs.StandsFor.{asked_query, StandsFor}
use Rattle.ap_tied.specs.Ties.{IsSearched}
use Rattle.ap_open.specs.Ungrouped.{AreCalls, IsUngrouped}
use Rattle.ap_open.specs.Solving.{IsCharged}

-- Without groups and checks the program and the query are those that were read.
pub record AreRead (program : Program) (query : Query) (a : Program) (q : Query) : Type 0 where
  pub same_program : stripped a ≡ stripped program
  pub same_question : stripped_clause q.question ≡ stripped_clause query.question
  pub same_lifted : stripped q.lifted ≡ stripped query.lifted

-- the call of the query is safe: at each group that it comes to the written checks are enough
abbrev pub IsSafeQuery : Program → Query → Type 0
IsSafeQuery a q = IsSafe (joined a q) (alone (atom QUERY) 0)

-- the rules by which a query is searched beside a program; no goal may meet a fault
abbrev pub rules_beside : Program → Query → Rules
rules_beside a q = record { program = joined a (asked_query q); loud = λ g. false }

pub record ReadingLaw : Type 0 where
  pub never_calls : (program a : Program) (query q : Query) (name : ℕ) → AreRead program query a q → NeverCalls name (joined program query) → NeverCalls name (joined a q)
  pub searched : (code : Compiled) (a : Program) (q : Query) → IsProgram a → IsQuery q → NeverCalls QUERY (joined a q) → IsSafeQuery a q → StandsFor code (joined a (asked_query q))
      → IsSearched code (rules_beside a q) (tracked_start q)
  -- groups, and the arguments of `?-`, are no matter to answers
  pub blocks : (line : Trees → List ℕ) (program a : Program) (query q : Query) (budget limit : ℕ) (ls : List (List ℕ)) (end : End)
      → IsProgram program → IsQuery query → IsProgram a → IsQuery q → AreRead program query a q → NeverCalls QUERY (joined program query)
      → IsBlock line (joined a (asked_query q)) (start q) budget limit ls end → IsBlock line (joined program query) (start query) budget limit ls end
  pub charges : (line : Trees → List ℕ) (program a : Program) (query q : Query) (c : ℕ) (ls : List (List ℕ))
      → IsProgram program → IsQuery query → IsProgram a → IsQuery q → AreRead program query a q → NeverCalls QUERY (joined program query)
      → IsCharged line (joined a (asked_query q)) (start q) c ls → IsCharged line (joined program query) (start query) c ls
  pub searches : (program a : Program) (query q : Query) (n : ℕ) → IsProgram program → IsQuery query → IsProgram a → IsQuery q → AreRead program query a q → NeverCalls QUERY (joined program query)
      → search (joined a (asked_query q)) n (start q ∷ []) ≡ search (joined program query) n (start query ∷ [])
  pub ungrouped : (a : Program) (q : Query) → IsUngrouped (joined a q) → IsUngrouped (joined a (asked_query q)) × AreCalls q.question.body
