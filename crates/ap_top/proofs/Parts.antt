-- Queries beside the part of a program that they reach.
use Rattle.std.proofs.Common.{◌≡◌, ℕ, false, true, List, map, Option, Result, Ok, Err, IfOk, subst}
use Rattle.ap_outside.specs.Pieces.{Puts}
use Rattle.ap_outside.specs.Halting.{Finishes}
use Rattle.ap_outside.specs.declared.halting.Halt.{Halt}
use Rattle.ap_outside.proofs.Puts.{puts_map}
use Rattle.ap_outside.proofs.Halts.{finishes_map}
use Rattle.ap_term.specs.declared.fixed.TheConstants.{QUERY}
use Rattle.ap_term.specs.Goals.{Program, Query, joined}
use Rattle.ap_term.specs.Search.{start}
use Rattle.ap_term.specs.Blocks.{IsPrefix}
use Rattle.ap_term.specs.WellFormed.{IsProgram}
use Rattle.ap_graft.specs.Uncalled.{BodyIsOther}
use Rattle.ap_machine.specs.Started.{HasName}
use Rattle.ap_reach.specs.Reached.{IsReached}
use Rattle.ap_reach.proofs.Blocks.{block, of-program, of-joined}
use Rattle.ap_reach.proofs.Same.{restriction}
use Rattle.ap_mel.specs.declared.annotations.Kind.{Kind}
use Rattle.ap_grouping.specs.Groups.{AreGroups}
use Rattle.ap_open.specs.Ungrouped.{IsUngrouped}
use Rattle.ap_worker.specs.declared.emission.Ended.{Ended}
use Rattle.ap_worker.specs.Charged.{IsChargedBlock}
use Rattle.ap_worker.specs.Ends.{end_of}
use Rattle.ap_worker.specs.Sought.{MayBeAsked}
use Rattle.ap_worker.specs.Totals.{NoneTaken}
use Rattle.ap_top.specs.Output.{line_of, IsCounted}
use Rattle.ap_top.proofs.Printing.{Solved}

pub part-asked : (p : Program) (q : Query) (r : Program) → IsReached p q r → MayBeAsked p q → MayBeAsked r q
part-asked p q r part may = record {
  calls = of-joined (BodyIsOther QUERY) p q r part may.calls;
  program = of-program (λ c. HasName QUERY c.head → ⊥) p q r part may.program;
  lifted = may.lifted;
}

module _ (budget limit : ℕ) (p : Program) (table : List (List ℕ)) (q : Query) (r : Program) (good : IsProgram p) (part : IsReached p q r) where
  same : (e : Ended) (put : List (List ℕ)) → Solved budget limit r table q e put → Solved budget limit p table q e put
  same e put = block (line_of table q) p q r budget limit put (end_of e.end) good part

  pub part-finishes : (a b : Option (List (List ℕ))) (r' : Result Ended Halt) → Finishes a b (Solved budget limit r table q) r' → Finishes a b (Solved budget limit p table q) r'
  part-finishes a b r' h = finishes_map a b (Solved budget limit r table q) (Solved budget limit p table q) r' same h

  pub part-puts : (e : Ended) (a b : Option (List (List ℕ))) → Puts a b (Solved budget limit r table q e) → Puts a b (Solved budget limit p table q e)
  part-puts e a b h = puts_map a b (Solved budget limit r table q e) (Solved budget limit p table q e) (same e) h

  same-charged : (P : Type 0) (e : Ended) (put : List (List ℕ)) → IsChargedBlock (line_of table q) (joined r q) (start q) budget limit P e put → IsChargedBlock (line_of table q) (joined p q) (start q) budget limit P e put
  same-charged P e put h = record {
    block = same e put h.block;
    charged = λ n few. subst (λ f. (f.ended ≡ false) × IsPrefix (map (line_of table q) f.answers) put) (restriction p q r good part n) (h.charged n few);
    spent = h.spent;
    found = λ c. subst (λ f. IsPrefix put (map (line_of table q) f.answers)) (restriction p q r good part e.charged) (h.found c);
    ended = λ c all. subst (λ f. f.ended ≡ true) (restriction p q r good part e.charged) (h.ended c all);
  }

  -- so is what is charged, and told of the calls
  pub part-counted : (kind : Kind) (grouped : Program) (asked : Query) → AreGroups kind r q grouped asked → (a b : Option (List (List ℕ))) (r' : Result Ended Halt)
      → IfOk r' (λ e. Puts a b (IsChargedBlock (line_of table q) (joined r q) (start q) budget limit (IsUngrouped (joined grouped asked)) e))
      → (IsUngrouped (joined grouped asked) → IfOk r' (λ e. e.total.sum ≡ e.charged)) → (IsUngrouped (joined grouped asked) → IfOk r' NoneTaken)
      → IfOk r' (λ e. Puts a b (IsCounted kind budget limit p table q e))
  part-counted kind grouped asked groups a b (Err h) charged exact plain = tt
  part-counted kind grouped asked groups a b (Ok e) charged exact plain =
      puts_map a b (IsChargedBlock (line_of table q) (joined r q) (start q) budget limit (IsUngrouped (joined grouped asked)) e) (IsCounted kind budget limit p table q e)
      (λ put h. record {
        part = r;
        grouped = grouped;
        asked = asked;
        reached = part;
        groups = groups;
        charged = same-charged (IsUngrouped (joined grouped asked)) e put h;
        exact = exact;
        plain = plain;
      }) charged
