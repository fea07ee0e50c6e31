use Rattle.std.proofs.Common.{◌≡◌, ◌<◌, []}
use Rattle.ap_term.specs.Goals.{Query}
use Rattle.ap_term.specs.Search.{start}
use Rattle.ap_term.specs.WellFormed.{IsQuery}
use Rattle.ap_core.specs.Relation.{Rules}
use Rattle.ap_graft.specs.Starts.{tracked_start}
use Rattle.ap_open.specs.Away.{IsSolvingBeside}
use Rattle.ap_open.specs.Ungrouped.{AreCalls, IsUngrouped}
use Rattle.ap_stack.specs.Counts.{Counts}
use Rattle.ap_stack.specs.Stacks.{code_in, section_in}
use Rattle.ap_worker.specs.Leads.{IsAlone, IsLeading}
use Rattle.ap_worker.proofs.Finding.{FindingBy}
use Rattle.ap_worker.proofs.found.put_found.Given as goal

abbrev pub invariant-loop-step : goal.invariant-loop-step
invariant-loop-step g l = record {
  leads : IsLeading l.lead;
  code : code_in l.lead.query ≡ code_in l.fn.lead.query;
  short : l.count < l.bounds.limit;
  faults : g.K.Sink.faults l.out ≡ g.K.Sink.faults l.fn.out;
  found : (p : Rules) (q : Query) → IsQuery q → IsSolvingBeside (code_in l.fn.lead.query) p (tracked_start q) (start q) l.bounds.budget [] (section_in l.fn.lead.query) [] []
      → FindingBy (g.A.Answers.line l.answers) (code_in l.fn.lead.query) p q l.bounds.budget l.count (g.K.Sink.pieces l.fn.out) (g.K.Sink.pieces l.out) l.lead.worker.post l.lead.query;
  counts : (p : Rules) (q : Query) → IsQuery q → IsSolvingBeside (code_in l.fn.lead.query) p (tracked_start q) (start q) l.bounds.budget [] (section_in l.fn.lead.query) [] [] → Counts l.bounds.budget l.fn.lead.query → Counts l.bounds.budget l.lead.query;
  alone : (p : Rules) (q : Query) → IsQuery q → IsSolvingBeside (code_in l.fn.lead.query) p (tracked_start q) (start q) l.bounds.budget [] (section_in l.fn.lead.query) [] [] → IsUngrouped p.program → AreCalls q.question.body → IsAlone l.fn.lead → IsAlone l.lead;
}
