use Rattle.std.proofs.Common.{◌∙◌, subst}
use Rattle.std.specs.List.{All, flat_map}
use Rattle.ap_term.specs.WellFormed.{IsProgram}
use Rattle.ap_term.specs.Goals.{Program}
use Rattle.ap_patterns.specs.Given.{patterns, given_by_clause}
use Rattle.ap_patterns.specs.Covered.{IsHeld}
use Rattle.ap_certify.specs.GroupsGiven.{AreGroupsGiven}
use Rattle.ap_certify.specs.Refused.{entry_calls}
use Rattle.ap_certify.proofs.Predicates.{closed, same-closed}
use Rattle.ap_certify.proofs.Closed.{certified}
use Rattle.ap_certify.proofs.programs.certify.Goals as goal

pub new-requires : goal.new-requires
new-requires c =
    let t = patterns c.args.table.now in
    let A = c.args.annotated in
    let e = c.as_slice.ensures.clauses ∙ c.program-2.ensures in
    let w : IsProgram A = subst IsProgram c.program-2.ensures c.as_slice.ensures.kept in
    let entries : All (IsHeld t) (entry_calls c.args.entries.now A) = subst (λ (p : Program). All (IsHeld t) (entry_calls c.args.entries.now p)) c.program.ensures c.in_ok-hold_entries.ensures.held in
    let clauses : All (IsHeld t) (flat_map (given_by_clause t) A) = subst (λ (p : Program). All (IsHeld t) (flat_map (given_by_clause t) p)) e c.in_ok-hold_clauses.ensures.held in
    let groups : AreGroupsGiven t A = subst (AreGroupsGiven t) e c.in_ok-hold_clauses.ensures.given in
    record { given = certified c.in_ok-kept.kept A t w (same-closed c.args.entries.now c.in_ok-kept.kept A t c.in_ok-kept.ensures (closed c.args.entries.now A t entries clauses)) groups }

pub returns-clause-closed : goal.returns-clause-closed
returns-clause-closed c =
    let t = patterns c.args.table.now in
    let A = c.args.annotated in
    let e = c.as_slice.ensures.clauses ∙ c.program-2.ensures in
    let entries : All (IsHeld t) (entry_calls c.args.entries.now A) = subst (λ (p : Program). All (IsHeld t) (entry_calls c.args.entries.now p)) c.program.ensures c.in_ok-hold_entries.ensures.held in
    let clauses : All (IsHeld t) (flat_map (given_by_clause t) A) = subst (λ (p : Program). All (IsHeld t) (flat_map (given_by_clause t) p)) e c.in_ok-hold_clauses.ensures.held in
    closed c.args.entries.now A t entries clauses
