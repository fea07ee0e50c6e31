use Rattle.std.proofs.Common.{subst}
use Rattle.std.specs.List.{All, flat_map}
use Rattle.std.proofs.lemmas.Result.{err_from_is_err_and}
use Rattle.std.proofs.lemmas.List.{take_all}
use Rattle.std.proofs.lemmas.List.Elements.{All-more}
use Rattle.ap_term.specs.Goals.{Clause, Program}
use Rattle.ap_patterns.specs.Given.{patterns, given_by_clause}
use Rattle.ap_patterns.specs.Covered.{IsHeld}
use Rattle.ap_certify.specs.GroupsGiven.{IsClauseGiven}
use Rattle.ap_certify.proofs.Errors.{clause_fault}
use Rattle.ap_certify.proofs.Predicates.{flat_held-more}
use Rattle.ap_certify.proofs.clauses.hold_clauses.Goals as goal

pub loop-i-preserved : goal.loop-i-preserved
loop-i-preserved c =
    let t = patterns c.args.table.now in
    let P : Clause → Type 0 = λ d. All (IsHeld t) (given_by_clause t d) in
    let Q : Clause → Type 0 = IsClauseGiven t in
    record {
      held = flat_held-more (IsHeld t) (given_by_clause t) c.args.clauses.now c.loop-i.i c.index-clauses-i.result c.loop-i-test.true c.loop-i.invariant.held (subst P c.index-clauses-i.is c.in_ok-hold_clause.ensures.held);
      given = All-more Q c.args.clauses.now c.loop-i.i c.index-clauses-i.result c.loop-i-test.true c.loop-i.invariant.given (subst Q c.index-clauses-i.is c.in_ok-hold_clause.ensures.given);
    }

pub returns-clause-held : goal.returns-clause-held
returns-clause-held c =
    let t = patterns c.args.table.now in
    let P : Program → Type 0 = λ p. All (IsHeld t) (flat_map (given_by_clause t) p) in
    subst P (take_all c.loop-i.i c.args.clauses.now c.loop-i-test.false) c.loop-i.invariant.held

pub returns-clause-given : goal.returns-clause-given
returns-clause-given c =
    let P : Program → Type 0 = All (IsClauseGiven (patterns c.args.table.now)) in
    subst P (take_all c.loop-i.i c.args.clauses.now c.loop-i-test.false) c.loop-i.invariant.given

pub returns-in_err-hold_clause-clause-fault : goal.returns-in_err-hold_clause-clause-fault
returns-in_err-hold_clause-clause-fault c =
    let p = err_from_is_err_and c.from_residual.result c.from_residual.ensures.1 in
    rw (p.1, p.2) (clause_fault (patterns c.args.table.now) c.args.clauses.now c.loop-i.i c.index-clauses-i.result c.in_err-hold_clause.field-0.0 c.loop-i-test.true c.index-clauses-i.is c.in_err-hold_clause.ensures.fault)
