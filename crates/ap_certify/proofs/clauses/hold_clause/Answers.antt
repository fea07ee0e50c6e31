use Rattle.std.proofs.Common.{◌≡◌, ◌∙◌, List, map, ap₂, subst}
use Rattle.std.specs.List.{All}
use Rattle.ap_term.specs.GoalView.{part_of}
use Rattle.ap_term.specs.TermView.{tree_of}
use Rattle.ap_term.specs.Tree.{Tree}
use Rattle.ap_term.specs.Goals.{Part, Clause}
use Rattle.ap_patterns.specs.Given.{Patterns, patterns, given_by_clause}
use Rattle.ap_patterns.specs.Covered.{IsHeld}
use Rattle.ap_certify.specs.declared.sights.Sight.{Sight}
use Rattle.ap_certify.specs.Sights.{after_parts, entry}
use Rattle.ap_certify.specs.Held.{IsBodyHeld}
use Rattle.ap_certify.specs.GroupsGiven.{IsClauseGiven}
use Rattle.ap_certify.specs.Refused.{given_at_end}
use Rattle.ap_certify.proofs.Listed.{clause_listed}
use Rattle.ap_certify.proofs.clauses.hold_clause.Goals as goal

-- what was found of a clause as its parts, of the clause itself
found : (t : Patterns) (c : Clause) (start end : Sight) (ps : List Part) (head : Tree) → start ≡ entry t c → ps ≡ c.body → head ≡ c.head → end ≡ after_parts t start ps → IsBodyHeld t start ps
    → All (IsHeld t) (given_at_end end head) → All (IsHeld t) (given_by_clause t c) × IsClauseGiven t c
found t c start end ps head s p h e body last =
    let same : end ≡ after_parts t (entry t c) c.body = e ∙ ap₂ (after_parts t) s p in
    let mine : IsBodyHeld t (entry t c) c.body = subst (IsBodyHeld t (entry t c)) p (subst (λ z. IsBodyHeld t z ps) s body) in
    clause_listed t c mine (subst (λ z. All (IsHeld t) (given_at_end z c.head)) same (subst (λ z. All (IsHeld t) (given_at_end end z)) h last))

pub returns-clause-held : goal.returns-clause-held
returns-clause-held c =
    (found (patterns c.args.table.now) c.args.clause.now c.in_ok-start.start c.in_ok-end.end (map part_of c.as_slice.result.now) (tree_of c.head.result.now) c.in_ok-start.ensures
    (c.as_slice.ensures ∙ c.body.ensures.body) c.head.ensures.head c.in_ok-end.ensures.after c.in_ok-end.ensures.held c.in_ok-hold_success.ensures.held).0

pub returns-clause-given : goal.returns-clause-given
returns-clause-given c =
    (found (patterns c.args.table.now) c.args.clause.now c.in_ok-start.start c.in_ok-end.end (map part_of c.as_slice.result.now) (tree_of c.head.result.now) c.in_ok-start.ensures
    (c.as_slice.ensures ∙ c.body.ensures.body) c.head.ensures.head c.in_ok-end.ensures.after c.in_ok-end.ensures.held c.in_ok-hold_success.ensures.held).1
