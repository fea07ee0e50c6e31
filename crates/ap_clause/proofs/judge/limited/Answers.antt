use Rattle.std.proofs.Common.{◌≡◌, ◌+◌, ◌∙◌, ap, subst, sym}
use Rattle.ap_term.specs.TermView.{tree_of}
use Rattle.ap_lifting.specs.BodyView.{body_if}
use Rattle.ap_lifting.specs.Rule.{Rule}
use Rattle.ap_lifting.specs.Sizes.{held, AreSizesOf}
use Rattle.ap_clause.specs.Clause.{rule_of}
use Rattle.ap_clause.specs.Limit.{own_clauses, outcome}
use Rattle.ap_clause.proofs.Limits.{limited_passed, limited_exact}
use Rattle.ap_clause.proofs.judge.limited.Goals as goal

pub returns-in-Some : goal.returns-in-Some
returns-in-Some c = λ t narrow.
    let r = rule_of (tree_of c.args.halves.0, body_if c.args.halves.1) c.args.vars c.args.line in
    let s = c.sizes_of-sizes.result in
    let sizes : AreSizesOf 0 (outcome r) s = subst (λ (q : Rule). AreSizesOf 0 (outcome q) s) c.new-rule.ensures (c.sizes_of-sizes.ensures (λ _. 0) 0) in
    let own : c.saturating_add-own.result ≡ held (own_clauses c.args.source + s.clauses) = c.saturating_add-own.ensures ∙ ap (λ n. held (n + s.clauses)) c.own_clauses.ensures in
    limited_passed c.args.source t r c.args.before s c.saturating_add-own.result c.saturating_add-clauses.result _
    c.if-vars-gt-MAX_VARIABLES.false (sym narrow ∙ c.if-not-narrow.false) sizes own c.saturating_add-clauses.ensures (sym c.in-Some.is ∙ c.passed_lifted.ensures)

pub returns-in-None : goal.returns-in-None
returns-in-None c = λ t narrow.
    let r = rule_of (tree_of c.args.halves.0, body_if c.args.halves.1) c.args.vars c.args.line in
    let s = c.sizes_of-sizes.result in
    let sizes : AreSizesOf 0 (outcome r) s = subst (λ (q : Rule). AreSizesOf 0 (outcome q) s) c.new-rule.ensures (c.sizes_of-sizes.ensures (λ _. 0) 0) in
    let own : c.saturating_add-own.result ≡ held (own_clauses c.args.source + s.clauses) = c.saturating_add-own.ensures ∙ ap (λ n. held (n + s.clauses)) c.own_clauses.ensures in
    let none = sym c.in-None.is ∙ c.passed_lifted.ensures in (
      limited_passed c.args.source t r c.args.before s c.saturating_add-own.result c.saturating_add-clauses.result _
          c.if-vars-gt-MAX_VARIABLES.false (sym narrow ∙ c.if-not-narrow.false) sizes own c.saturating_add-clauses.ensures none,
      c.new-rule.ensures,
      limited_exact c.args.source r c.args.before s c.saturating_add-own.result c.saturating_add-clauses.result sizes own c.saturating_add-clauses.ensures (sym none),
    )
