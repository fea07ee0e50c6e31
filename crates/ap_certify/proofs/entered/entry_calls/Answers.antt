use Rattle.std.proofs.Common.{◌≤◌, ◌∙◌, List, [], ap, sym, subst}
use Rattle.std.specs.List.{All}
use Rattle.ap_patterns.specs.declared.tables.Predicate.{Predicate}
use Rattle.ap_certify.specs.Refused.{predicates_behind}
use Rattle.ap_certify.proofs.Predicates.{arities-few}
use Rattle.ap_certify.proofs.entered.entry_calls.Goals as goal

pub calls_of_any-requires : goal.calls_of_any-requires
calls_of_any-requires c =
    let e = c.as_slice-in-All.ensures.value ∙ c.in_ok-predicates-in-All.ensures ∙ ap (predicates_behind []) c.as_slice.ensures.clauses in
    let P : List Predicate → Type 0 = λ ps. All (λ p. p.arity ≤ 255) ps in
    subst P (sym e) (arities-few c.args.program.now c.as_slice.ensures.kept)
