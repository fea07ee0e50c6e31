use Rattle.std.proofs.Common.{◌≡◌, [], length, IfSome, ap, sym, subst, ◌∙◌}
use Rattle.std.proofs.lemmas.List.{nil_from_length}
use Rattle.std.proofs.lemmas.Bool.Decides.{Decides-eqb}
use Rattle.ap_alike.specs.Fitted.{IsFittedClause}
use Rattle.ap_grouping.proofs.Regrouped.{regrouped}
use Rattle.ap_grouping.proofs.again.regroup_query.Goals as goal

pub returns : goal.returns
returns c = λ kind p a q bare good groups.
    let grouped = c.args.grouped.now in
    let asked = c.args.query.now in
    let again = c.new-again.result in
    let l0 : grouped.lifted ≡ [] = sym c.lifted.ensures ∙ nil_from_length c.lifted.result.now ((Decides-eqb (length c.lifted.result.now) 0).0 (sym c.is_empty.ensures ∙ c.if-not-is_empty.false)) in
    let l1 : asked.lifted ≡ [] =
    sym c.lifted-else-not-is_empty.ensures
    ∙ nil_from_length c.lifted-else-not-is_empty.result.now
    ((Decides-eqb (length c.lifted-else-not-is_empty.result.now) 0).0 (sym c.is_empty-else-not-is_empty.ensures ∙ c.if-not-is_empty-2.false)) in
    let fit : IsFittedClause c.question.result.now c.question-2.result.now c.in-Some.question =
    subst (λ o. IfSome o (λ x. IsFittedClause c.question.result.now c.question-2.result.now x)) c.in-Some.is c.in_ok-question.ensures in
    let same : c.in-Some.question ≡ again.question = sym (ap (λ x. x.question) c.new-again.ensures) in
    regrouped c.alike_law.ensures kind p a q grouped asked again bare l0 l1 (ap (λ x. x.lifted) c.new-again.ensures ∙ c.new.ensures)
    (ap (λ x. x.names) c.new-again.ensures ∙ c.in_ok-names.ensures ∙ c.names.ensures.names) good c.question-formed.ensures.kept
    (subst (λ x. IsFittedClause grouped.question asked.question x) same
    (subst (λ x. IsFittedClause x asked.question c.in-Some.question) c.question.ensures.question
    (subst (λ x. IsFittedClause c.question.result.now x c.in-Some.question) c.question-2.ensures.question fit)))
    groups
