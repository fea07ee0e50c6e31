use Rattle.std.proofs.Common.{ℕ, not, List, ap, ap₂, sym, ◌∙◌}
use Rattle.std.specs.List.{filter}
use Rattle.ap_sharing.specs.VarSet.{union, meets}
use Rattle.ap_sharing.specs.Share.{Share, norm}
use Rattle.ap_absunify.proofs.Products.{pairs_fit, pairs_out}
use Rattle.ap_absunify.proofs.unifications.joined_sides.Goals as goal

-- the unions are too many
pub returns-in_default-3 : goal.returns-in_default-3
returns-in_default-3 c =
    let apart : List ℕ → ℕ → List ℕ = λ ss v. filter (λ s. not (meets s v)) ss in
    let new : List ℕ → Share = λ ss. norm (record { sets = ss; any = c.union-in_default-3.result }) in
    pairs_out c.args.plain c.args.share.now c.args.a c.args.b c.requires c.in-Some.left c.in-Some-2.right (sym c.in-Some.is ∙ c.in_ok-left.ensures) (sym c.in-Some-2.is ∙ c.in_ok-right.ensures)
    c.sets.ensures.normal c.drop_meeting.new.self c.union-in_default-3.result c.new-in_default-3.result (sym c.in_default-3.is ∙ c.in_ok-sets.ensures)
    (c.drop_meeting.ensures ∙ ap₂ apart (c.in_ok-rest.ensures ∙ c.sets.ensures.sets) c.union.ensures)
    (c.union-in_default-3.ensures ∙ ap₂ union c.any.ensures (c.union-all.ensures ∙ ap₂ union (c.union-met.ensures ∙ ap₂ union c.met.ensures c.met-2.ensures) c.union_of_all.ensures))
    (c.new-in_default-3.ensures ∙ ap new c.new.ensures)

pub returns : goal.returns
returns c =
    let apart : List ℕ → ℕ → List ℕ = λ ss v. filter (λ s. not (meets s v)) ss in
    pairs_fit c.args.plain c.args.share.now c.args.a c.args.b c.requires c.in-Some.left c.in-Some-2.right (sym c.in-Some.is ∙ c.in_ok-left.ensures) (sym c.in-Some-2.is ∙ c.in_ok-right.ensures)
    c.in-Some-3.sets c.drop_meeting.new.self c.join.new.self c.any-2.result c.new-2.result (sym c.in-Some-3.is ∙ c.in_ok-sets.ensures)
    (c.drop_meeting.ensures ∙ ap₂ apart (c.in_ok-rest.ensures ∙ c.sets.ensures.sets) c.union.ensures) c.in_ok-join.ensures c.any-2.ensures c.new-2.ensures
