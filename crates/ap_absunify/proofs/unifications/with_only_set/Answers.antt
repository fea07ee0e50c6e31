use Rattle.std.proofs.Common.{ℕ, List, not, ap, sym, ◌∙◌}
use Rattle.std.specs.List.{filter}
use Rattle.ap_sharing.specs.VarSet.{union, meets}
use Rattle.ap_sharing.specs.Sets.{join_sets, pairs}
use Rattle.ap_sharing.proofs.Elements.{union_comm}
use Rattle.ap_sharing.proofs.Made.{pairs_comm}
use Rattle.ap_absunify.proofs.unifications.with_only_set.Goals as goal

pub returns-in-Some : goal.returns-in-Some
returns-in-Some c =
    let a = c.args.a in
    let b = c.args.b in
    let met : ℕ → List ℕ → List ℕ = λ v ss. filter (λ s. meets s v) ss in
    let apart : ℕ → List ℕ → List ℕ = λ v ss. filter (λ s. not (meets s v)) ss in
    let ss = c.sets-sets.result.now in
    c.in_ok-joined.ensures ∙ ap (λ ones. join_sets (pairs (met a ss) ones) (apart (union a b) ss)) (sym c.in-Some.ensures)
    ∙ ap (λ rs. join_sets (pairs (met a rs) (met b rs)) (apart (union a b) rs)) c.sets-sets.ensures.sets

pub returns-in-Some-only_meeting : goal.returns-in-Some-only_meeting
returns-in-Some-only_meeting c =
    let a = c.args.a in
    let b = c.args.b in
    let met : ℕ → List ℕ → List ℕ = λ v ss. filter (λ s. meets s v) ss in
    let apart : ℕ → List ℕ → List ℕ = λ v ss. filter (λ s. not (meets s v)) ss in
    let ss = c.sets-sets.result.now in
    c.in_ok-joined-2.ensures ∙ ap (λ ones. join_sets (pairs (met b ss) ones) (apart (union b a) ss)) (sym c.in-Some-only_meeting.ensures)
    ∙ ap (λ ps. join_sets ps (apart (union b a) ss)) (pairs_comm (met b ss) (met a ss)) ∙ ap (λ v. join_sets (pairs (met a ss) (met b ss)) (apart v ss)) (union_comm b a)
    ∙ ap (λ rs. join_sets (pairs (met a rs) (met b rs)) (apart (union a b) rs)) c.sets-sets.ensures.sets
