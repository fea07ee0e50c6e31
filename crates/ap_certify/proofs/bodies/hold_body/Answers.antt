use Rattle.std.proofs.Common.{◌≡◌, ℕ, ◌+◌, ◌∙◌, ◌∷◌, drop, map, sym, ap, subst, inl}
use Rattle.std.proofs.lemmas.List.{drop_more}
use Rattle.std.proofs.lemmas.Result.{err_from_is_err_and}
use Rattle.ap_term.specs.declared.clauses.Check.{Check}
use Rattle.ap_term.specs.GoalView.{part_of}
use Rattle.ap_patterns.specs.declared.slots.Given.{Given}
use Rattle.ap_patterns.specs.Given.{patterns}
use Rattle.ap_certify.specs.Refused.{BodyGives, BodyLeavesOut, PartGives, PartLeavesOut}
use Rattle.ap_certify.proofs.Errors.{fault-more}
use Rattle.ap_certify.proofs.bodies.hold_body.Goals as goal

-- a fault of the part that is gone through is one of the body
pub returns-in_err-sight-clause-fault : goal.returns-in_err-sight-clause-fault
returns-in_err-sight-clause-fault c =
    let t = patterns c.args.table.now in
    let parts = c.args.parts.now in
    let p = part_of c.part-item.result in
    let sight = c.loop-part.sight in
    let number = c.loop-part.number in
    let left : map part_of (drop c.loop-part.part-index parts) ≡ p ∷ map part_of (drop (c.loop-part.part-index + 1) parts) =
    ap (map part_of) (drop_more parts c.loop-part.part-index c.part-item.result c.loop-part-test.true) ∙ ap (λ q. part_of q ∷ map part_of (drop (c.loop-part.part-index + 1) parts)) (sym c.part-item.is) in
    let gives : (k : ℕ) (g : Given) → PartGives t sight number p k g → BodyGives t c.args.s 1 (map part_of parts) k g =
    λ k g h. c.loop-part.invariant.gives k g (subst (λ ps. BodyGives t sight number ps k g) (sym left) (inl h)) in
    let leaves : (k : ℕ) (d : Check) → PartLeavesOut sight number p k d → BodyLeavesOut t c.args.s 1 (map part_of parts) k d =
    λ k d h. c.loop-part.invariant.leaves_out k d (subst (λ ps. BodyLeavesOut t sight number ps k d) (sym left) (inl h)) in
    let q = err_from_is_err_and c.from_residual.result c.from_residual.ensures.1 in
    rw (q.1, q.2) (fault-more c.args.clause t (PartGives t sight number p) (BodyGives t c.args.s 1 (map part_of parts)) (PartLeavesOut sight number p) (BodyLeavesOut t c.args.s 1 (map part_of parts)) gives leaves c.in_err-sight.field-0.0 c.in_err-sight.ensures.fault)
