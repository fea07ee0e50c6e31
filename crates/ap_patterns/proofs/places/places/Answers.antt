use Rattle.std.proofs.Common.{Bool, ℕ, ◌+◌, if◌then◌else◌, ap, ap₂, ◌∙◌, refl, arith}
use Rattle.ap_sharing.specs.VarSet.{union, empty}
use Rattle.ap_sharing.proofs.Elements.{empty-union}
use Rattle.ap_patterns.specs.Places.{places}
use Rattle.ap_patterns.proofs.Arguments.{places-turn, sets_done}
use Rattle.ap_patterns.proofs.places.places.Goals as goal

pub loop-i-preserved : goal.loop-i-preserved
loop-i-preserved c =
    let pick : Bool → ℕ → ℕ = λ b v. if b then v else empty in
    places-turn c.args.s c.loop-i.found c.union-found.result c.loop-i.i c.index-sets-i.result (union c.new-found.result (places 1 c.args.s c.args.sets.now)) c.args.sets.now (omega arith) c.index-sets-i.is
    (c.union-found.ensures ∙ ap (union c.loop-i.found) (c.only_if.ensures ∙ ap₂ pick c.intersects.ensures c.just-place.ensures)) c.loop-i.invariant

pub returns : goal.returns
returns c =
    sets_done (places (c.loop-i.i + 1) c.args.s) refl c.args.sets.now c.loop-i.i c.loop-i.found (union c.new-found.result (places 1 c.args.s c.args.sets.now)) c.loop-i-test.false c.loop-i.invariant
    ∙ ap (λ z. union z (places 1 c.args.s c.args.sets.now)) c.new-found.ensures ∙ empty-union (places 1 c.args.s c.args.sets.now)
