use Rattle.std.proofs.Common.{Bool, ℕ, ◌+◌, if◌then◌else◌, ap, ap₂, ◌∙◌, refl, arith}
use Rattle.ap_term.specs.TermView.{trees_of}
use Rattle.ap_sharing.specs.VarSet.{union, empty}
use Rattle.ap_sharing.proofs.Elements.{empty-union}
use Rattle.ap_patterns.specs.Places.{free_places}
use Rattle.ap_patterns.proofs.Arguments.{free_places-turn, terms_done}
use Rattle.ap_patterns.proofs.places.free_places.Goals as goal

pub loop-i-preserved : goal.loop-i-preserved
loop-i-preserved c =
    let pick : Bool → ℕ → ℕ = λ b v. if b then v else empty in
    free_places-turn c.args.free.now c.loop-i.found c.union-found.result c.loop-i.i (union c.new-found.result (free_places 1 c.args.free.now (trees_of c.args.args.now))) c.index-args-i.result c.args.args.now
    (omega arith) c.index-args-i.is
    (c.union-found.ensures ∙ ap (union c.loop-i.found) (c.only_if.ensures ∙ ap₂ pick c.is_free.ensures c.just-place.ensures)) c.loop-i.invariant

pub returns : goal.returns
returns c =
    terms_done (free_places (c.loop-i.i + 1) c.args.free.now) refl c.args.args.now c.loop-i.i c.loop-i.found (union c.new-found.result (free_places 1 c.args.free.now (trees_of c.args.args.now))) c.loop-i-test.false
    c.loop-i.invariant
    ∙ ap (λ z. union z (free_places 1 c.args.free.now (trees_of c.args.args.now))) c.new-found.ensures ∙ empty-union (free_places 1 c.args.free.now (trees_of c.args.args.now))
