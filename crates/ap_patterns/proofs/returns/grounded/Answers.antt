use Rattle.std.proofs.Common.{Bool, ℕ, ◌+◌, not, if◌then◌else◌, ap, ◌∙◌, refl, arith}
use Rattle.ap_sharing.specs.VarSet.{has, union, empty}
use Rattle.ap_sharing.proofs.Elements.{empty-union}
use Rattle.ap_patterns.specs.AfterCall.{grounded}
use Rattle.ap_patterns.proofs.Arguments.{grounded-turn, sets_done}
use Rattle.ap_patterns.proofs.returns.grounded.Goals as goal

pub loop-i-preserved : goal.loop-i-preserved
loop-i-preserved c =
    let pick : Bool → ℕ = λ b. if not b then c.index-args-i.result else empty in
    grounded-turn c.args.success.now c.loop-i.found c.union-found.result c.loop-i.i c.index-args-i.result (union c.new-found.result (grounded 1 c.args.success.now c.args.args.now)) c.args.args.now
    (omega arith) c.index-args-i.is
    (c.union-found.ensures ∙ ap (union c.loop-i.found) (c.only_if.ensures ∙ ap pick (c.contains-is_ground.ensures ∙ ap (λ m. has m (c.loop-i.i + 1)) c.nonground-nonground.ensures))) c.loop-i.invariant

pub returns : goal.returns
returns c =
    sets_done (grounded (c.loop-i.i + 1) c.args.success.now) refl c.args.args.now c.loop-i.i c.loop-i.found (union c.new-found.result (grounded 1 c.args.success.now c.args.args.now)) c.loop-i-test.false c.loop-i.invariant
    ∙ ap (λ z. union z (grounded 1 c.args.success.now c.args.args.now)) c.new-found.ensures ∙ empty-union (grounded 1 c.args.success.now c.args.args.now)
