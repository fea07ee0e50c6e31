use Rattle.std.proofs.Common.{Bool, ℕ, ◌+◌, if◌then◌else◌, ap, ap₂, ◌∙◌, refl, arith}
use Rattle.ap_sharing.specs.VarSet.{union, empty}
use Rattle.ap_sharing.proofs.Elements.{empty-union}
use Rattle.ap_patterns.specs.Entry.{any_marks}
use Rattle.ap_patterns.proofs.MarkTurns.{any_marks-turn, marks_done}
use Rattle.ap_patterns.proofs.entries.any_marks.Goals as goal

pub loop-i-preserved : goal.loop-i-preserved
loop-i-preserved c =
    let pick : Bool → ℕ → ℕ = λ b v. if b then v else empty in
    any_marks-turn c.loop-i.found c.union-found.result c.loop-i.i (union c.new-found.result (any_marks 1 c.args.marks.now)) c.args.marks.now (omega arith)
    (c.union-found.ensures ∙ ap (union c.loop-i.found) (c.only_if.ensures ∙ ap₂ pick c.is_any.ensures c.just-place.ensures)) c.loop-i.invariant

pub returns : goal.returns
returns c =
    marks_done (any_marks (c.loop-i.i + 1)) refl c.args.marks.now c.loop-i.i c.loop-i.found (union c.new-found.result (any_marks 1 c.args.marks.now)) c.loop-i-test.false c.loop-i.invariant
    ∙ ap (λ z. union z (any_marks 1 c.args.marks.now)) c.new-found.ensures ∙ empty-union (any_marks 1 c.args.marks.now)
