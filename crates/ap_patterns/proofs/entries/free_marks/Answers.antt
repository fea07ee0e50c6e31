use Rattle.std.proofs.Common.{Bool, ℕ, ◌+◌, if◌then◌else◌, ap, ap₂, ◌∙◌, refl, arith}
use Rattle.ap_sharing.specs.VarSet.{union, empty}
use Rattle.ap_sharing.proofs.Elements.{empty-union}
use Rattle.ap_patterns.specs.Entry.{free_marks}
use Rattle.ap_patterns.proofs.MarkTurns.{free_marks-turn, marks_done}
use Rattle.ap_patterns.proofs.entries.free_marks.Goals as goal

pub loop-i-preserved : goal.loop-i-preserved
loop-i-preserved c =
    let pick : Bool → ℕ → ℕ = λ b v. if b then v else empty in
    free_marks-turn c.loop-i.found c.union-found.result c.loop-i.i (union c.new-found.result (free_marks 1 c.args.marks.now)) c.args.marks.now (omega arith)
    (c.union-found.ensures ∙ ap (union c.loop-i.found) (c.only_if.ensures ∙ ap₂ pick c.is_free.ensures c.just-place.ensures)) c.loop-i.invariant

pub returns : goal.returns
returns c =
    marks_done (free_marks (c.loop-i.i + 1)) refl c.args.marks.now c.loop-i.i c.loop-i.found (union c.new-found.result (free_marks 1 c.args.marks.now)) c.loop-i-test.false c.loop-i.invariant
    ∙ ap (λ z. union z (free_marks 1 c.args.marks.now)) c.new-found.ensures ∙ empty-union (free_marks 1 c.args.marks.now)
