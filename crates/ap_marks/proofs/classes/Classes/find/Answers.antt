use Rattle.std.proofs.Common.{◌≡◌, ap, sym, ◌∙◌, arith, subst, get_or, length, ◌<◌}
use Rattle.std.proofs.lemmas.List.{get_or_default}
use Rattle.ap_marks.specs.Classes.{Links, Agrees}
use Rattle.ap_marks.proofs.classes.Classes.find.Goals as goal

pub loop-preserved : goal.loop-preserved
loop-preserved c f g =
    let k = c.in-Some.ensures.below in
    let n = c.in-Some.number in
    let v : Links = record { froms = c.self.inside.froms; tos = c.self.inside.tos.items } in
    let h : Agrees f v = subst (Agrees f) (sym c.self.view_is) g in
    let l : n < length c.self.inside.tos.items = omega (arith, c.self.invariant) in
    let e : get_or c.self.inside.tos.items n 0 ≡ c.index.result.now = get_or_default c.self.inside.tos.items n 0 c.index.result.now l ∙ sym c.index.ensures in
    c.loop.invariant f g ∙ ap f (sym c.in-Some.ensures.at) ∙ h n k ∙ ap f e
