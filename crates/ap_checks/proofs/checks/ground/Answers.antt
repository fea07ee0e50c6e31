use Rattle.std.proofs.Common.{refl, sym, ◌∙◌, subst}
use Rattle.std.proofs.lemmas.Bool.{false≢true}
use Rattle.ap_cells.specs.Trees.{trees}
use Rattle.ap_cells.specs.Walks.{Meets}
use Rattle.ap_checks.proofs.checks.ground.Goals as goal

pub returns-in-Some : goal.returns-in-Some
returns-in-Some c =
    let ts = trees c.args.cells.now.cells in
    let v = c.in-Some.field-0 in
    let m = subst (Meets v ts c.args.place c.next.new.self.marks c.next.new.self.ranges) c.in-Some.is (c.in_ok-next.ensures.next v c.args.place (c.in_ok-start.ensures.begun v)) in
    (λ e. absurd (false≢true e), λ g. absurd (false≢true (sym (g v) ∙ m.0 refl)))

pub returns-in-None : goal.returns-in-None
returns-in-None c =
    let ts = trees c.args.cells.now.cells in
    (λ e x. subst (Meets x ts c.args.place c.next.new.self.marks c.next.new.self.ranges) c.in-None.is (c.in_ok-next.ensures.next x c.args.place (c.in_ok-start.ensures.begun x)), λ g. refl)
