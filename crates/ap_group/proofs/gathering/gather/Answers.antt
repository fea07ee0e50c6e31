use Rattle.std.proofs.Common.{refl, subst}
use Rattle.ap_group.specs.Turns.{AreChecked, ArePushedOrCut}
use Rattle.ap_group.proofs.Ways.{gathered}
use Rattle.ap_group.proofs.gathering.gather.Goals as goal

pub returns-in-Some-clause-leads : goal.returns-in-Some-clause-leads
returns-in-Some-clause-leads c =
    let a = c.args in
    let w = c.push_goals.new in
    let count = c.in-Group.count in
    let from = c.in-Group.from in
    let p = subst (AreChecked a.sound.now a.at a.cells.now.cells a.x.now a.y.now) c.in-Group.is (subst (λ k. AreChecked k a.at a.cells.now.cells a.x.now a.y.now c.in_ok-to.field-0) c.code.ensures.same c.in_ok-to.ensures) in
    let g = subst (λ o. ArePushedOrCut a.sound.now from count a.cells.now.cells a.x.now a.y.now o w.cells.cells w.x w.y w.goals) c.in-Some.is c.in_ok-to-in-Group.ensures.pushed in
    record {
      gathered = gathered a.sound.now a.at from c.in-Some.to count a.cells.now.cells w.cells.cells a.x.now a.y.now w.x w.y w.goals p g.0 g.1;
      ready = g.0.ready;
      holds_x = g.0.holds_x;
      holds_y = g.0.holds_y;
    }

pub returns-in-Plain-clause-leads : goal.returns-in-Plain-clause-leads
returns-in-Plain-clause-leads c =
    let a = c.args in
    record {
      way = subst (AreChecked a.sound.now a.at a.cells.now.cells a.x.now a.y.now) c.in-Plain.is (subst (λ k. AreChecked k a.at a.cells.now.cells a.x.now a.y.now c.in_ok-to.field-0) c.code.ensures.same c.in_ok-to.ensures);
      same_cells = refl;
      same_x = refl;
      same_y = refl;
    }
