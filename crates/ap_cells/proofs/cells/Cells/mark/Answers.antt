use Rattle.std.proofs.Common.{◌≡◌, length, ap, subst, arith}
use Rattle.ap_cells.specs.Store.{Store, IsStore}
use Rattle.ap_cells.proofs.Stores.{IsMark-here, undone-here}
use Rattle.ap_cells.proofs.cells.Cells.mark.Goals as goal

pub returns-clause-is_mark : goal.returns-clause-is_mark
returns-clause-is_mark c =
    let v = ap (λ (v : Store). length v.cells) c.self.view_is in
    let w = ap (λ (v : Store). length v.trail) c.self.view_is in
    let n : c.len.result ≡ length c.args.self.now.cells = omega arith in
    let m : c.len-2.result ≡ length c.args.self.now.trail = omega arith in
    rw (n, m) (IsMark-here c.args.self.now.cells c.args.self.now.trail (subst (λ (v : Store). IsStore v.cells v.trail) c.self.view_is c.self.invariant.store))

pub returns-clause-leads : goal.returns-clause-leads
returns-clause-leads c =
    let v = ap (λ (v : Store). length v.cells) c.self.view_is in
    let w = ap (λ (v : Store). length v.trail) c.self.view_is in
    let n : c.len.result ≡ length c.args.self.now.cells = omega arith in
    let m : c.len-2.result ≡ length c.args.self.now.trail = omega arith in
    rw (n, m) (undone-here c.args.self.now)
