use Rattle.std.proofs.Common.{◌<◌, ap, sym, ◌∙◌, subst}
use Rattle.ap_codegen.specs.Relocated.{Known, by}
use Rattle.ap_codegen.proofs.WalkedWays.{single_left}
use Rattle.ap_codegen.proofs.relocating.Numbers.settle.Goals as goal

pub returns-clause-single : goal.returns-clause-single
returns-clause-single c =
    let k : Known = record {
      former_x = by c.args.self.now.former_x.items;
      former_y = by c.args.self.now.former_y.items;
      latter_x = by c.leave_x.new.numbers.items;
      latter_y = by c.leave_y.new.numbers.items;
      next = c.args.self.now.next;
    } in
    single_left k (by c.in_ok-x.x.items) (by c.in_ok-y.y.items) (λ p l.
    let e = (c.leave_x.ensures p l).1 in
    (ap (λ ys. by ys (k.latter_x p)) (sym c.as_slice-4.ensures.value) ∙ e.0, ap (λ xs. by xs (k.latter_x p)) (sym c.as_slice-3.ensures.value) ∙ e.1)) (λ p l.
    let e = (c.leave_y.ensures p l).1 in
    let d = ap (λ ys. by ys (k.latter_y p)) (sym c.as_slice-5.ensures.value) in
    (subst (λ n. 0 < n) (sym d) e.0, d ∙ e.1))
