use Rattle.std.proofs.Common.{rules, ◌≡◌, Some, ap, ap₂, sym, ◌∙◌, subst, w64, to_z, of_z}
use Rattle.std.specs.Prelude.{IfSome}
use Rattle.std.specs.Result.{result_ok}
use Rattle.ap_term.specs.Arithmetic.{eval, applied}
use Rattle.ap_direct_turns.specs.Solved.{own_part}
use Rattle.ap_machine.proofs.Values.{nested_known}
use Rattle.ap_machine.proofs.direct.+part_value.Goals as goal

pub returns-in_ok-second-in-Nested : goal.returns-in_ok-second-in-Nested
returns-in_ok-second-in-Nested t c =
    let cs = c.args.cells.now.cells in
    let x = c.args.x.now in
    let y = c.args.y.now in
    let m = c.in_ok-first-in-Nested.first in
    let n = c.in_ok-second-in-Nested.second in
    let e : to_z w64 (of_z w64 m) ≡ m = search rules in
    let g : to_z w64 (of_z w64 n) ≡ n = search rules in
    subst (λ p. IfSome c.ok-in-Nested.result (λ z. eval (own_part cs x y p) ≡ Some z)) (sym c.in-Nested.is)
    (nested_known c.in-Nested.operation (own_part cs x y c.in-Nested.left.value) (own_part cs x y c.in-Nested.right.value) m n c.ok-in-Nested.result
    (subst (λ p. eval (own_part cs x y p) ≡ Some m) c.deref.ensures c.in_ok-first-in-Nested.ensures)
    (subst (λ p. eval (own_part cs x y p) ≡ Some n) c.deref-in-Nested.ensures c.in_ok-second-in-Nested.ensures)
    (c.ok-in-Nested.ensures.value ∙ ap result_ok (c.applied-in-Nested.ensures ∙ ap₂ (λ i j. applied c.in-Nested.operation i j) e g)))
