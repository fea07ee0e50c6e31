use Rattle.std.proofs.Common.{rules, ◌≡◌, refl, subst, w64, to_z, of_z}
use Rattle.ap_term.specs.Tree.{int}
use Rattle.ap_match.specs.Fits.{Answered}
use Rattle.ap_machine.specs.Direct.{HasValue}
use Rattle.ap_machine.proofs.Values.{match-solved}
use Rattle.ap_machine.proofs.direct.solve_value.Goals as goal

pub returns-in-Match-clause-solved : goal.returns-in-Match-clause-solved
returns-in-Match-clause-solved c = λ goal h.
    let cs = c.args.cells.now.cells in
    let x = c.args.x.now in
    let y = c.args.y.now in
    let e : to_z w64 (of_z w64 c.in-Match.z) ≡ c.in-Match.z = search rules in
    match-solved cs c.match_integer.new.cells.cells x y x y goal c.in-Match.place c.in-Match.z c.match_integer.result (subst (HasValue cs x y goal) c.in-Match.is h) refl refl
    (subst (λ z. Answered cs c.match_integer.new.cells.cells (λ k. k c.in-Match.place ≡ int z) c.match_integer.result) e c.match_integer.ensures.answered)
