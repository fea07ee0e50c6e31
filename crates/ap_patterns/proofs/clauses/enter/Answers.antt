use Rattle.std.proofs.Common.{◌≡◌, ◌≤◌, IfOk, ap, sym, ◌∙◌, subst, arith}
use Rattle.ap_term.specs.TermView.{tree_of, trees_of}
use Rattle.ap_patterns.specs.Given.{any_pattern}
use Rattle.ap_patterns.specs.Anyhow.{anyhow}
use Rattle.ap_patterns.specs.Entering.{enter}
use Rattle.ap_patterns.proofs.Anyhow.{enter-anyhow}
use Rattle.ap_patterns.proofs.clauses.enter.Goals as goal

pub returns-then-is_anything : goal.returns-then-is_anything
returns-then-is_anything c =
    let n = c.args.n in
    let head = tree_of c.args.head.now in
    let few : n ≤ 255 = omega (arith, c.requires.few) in
    let known = c.is_anything.ensures c.if-is_anything.true in
    let same = ap (anyhow n) c.arguments-args.ensures.arguments ∙ sym (enter-anyhow n head few c.requires.variables) ∙ ap (enter n head) (ap any_pattern (sym c.arguments-args.ensures.count) ∙ sym known) in
    subst (λ s. IfOk c.anyhow.result (λ r. r ≡ s)) same c.anyhow.ensures
