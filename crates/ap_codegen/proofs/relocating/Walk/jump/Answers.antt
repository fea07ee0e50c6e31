use Rattle.std.proofs.Common.{sym, ◌∙◌, subst}
use Rattle.ap_codegen.specs.Relocated.{change_of, known_by, NoTurns, AreKept}
use Rattle.ap_codegen.proofs.RelocatedReads.{forgets_itself}
use Rattle.ap_codegen.proofs.WalkedWays.{kept_leap, way_met}
use Rattle.ap_codegen.proofs.relocating.Walk.jump.Goals as goal

pub returns-in-Sides-eq1-default : goal.returns-in-Sides-eq1-default
returns-in-Sides-eq1-default c t cs a =
    let n = c.over-n.result in
    let here = change_of c.args.change.now in
    let there = c.in-Sides-eq1-default.there in (
      kept_leap here cs (known_by c.args.self.now.numbers) c.requires (subst (λ n. NoTurns n cs) c.over-n.ensures a.1.0)
          (subst (λ n. AreKept n (known_by c.args.self.now.numbers) cs) c.over-n.ensures (subst (λ k. AreKept n (known_by k) cs) c.replace-here.ensures.value a.1.1)),
      way_met c.args.self.now.way c.in-Sides-eq1-default.field-0 0 there here cs (known_by there) (sym c.in-Sides-eq1-default.is ∙ c.replace.ensures.value) c.in-Sides-eq1-default.field-0-test
          (forgets_itself (known_by there)) (subst (λ k. AreKept 0 (known_by k) cs) c.replace-here.ensures.after a.0),
    )
