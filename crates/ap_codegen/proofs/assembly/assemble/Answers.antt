use Rattle.std.proofs.Common.{◌≡◌, ◌+◌, length, ap, ◌∙◌, arith, rules}
use Rattle.ap_codegen.proofs.Growing.{grows_on, holds_less, said_turn, said_end}
use Rattle.ap_codegen.proofs.assembly.assemble.Goals as goal

pub loop-step-preserved : goal.loop-step-preserved
loop-step-preserved c =
    let long : c.len.result ≡ length c.loop-step.out.items = search rules in (
      grows_on c.args.tables.now c.loop-step.tables c.numbered.new.tables c.loop-step.invariant.0 c.in_ok-numbered.ensures.grows,
      λ code h.
          said_turn code c.args.start c.args.steps.now c.loop-step.step-index c.in_ok-at.at c.step-item.result c.loop-step.out.items c.push.new.self.items _ (omega arith) c.step-item.is c.in_ok-push.ensures.items (c.in_ok-at.ensures ∙ ap (λ n. c.args.start + n) long)
          (c.in_ok-numbered.ensures.said code h) c.in_ok-numbered.ensures.special
          (c.loop-step.invariant.1 code (holds_less c.loop-step.tables c.numbered.new.tables code c.in_ok-numbered.ensures.grows h)),
    )

pub returns-clause-said : goal.returns-clause-said
returns-clause-said c code h = said_end code c.args.start c.args.steps.now c.loop-step.out.items c.loop-step.step-index (omega arith) (c.loop-step.invariant.1 code h)
