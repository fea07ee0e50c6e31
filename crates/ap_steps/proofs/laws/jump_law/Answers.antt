use Rattle.std.proofs.Common.{◌+◌, refl, sym, subst, arith}
use Rattle.ap_instr.specs.declared.instruction.Instr.TheVariants.{Jump}
use Rattle.ap_instr.specs.Steps.{steps_from, skipped}
use Rattle.ap_instr.specs.Runs.{AsksOpenly}
use Rattle.ap_instr.proofs.Steps.{steps_law}
use Rattle.ap_steps.specs.Moves.{Moves}
use Rattle.ap_steps.proofs.laws.jump_law.Goals as goal

pub returns : goal.returns
returns c = record {
  moves = λ code at l cs x y e.
      subst (λ js. Moves cs x y js cs x y (steps_from code (at + 1 + skipped (Jump l) at))) (sym (steps_law code at (Jump l) e)) (record { longer = omega arith; forth = λ k bs h. (k, λ j b. refl, h); back = λ k bs h. h });
  openly = λ code at l e o. (subst AsksOpenly (steps_law code at (Jump l) e) o).1;
}
