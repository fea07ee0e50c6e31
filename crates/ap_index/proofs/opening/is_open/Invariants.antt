use Rattle.ap_instr.specs.Steps.{steps_from}
use Rattle.ap_instr.specs.Runs.{IsOpen, AsksOpenly}
use Rattle.ap_index.specs.Opening.{IsOpenInside}
use Rattle.ap_index.proofs.opening.is_open.Given as goal

abbrev pub invariant-loop-place : goal.invariant-loop-place
invariant-loop-place l = record {
  opens : IsOpenInside l.whole l.left (steps_from l.code l.place) → IsOpen (steps_from l.code l.at);
  openly : AsksOpenly (steps_from l.code l.at) → AsksOpenly (steps_from l.code l.place);
}
