use Rattle.ap_standing.proofs.Machines.{went, failed-inside, made-call, made-last-call, made-ending-call, ended, jumped, failed-at, came-back}
use Rattle.ap_standing.proofs.move_law.Goals as goal

pub returns : goal.returns
returns c = record {
  goes = went;
  fails = failed-inside;
  calls = made-call;
  calls_last = made-last-call;
  calls_ending = made-ending-call;
  ends = ended;
  jumps = jumped;
  breaks_off = failed-at;
  comes_back = came-back;
}
