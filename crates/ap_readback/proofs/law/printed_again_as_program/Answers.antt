use Rattle.ap_readback.proofs.Programs.{program-read}
use Rattle.ap_readback.proofs.Numbers.{renumbers}
use Rattle.ap_readback.proofs.law.printed_again_as_program.Goals as goal

pub returns : goal.returns
returns c = record {
  program = λ names annotated program new table text bytes printable accepts. program-read names table text annotated program new printable bytes accepts;
  numbers = renumbers;
}
