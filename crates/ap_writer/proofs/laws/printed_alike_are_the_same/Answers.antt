use Rattle.std.proofs.Common.{[], ◌++◌, refl, ap}
use Rattle.ap_writer.proofs.Parted.{same_text}
use Rattle.ap_writer.proofs.Lines.{same_term, same_line}
use Rattle.ap_writer.proofs.laws.printed_alike_are_the_same.Goals as goal

pub returns : goal.returns
returns c = record {
  terms = λ atoms t u d h k e. (same_text atoms t u [] [] d h k refl refl (ap (λ l. l ++ []) e)).0;
  texts = same_term;
  lines = same_line;
}
