use Rattle.ap_writer.proofs.Renamed.{line-renamed, text-renamed}
use Rattle.ap_writer.proofs.laws.same_up_to_names_print_alike.Goals as goal

pub returns : goal.returns
returns c = record { lines = line-renamed; texts = text-renamed }
