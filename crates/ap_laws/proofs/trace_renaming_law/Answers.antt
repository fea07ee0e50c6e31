use Rattle.ap_laws.proofs.TraceNames.{trace_renaming}
use Rattle.ap_laws.proofs.trace_renaming_law.Goals as goal

pub returns : goal.returns
returns c = trace_renaming
