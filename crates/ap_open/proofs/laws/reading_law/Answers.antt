use Rattle.ap_open.proofs.Reading.{reading}
use Rattle.ap_open.proofs.laws.reading_law.Goals as goal

pub returns : goal.returns
returns c = reading c.start_law.ensures
