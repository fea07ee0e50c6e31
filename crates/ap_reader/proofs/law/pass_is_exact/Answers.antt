use Rattle.ap_reader.proofs.Complete.{complete}
use Rattle.ap_reader.proofs.Sound.{sound}
use Rattle.ap_reader.proofs.law.pass_is_exact.Goals as goal

pub returns-clause-sound : goal.returns-clause-sound
returns-clause-sound c = sound

pub returns-clause-complete : goal.returns-clause-complete
returns-clause-complete c = complete
