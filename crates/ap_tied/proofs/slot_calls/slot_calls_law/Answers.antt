use Rattle.ap_tied.proofs.SlotEnds.{fails, spends}
use Rattle.ap_tied.proofs.SlotStarts.{starts}
use Rattle.ap_tied.proofs.SlotRedoes.{redoes}
use Rattle.ap_tied.proofs.SlotRestarts.{restarts}
use Rattle.ap_tied.proofs.SlotAnswers.{answers}
use Rattle.ap_tied.proofs.slot_calls.slot_calls_law.Goals as goal

pub returns : goal.returns
returns c = record { starts = starts; answers = answers; fails = fails; spends = spends; restarts = restarts; redoes = redoes }
