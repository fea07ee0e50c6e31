use Rattle.ap_needs.proofs.Behind.{nothing, nothing-begins, nothing-alone, nothing-room}
use Rattle.ap_needs.proofs.room.Room.of.Goals as goal

pub returns : goal.returns
returns c = c.in_ok-grow.ensures.is nothing (nothing-begins c.args.code.now) nothing-alone (nothing-room (record { cells = 0; wanting = c.new.result }) c.new.ensures.items)
