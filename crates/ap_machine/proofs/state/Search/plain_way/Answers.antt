use Rattle.ap_machine.proofs.Parted.{plain-found}
use Rattle.ap_machine.proofs.state.Search.plain_way.Goals as goal

pub returns : goal.returns
returns c = plain-found c.code.result.now c.args.sound.now c.code.ensures.same c.args.self.now.machine c.in-Inside.at c.in-Inside.ensures c.plain_way.result c.plain_way.ensures
