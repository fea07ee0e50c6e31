use Rattle.ap_machine.proofs.Sanity.{newest-of}
use Rattle.ap_machine.proofs.state.Search.newest.Goals as goal

pub returns-clause-some : goal.returns-clause-some
returns-clause-some c =
    let i = c.self.inside in
    newest-of i.cells i.environments i.environments i.x.items i.y.items i.roots.items i.next i.spent i.budget c.args.self.now c.self.view_is c.newest.result c.newest.ensures.some
