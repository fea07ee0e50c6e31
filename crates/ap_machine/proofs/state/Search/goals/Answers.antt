use Rattle.std.proofs.Common.{length, ap, sym}
use Rattle.ap_machine.proofs.Parting.{no-moment, no-goals, goals-counted}
use Rattle.ap_machine.proofs.state.Search.goals.Goals as goal

pub returns-in-None : goal.returns-in-None
returns-in-None c =
    let i = c.self.inside in
    let none = no-moment i.cells i.environments i.x.items i.y.items i.roots.items i.next i.spent i.budget c.args.self.now c.self.view_is c.requires.newest in
    sym (ap length (no-goals i.cells i.environments i.x.items i.y.items i.roots.items i.next i.spent i.budget c.args.self.now c.self.view_is (c.newest_fork.ensures.none c.in-None.is none)))

pub returns-in-Some : goal.returns-in-Some
returns-in-Some c =
    let i = c.self.inside in
    let s = c.in-Some.ensures.some in
    sym (goals-counted i.cells i.environments i.x.items i.y.items i.roots.items s.1 s.2 s.3 c.self.invariant i.next i.spent i.budget c.args.self.now c.self.view_is c.in-Some.fork s.4)
