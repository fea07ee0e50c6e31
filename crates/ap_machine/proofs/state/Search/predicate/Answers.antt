use Rattle.ap_machine.specs.View.{pushed_of}
use Rattle.ap_machine.proofs.Parting.{no-moment, no-frame, goal-at}
use Rattle.ap_machine.proofs.state.Search.predicate.Goals as goal

pub goal-requires : goal.goal-requires
goal-requires c =
    let i = c.self.inside in
    record { newest = no-moment i.cells i.environments i.x.items i.y.items i.roots.items i.next i.spent i.budget c.args.self.now c.self.view_is c.requires.newest }

pub unreachable-requires : goal.unreachable-requires
unreachable-requires c =
    let i = c.self.inside in
    no-frame i.cells i.environments i.x.items i.y.items i.roots.items i.next i.spent i.budget c.args.self.now c.self.view_is c.self.invariant c.args.i c.requires.place (c.goal.ensures.none c.in-None.is)

pub returns : goal.returns
returns c =
    let i = c.self.inside in
    let s = c.in-Some.ensures.some in
    (pushed_of s.2, goal-at i.cells i.environments i.x.items i.y.items i.roots.items s.0 s.1 s.3 c.self.invariant i.next i.spent i.budget c.args.self.now c.self.view_is c.args.i s.2 s.4 s.5, s.6)
