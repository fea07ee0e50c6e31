use Rattle.ap_section.proofs.AtFork.{no-points, place-goal, goal-of, known-at}
use Rattle.ap_section.proofs.section.Section.goal.Goals as goal

pub predicate-requires-clause-newest : goal.predicate-requires-clause-newest
predicate-requires-clause-newest c = no-points c.args.self.now c.requires.at

pub predicate-requires-clause-place : goal.predicate-requires-clause-place
predicate-requires-clause-place c = place-goal c.args.self.now c.args.i c.requires.at c.requires.place

pub returns-clause-goal : goal.returns-clause-goal
returns-clause-goal c = goal-of c.args.self.now c.args.i c.predicate.result c.requires.at c.predicate.ensures

pub returns-clause-known : goal.returns-clause-known
returns-clause-known c = λ code r. known-at code c.args.self.now c.args.i c.predicate.result c.requires.at r (goal-of c.args.self.now c.args.i c.predicate.result c.requires.at c.predicate.ensures)
