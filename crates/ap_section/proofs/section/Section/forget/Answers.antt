use Rattle.ap_section.proofs.Closes.{first-out, forgot-view, forgot-ready}
use Rattle.ap_section.proofs.section.Section.forget.Goals as goal

pub forget_fork-requires-clause-failed : goal.forget_fork-requires-clause-failed
forget_fork-requires-clause-failed c = (first-out c.args.self.now c.requires).now

pub forget_fork-requires-clause-newest : goal.forget_fork-requires-clause-newest
forget_fork-requires-clause-newest c = (first-out c.args.self.now c.requires).points

pub returns-clause-forgotten : goal.returns-clause-forgotten
returns-clause-forgotten c = forgot-view c.args.self.now c.forget_fork.new.self c.pop.new.self c.requires c.forget_fork.ensures.some c.pop.ensures.rest

pub returns-clause-ready : goal.returns-clause-ready
returns-clause-ready c = λ code. forgot-ready code c.args.self.now c.forget_fork.new.self c.pop.new.self c.requires c.forget_fork.ensures.some c.pop.ensures.rest (c.forget_fork.ensures.is_for code)
