use Rattle.ap_section.proofs.Closes.{first-out, first-older, rejoined-result, back-result, older-stays, search-nearly}
use Rattle.ap_section.proofs.section.Section.rejoin.Goals as goal

pub rejoin-requires-clause-failed : goal.rejoin-requires-clause-failed
rejoin-requires-clause-failed c = (first-out c.args.self.now c.requires).now

pub rejoin-requires-clause-newest : goal.rejoin-requires-clause-newest
rejoin-requires-clause-newest c = (first-out c.args.self.now c.requires).points

pub rejoin-requires-clause-fork : goal.rejoin-requires-clause-fork
rejoin-requires-clause-fork c = first-older c.args.self.now c.requires

pub returns-clause-met : goal.returns-clause-met
returns-clause-met c = rejoined-result c.args.self.now c.rejoin.new.self c.args.answers.now c.rejoin.result c.requires c.rejoin.ensures.met

pub returns-clause-back : goal.returns-clause-back
returns-clause-back c = back-result c.args.self.now c.rejoin.new.self c.rejoin.result c.requires c.rejoin.ensures.err

pub returns-clause-nearly : goal.returns-clause-nearly
returns-clause-nearly c = λ code. search-nearly code c.args.self.now c.rejoin.new.self (older-stays c.args.self.now c.rejoin.new.self c.args.answers.now c.rejoin.result c.requires c.rejoin.ensures.met c.rejoin.ensures.err) (c.rejoin.ensures.is_for code)
