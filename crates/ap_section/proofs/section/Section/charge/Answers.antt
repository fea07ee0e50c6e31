use Rattle.std.proofs.Common.{◌+◌, ◌<◌, ◌^◌, ap, subst}
use Rattle.ap_section.specs.Views.{spent_in}
use Rattle.ap_section.proofs.Levels.{view_of-out}
use Rattle.ap_section.proofs.Closes.{charged-view, search-nearly}
use Rattle.ap_section.proofs.section.Section.charge.Goals as goal

pub charge-requires : goal.charge-requires
charge-requires c = subst (λ n. n + c.args.cost < 2 ^ 64) (ap spent_in (view_of-out c.args.self.now)) c.requires

pub returns-clause-charged : goal.returns-clause-charged
returns-clause-charged c = charged-view c.args.self.now c.charge.new.self c.args.cost c.charge.ensures.spent

pub returns-clause-nearly : goal.returns-clause-nearly
returns-clause-nearly c = λ code. search-nearly code c.args.self.now c.charge.new.self (ap (λ p. p.older) c.charge.ensures.spent) (c.charge.ensures.is_for code)
