use Rattle.std.proofs.Common.{◌≡◌, sym, subst, List}
use Rattle.ap_term.specs.Tree.{Trees}
use Rattle.ap_core.specs.CoreView.{core_of}
use Rattle.ap_core.specs.Reached.{IsEmitted}
use Rattle.ap_core.proofs.Reached.{emitted_by_events}
use Rattle.ap_core.proofs.machine.Core.emitted.Goals as goal

pub returns-clause-answers : goal.returns-clause-answers
returns-clause-answers c = subst (λ l. IsEmitted l (core_of c.args.self.now)) (sym c.as_slice.ensures) (emitted_by_events (core_of c.args.self.now) c.args.self.now.rules.complete)
