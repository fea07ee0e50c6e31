use Rattle.std.proofs.Common.{refl}
use Rattle.ap_machine.proofs.Progress.{for-same}
use Rattle.ap_machine.proofs.state.Search.grant.Goals as goal

pub returns-clause-is_for : goal.returns-clause-is_for
returns-clause-is_for c = λ code h. for-same code _ _ c.args.self.now c.self.view_is refl refl (λ l. l) refl h
