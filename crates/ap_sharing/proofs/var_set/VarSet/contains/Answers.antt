use Rattle.std.proofs.Common.{ap, sym, ◌∙◌}
use Rattle.ap_sharing.specs.VarSet.{has}
use Rattle.ap_sharing.proofs.Words.{has_past}
use Rattle.ap_sharing.proofs.var_set.VarSet.contains.Goals as goal

pub returns-else-x-lt256 : goal.returns-else-x-lt256
returns-else-x-lt256 c =
    sym (ap (λ s. has s c.args.x) (sym c.self.view_is) ∙ has_past c.self.inside.high c.self.inside.low c.args.x c.self.invariant.0 c.self.invariant.1 c.if-x-lt256.false)
