use Rattle.std.proofs.Common.{nat_eq, ap, sym, ◌∙◌}
use Rattle.ap_sharing.proofs.Words.{within_test}
use Rattle.ap_sharing.proofs.var_set.VarSet.is_subset.Goals as goal

pub returns : goal.returns
returns c = c.eq.ensures ∙ ap (λ a. nat_eq a c.args.self) c.both.ensures ∙ sym (within_test c.args.self c.args.other)
