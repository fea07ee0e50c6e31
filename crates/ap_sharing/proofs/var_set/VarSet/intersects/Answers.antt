use Rattle.std.proofs.Common.{not, nat_eq, ap₂, sym, ◌∙◌}
use Rattle.ap_sharing.proofs.Words.{meets_test}
use Rattle.ap_sharing.proofs.var_set.VarSet.intersects.Goals as goal

pub returns : goal.returns
returns c = c.ne.ensures ∙ ap₂ (λ a b. not (nat_eq a b)) c.both.ensures c.new.ensures ∙ sym (meets_test c.args.self c.args.other)
