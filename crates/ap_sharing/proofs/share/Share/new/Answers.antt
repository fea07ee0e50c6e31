use Rattle.std.proofs.Common.{not, ap, sym, ◌∙◌, subst, arith}
use Rattle.std.proofs.lemmas.Bool.{not-true}
use Rattle.ap_sharing.specs.VarSet.{within}
use Rattle.ap_sharing.specs.Sets.{listed}
use Rattle.ap_sharing.specs.Share.{IsNormal}
use Rattle.ap_sharing.proofs.Lists.{listed-filter}
use Rattle.ap_sharing.proofs.Covers.{normal-none}
use Rattle.ap_sharing.proofs.share.Share.new.Goals as goal

pub invariant_of-result : goal.invariant_of-result
invariant_of-result c = record {
  ascending = c.len.ensures.ascending;
  apart = λ s h. not-true (within s c.args.any) (listed-filter (λ t. not (within t c.args.any)) s c.args.sets (ap (listed s) (sym c.drop_within.ensures) ∙ h));
  few = omega (arith, c.len.ensures.len, c.if-len-le-MAX_SETS.true);
}

pub invariant_of-result-2 : goal.invariant_of-result-2
invariant_of-result-2 c = subst (λ ss. IsNormal (record { sets = ss; any = c.union-any.result })) (sym c.clear.ensures) (normal-none c.union-any.result)
