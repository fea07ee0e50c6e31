use Rattle.std.proofs.Common.{◌∙◌, sym, subst}
use Rattle.std.proofs.lemmas.List.Filters.{dedup_is}
use Rattle.ap_sharing.specs.Sets.{IsAscending}
use Rattle.ap_sharing.proofs.Made.{ascending-dedup, sets_of-sorted}
use Rattle.ap_sharing.proofs.sets.Sets.of.Goals as goal

pub invariant_of-result : goal.invariant_of-result
invariant_of-result c = subst IsAscending (sym (dedup_is _ _ _ c.dedup.ensures.filtered)) (ascending-dedup c.sort.new.self.items c.in_ok-sort.ensures.sorted)

pub returns : goal.returns
returns c = dedup_is _ _ _ c.dedup.ensures.filtered ∙ sets_of-sorted c.args.listed.items c.sort.new.self.items c.in_ok-sort.ensures.permutation c.in_ok-sort.ensures.sorted
