use Rattle.std.proofs.Common.{ap, sym, ◌∙◌, subst}
use Rattle.ap_sharing.specs.Sets.{IsAscending, listed}
use Rattle.ap_sharing.proofs.Made.{is_found}
use Rattle.ap_sharing.proofs.sets.Sets.contains.Goals as goal

pub returns : goal.returns
returns c =
    let same = c.deref.ensures.value in
    let a = subst IsAscending (sym same) c.self.invariant in
    c.is_ok.ensures.value ∙ is_found c.args.s c.deref.result.now c.binary_search.result a c.binary_search.ensures.bound c.binary_search.ensures.position
    ∙ ap (listed c.args.s) (same ∙ c.self.view_is)
