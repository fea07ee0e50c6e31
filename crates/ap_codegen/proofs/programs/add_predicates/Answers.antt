use Rattle.std.proofs.Common.{ap, sym, ◌∙◌, slice_get, nat_lt, arith}
use Rattle.ap_needs.proofs.Behind.{begun-trans}
use Rattle.ap_codegen.proofs.Growing.{grows_on}
use Rattle.ap_codegen.proofs.Keeping.{apart_made}
use Rattle.ap_codegen.proofs.programs.add_predicates.Goals as goal

pub loop-number-preserved : goal.loop-number-preserved
loop-number-preserved c =
    let s = c.args.tables.now in
    let t = c.loop-number.tables in
    let first = c.args.made.now.predicates.items in
    let place = c.loop-number.invariant.1 in
    let behind = c.loop-number.invariant.2 in
    let here = sym c.predicate_at.ensures.same ∙ c.in-Some.is in (
      grows_on s t c.add_predicate.new.tables c.loop-number.invariant.0 c.in_ok-add_predicate.ensures.grows,
      omega (arith, place, c.in_ok-add_predicate.ensures.count),
      omega (arith, behind),
      λ h. c.in_ok-add_predicate.ensures.listed c.args.listed (ap (λ n. nat_lt n c.args.listed) (sym place)) (c.loop-number.invariant.3 h),
      λ p indexed made.
          c.in_ok-add_predicate.ensures.made p (indexed _ (apart_made s t first c.loop-number.number _ made.named c.loop-number.invariant.0 c.predicate_at.ensures.once behind here))
          (ap (slice_get t.predicates) place ∙ here) (c.loop-number.invariant.4 p indexed made),
      begun-trans c.args.made.now.instructions.items c.loop-number.made.instructions.items _ c.loop-number.invariant.5 c.in_ok-add_predicate.ensures.instructions,
      begun-trans first c.loop-number.made.predicates.items _ c.loop-number.invariant.6 c.in_ok-add_predicate.ensures.predicates,
    )
