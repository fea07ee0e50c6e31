use Rattle.std.proofs.Common.{length, refl, subst}
use Rattle.std.proofs.lemmas.Bool.{false≢true}
use Rattle.ap_cells.specs.Trees.{trees}
use Rattle.ap_checks.specs.Shared.{Tells, IsStop}
use Rattle.ap_checks.proofs.identity.compare_on.Goals as goal

pub returns-in-Same : goal.returns-in-Same
returns-in-Same c first g = let ts = trees c.args.cells.now.cells in (λ e. subst (Tells ts first c.compare_part.new.pairs.items c.compare_part.new.classes) c.in-Same.is (c.in_ok-compare_part.ensures.tells first (c.loop-next.invariant.going first g)), λ s. refl)

pub returns-in-Apart : goal.returns-in-Apart
returns-in-Apart c first g = let ts = trees c.args.cells.now.cells in (λ e. absurd (false≢true e), λ s. absurd (subst (Tells ts first c.compare_part.new.pairs.items c.compare_part.new.classes) c.in-Apart.is (c.in_ok-compare_part.ensures.tells first (c.loop-next.invariant.going first g)) s))

pub returns-in-Same-2 : goal.returns-in-Same-2
returns-in-Same-2 c first g = let ts = trees c.args.cells.now.cells in (λ e. subst (Tells ts first c.compare_part-in-loop-next.new.pairs.items c.compare_part-in-loop-next.new.classes) c.in-Same-2.is (c.in_ok-compare_part-2.ensures.tells first (subst (Tells ts first c.compare_part.new.pairs.items c.compare_part.new.classes) c.in-Stopped.is (c.in_ok-compare_part.ensures.tells first (c.loop-next.invariant.going first g)))), λ s. refl)

pub returns-in-Apart-2 : goal.returns-in-Apart-2
returns-in-Apart-2 c first g = let ts = trees c.args.cells.now.cells in (λ e. absurd (false≢true e), λ s. absurd (subst (Tells ts first c.compare_part-in-loop-next.new.pairs.items c.compare_part-in-loop-next.new.classes) c.in-Apart-2.is (c.in_ok-compare_part-2.ensures.tells first (subst (Tells ts first c.compare_part.new.pairs.items c.compare_part.new.classes) c.in-Stopped.is (c.in_ok-compare_part.ensures.tells first (c.loop-next.invariant.going first g)))) s))

pub loop-next-preserved : goal.loop-next-preserved
loop-next-preserved c =
    let ts = trees c.args.cells.now.cells in
    record {
      going = λ first g. subst (Tells ts first c.compare_part-in-loop-next.new.pairs.items c.compare_part-in-loop-next.new.classes) c.in-Stopped-2.is (c.in_ok-compare_part-2.ensures.tells first (subst (Tells ts first c.compare_part.new.pairs.items c.compare_part.new.classes) c.in-Stopped.is (c.in_ok-compare_part.ensures.tells first (c.loop-next.invariant.going first g))));
      left = c.in_ok-compare_part-2.ensures.pairs;
      inside = subst (IsStop (length c.args.cells.now.cells)) c.in-Stopped-2.is c.in_ok-compare_part-2.ensures.stop;
    }
