use Rattle.std.proofs.Common.{◌∙◌, length, subst}
use Rattle.ap_cells.specs.Trees.{trees}
use Rattle.ap_cells.proofs.Stores.{Keeps-trans}
use Rattle.ap_unify.specs.Shared.{Tells, IsStop}
use Rattle.ap_unify.proofs.unification.solve_on.Goals as goal

pub returns-in_err-solve_part-clause-keeps : goal.returns-in_err-solve_part-clause-keeps
returns-in_err-solve_part-clause-keeps c = Keeps-trans c.args.cells.now c.loop-next.cells c.solve_part.new.cells c.loop-next.invariant.keeps c.in_err-solve_part.ensures.keeps

pub returns-in-Done-clause-answer : goal.returns-in-Done-clause-answer
returns-in-Done-clause-answer c ts a b x y g = subst (Tells ts (trees c.solve_part.new.cells.cells) c.solve_part.new.runs.items c.solve_part.new.classes a b) c.in-Done.is (c.in_ok-solve_part.ensures.tells ts a b x y (c.loop-next.invariant.going ts a b x y g))

pub returns-in-Done-clause-keeps : goal.returns-in-Done-clause-keeps
returns-in-Done-clause-keeps c = Keeps-trans c.args.cells.now c.loop-next.cells c.solve_part.new.cells c.loop-next.invariant.keeps c.in_ok-solve_part.ensures.keeps

pub returns-in-Failed-clause-answer : goal.returns-in-Failed-clause-answer
returns-in-Failed-clause-answer c ts a b x y g = subst (Tells ts (trees c.solve_part.new.cells.cells) c.solve_part.new.runs.items c.solve_part.new.classes a b) c.in-Failed.is (c.in_ok-solve_part.ensures.tells ts a b x y (c.loop-next.invariant.going ts a b x y g))

pub returns-in-Failed-clause-keeps : goal.returns-in-Failed-clause-keeps
returns-in-Failed-clause-keeps c = Keeps-trans c.args.cells.now c.loop-next.cells c.solve_part.new.cells c.loop-next.invariant.keeps c.in_ok-solve_part.ensures.keeps

pub returns-in_err-solve_part-2-clause-keeps : goal.returns-in_err-solve_part-2-clause-keeps
returns-in_err-solve_part-2-clause-keeps c = Keeps-trans c.args.cells.now c.solve_part.new.cells c.solve_part-in-loop-next.new.cells (Keeps-trans c.args.cells.now c.loop-next.cells c.solve_part.new.cells c.loop-next.invariant.keeps c.in_ok-solve_part.ensures.keeps) c.in_err-solve_part-2.ensures.keeps

pub returns-in-Done-2-clause-answer : goal.returns-in-Done-2-clause-answer
returns-in-Done-2-clause-answer c ts a b x y g = subst (Tells ts (trees c.solve_part-in-loop-next.new.cells.cells) c.solve_part-in-loop-next.new.runs.items c.solve_part-in-loop-next.new.classes a b) c.in-Done-2.is (c.in_ok-solve_part-2.ensures.tells ts a b x y (subst (Tells ts (trees c.solve_part.new.cells.cells) c.solve_part.new.runs.items c.solve_part.new.classes a b) c.in-Stopped.is (c.in_ok-solve_part.ensures.tells ts a b x y (c.loop-next.invariant.going ts a b x y g))))

pub returns-in-Done-2-clause-keeps : goal.returns-in-Done-2-clause-keeps
returns-in-Done-2-clause-keeps c = Keeps-trans c.args.cells.now c.solve_part.new.cells c.solve_part-in-loop-next.new.cells (Keeps-trans c.args.cells.now c.loop-next.cells c.solve_part.new.cells c.loop-next.invariant.keeps c.in_ok-solve_part.ensures.keeps) c.in_ok-solve_part-2.ensures.keeps

pub returns-in-Failed-2-clause-answer : goal.returns-in-Failed-2-clause-answer
returns-in-Failed-2-clause-answer c ts a b x y g = subst (Tells ts (trees c.solve_part-in-loop-next.new.cells.cells) c.solve_part-in-loop-next.new.runs.items c.solve_part-in-loop-next.new.classes a b) c.in-Failed-2.is (c.in_ok-solve_part-2.ensures.tells ts a b x y (subst (Tells ts (trees c.solve_part.new.cells.cells) c.solve_part.new.runs.items c.solve_part.new.classes a b) c.in-Stopped.is (c.in_ok-solve_part.ensures.tells ts a b x y (c.loop-next.invariant.going ts a b x y g))))

pub returns-in-Failed-2-clause-keeps : goal.returns-in-Failed-2-clause-keeps
returns-in-Failed-2-clause-keeps c = Keeps-trans c.args.cells.now c.solve_part.new.cells c.solve_part-in-loop-next.new.cells (Keeps-trans c.args.cells.now c.loop-next.cells c.solve_part.new.cells c.loop-next.invariant.keeps c.in_ok-solve_part.ensures.keeps) c.in_ok-solve_part-2.ensures.keeps

pub loop-next-preserved : goal.loop-next-preserved
loop-next-preserved c =
    let o = c.loop-next.invariant in
    record {
      going = λ ts a b x y g. subst (Tells ts (trees c.solve_part-in-loop-next.new.cells.cells) c.solve_part-in-loop-next.new.runs.items c.solve_part-in-loop-next.new.classes a b) c.in-Stopped-2.is (c.in_ok-solve_part-2.ensures.tells ts a b x y (subst (Tells ts (trees c.solve_part.new.cells.cells) c.solve_part.new.runs.items c.solve_part.new.classes a b) c.in-Stopped.is (c.in_ok-solve_part.ensures.tells ts a b x y (c.loop-next.invariant.going ts a b x y g))));
      left = c.in_ok-solve_part-2.ensures.runs;
      inside = subst (IsStop (length c.solve_part-in-loop-next.new.cells.cells)) c.in-Stopped-2.is c.in_ok-solve_part-2.ensures.stop;
      len = c.in_ok-solve_part-2.ensures.len ∙ c.in_ok-solve_part.ensures.len ∙ o.len;
      keeps = Keeps-trans c.args.cells.now c.solve_part.new.cells c.solve_part-in-loop-next.new.cells (Keeps-trans c.args.cells.now c.loop-next.cells c.solve_part.new.cells c.loop-next.invariant.keeps c.in_ok-solve_part.ensures.keeps) c.in_ok-solve_part-2.ensures.keeps;
      spare = c.in_ok-solve_part-2.ensures.spare ∙ c.in_ok-solve_part.ensures.spare ∙ o.spare;
    }
