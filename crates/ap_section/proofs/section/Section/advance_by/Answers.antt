use Rattle.std.proofs.Common.{◌∙◌, ap, Ok}
use Rattle.ap_term.proofs.Lists.{prefix-trans}
use Rattle.ap_section.specs.Views.{view_of, spent_in, budget_in}
use Rattle.ap_section.specs.Lending.{frames_in}
use Rattle.ap_section.proofs.Shut.{moved-on, within-on, few-on}
use Rattle.ap_section.proofs.section.Section.advance_by.Goals as goal

pub returns-in_err-turn-clause-moved : goal.returns-in_err-turn-clause-moved
returns-in_err-turn-clause-moved g c = moved-on c.reaching_law.ensures c.args.sound.now (view_of c.args.self.now) (view_of c.moves.self) (view_of c.move_on.new.self) c.moves.invariant.moved c.move_on.ensures.moved

pub returns-in-Some-clause-moved : goal.returns-in-Some-clause-moved
returns-in-Some-clause-moved g c = moved-on c.reaching_law.ensures c.args.sound.now (view_of c.args.self.now) (view_of c.moves.self) (view_of c.move_on.new.self) c.moves.invariant.moved c.move_on.ensures.moved

pub moves-preserved : goal.moves-preserved
moves-preserved g c = record {
  moved = moved-on c.reaching_law.ensures c.args.sound.now (view_of c.args.self.now) (view_of c.moves.self) (view_of c.move_on.new.self) c.moves.invariant.moved c.move_on.ensures.moved;
  ready = c.move_on.ensures.ready;
  within = within-on (budget_in (view_of c.args.self.now)) (budget_in (view_of c.moves.self)) (spent_in (view_of c.args.self.now)) (spent_in (view_of c.moves.self)) (spent_in (view_of c.move_on.new.self))
      c.moves.invariant.moved.budget c.moves.invariant.moved.more c.moves.invariant.within c.move_on.ensures.within;
  few = few-on (spent_in (view_of c.args.self.now)) (spent_in (view_of c.moves.self)) (spent_in (view_of c.move_on.new.self)) c.args.inferences c.spent-before.result c.spent.result
      c.moves.invariant.begins c.spent.ensures c.moves.invariant.moved.more c.moves.invariant.few c.move_on.ensures.few;
  frames = prefix-trans (frames_in c.move_on.new.self) (frames_in c.moves.self) (frames_in c.args.self.now) (c.in_ok-turn.ensures.frames (ap Ok c.in_default.is)) c.moves.invariant.frames;
  begins = c.moves.invariant.begins;
  asked = λ h. c.move_on.ensures.asked (c.moves.invariant.asked h);
  wish = c.move_on.ensures.wish ∙ c.moves.invariant.wish;
}

pub returns-in-Some-clause-unwanted : goal.returns-in-Some-clause-unwanted
returns-in-Some-clause-unwanted g c = λ w.
    prefix-trans (frames_in c.move_on.new.self) (frames_in c.moves.self) (frames_in c.args.self.now) (c.in_ok-turn.ensures.unwanted (c.moves.invariant.wish ∙ w)) c.moves.invariant.frames
