use Rattle.std.proofs.Common.{slice_index}
use Rattle.ap_lifting.proofs.Filled.{question_lifted}
use Rattle.ap_lifting.proofs.lifting.lift_question.Goals as goal

pub returns-clause-lifted : goal.returns-clause-lifted
returns-clause-lifted c =
    question_lifted (slice_index c.args.names.now) c.args.rule 0 c.new-lifted.result c.add_filled.new.out c.new-out.result c.lift_rule.new.out c.new-out.ensures.clauses c.new-out.ensures.next c.new-lifted.ensures
    c.in_ok-question.ensures.lifts c.in_ok-add_filled.ensures
