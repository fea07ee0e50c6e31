use Rattle.std.proofs.Common.{subst}
use Rattle.ap_instr.specs.Code.{Compiled}
use Rattle.ap_machine.specs.Advanced.{Advanced}
use Rattle.ap_machine.proofs.Progress.{Advanced-then, settled}
use Rattle.ap_machine.proofs.state.Search.turn.Goals as goal

pub returns-in_err-number-clause-advanced : goal.returns-in_err-number-clause-advanced
returns-in_err-number-clause-advanced g c = settled c.args.sound.now c.args.self.now c.find_due.new.self c.find_due.ensures.holds c.find_due.ensures.stays c.find_due.ensures.live

pub returns-in-Some-clause-advanced : goal.returns-in-Some-clause-advanced
returns-in-Some-clause-advanced g c = settled c.args.sound.now c.args.self.now c.find_due.new.self c.find_due.ensures.holds c.find_due.ensures.stays c.find_due.ensures.live

pub returns-in_err-make_call-in-Call-clause-advanced : goal.returns-in_err-make_call-in-Call-clause-advanced
returns-in_err-make_call-in-Call-clause-advanced g c =
    Advanced-then c.args.sound.now c.args.self.now c.find_due.new.self c.make_call.new.self
    (settled c.args.sound.now c.args.self.now c.find_due.new.self c.find_due.ensures.holds c.find_due.ensures.stays c.find_due.ensures.live) c.make_call.ensures.advanced

pub returns-in-Some-held_up-clause-advanced : goal.returns-in-Some-held_up-clause-advanced
returns-in-Some-held_up-clause-advanced g c = settled c.args.sound.now c.args.self.now c.find_due.new.self c.find_due.ensures.holds c.find_due.ensures.stays c.find_due.ensures.live

pub returns-in_err-make_goal-in-Goal-clause-advanced : goal.returns-in_err-make_goal-in-Goal-clause-advanced
returns-in_err-make_goal-in-Goal-clause-advanced g c =
    Advanced-then c.args.sound.now c.args.self.now c.find_due.new.self c.make_goal.new.self
    (settled c.args.sound.now c.args.self.now c.find_due.new.self c.find_due.ensures.holds c.find_due.ensures.stays c.find_due.ensures.live) (subst (λ (d : Compiled). Advanced d c.find_due.new.self c.make_goal.new.self) c.code.ensures.same c.make_goal.ensures.advanced)

pub returns-in-Some-held_up-2-clause-advanced : goal.returns-in-Some-held_up-2-clause-advanced
returns-in-Some-held_up-2-clause-advanced g c = settled c.args.sound.now c.args.self.now c.find_due.new.self c.find_due.ensures.holds c.find_due.ensures.stays c.find_due.ensures.live

pub returns-in_err-make_direct-in-Direct-clause-advanced : goal.returns-in_err-make_direct-in-Direct-clause-advanced
returns-in_err-make_direct-in-Direct-clause-advanced g c =
    Advanced-then c.args.sound.now c.args.self.now c.find_due.new.self c.make_direct.new.self
    (settled c.args.sound.now c.args.self.now c.find_due.new.self c.find_due.ensures.holds c.find_due.ensures.stays c.find_due.ensures.live) (subst (λ (d : Compiled). Advanced d c.find_due.new.self c.make_direct.new.self) c.code-in-Direct.ensures.same c.make_direct.ensures.advanced)

pub returns-in_ok-make_call-in-Call-clause-advanced : goal.returns-in_ok-make_call-in-Call-clause-advanced
returns-in_ok-make_call-in-Call-clause-advanced g c =
    Advanced-then c.args.sound.now c.args.self.now c.find_due.new.self c.make_call.new.self
    (settled c.args.sound.now c.args.self.now c.find_due.new.self c.find_due.ensures.holds c.find_due.ensures.stays c.find_due.ensures.live) c.make_call.ensures.advanced

pub returns-in_ok-make_goal-in-Goal-clause-advanced : goal.returns-in_ok-make_goal-in-Goal-clause-advanced
returns-in_ok-make_goal-in-Goal-clause-advanced g c =
    Advanced-then c.args.sound.now c.args.self.now c.find_due.new.self c.make_goal.new.self
    (settled c.args.sound.now c.args.self.now c.find_due.new.self c.find_due.ensures.holds c.find_due.ensures.stays c.find_due.ensures.live) (subst (λ (d : Compiled). Advanced d c.find_due.new.self c.make_goal.new.self) c.code.ensures.same c.make_goal.ensures.advanced)

pub returns-in_ok-make_direct-in-Direct-clause-advanced : goal.returns-in_ok-make_direct-in-Direct-clause-advanced
returns-in_ok-make_direct-in-Direct-clause-advanced g c =
    Advanced-then c.args.sound.now c.args.self.now c.find_due.new.self c.make_direct.new.self
    (settled c.args.sound.now c.args.self.now c.find_due.new.self c.find_due.ensures.holds c.find_due.ensures.stays c.find_due.ensures.live) (subst (λ (d : Compiled). Advanced d c.find_due.new.self c.make_direct.new.self) c.code-in-Direct.ensures.same c.make_direct.ensures.advanced)

pub returns-in-Answer-clause-advanced : goal.returns-in-Answer-clause-advanced
returns-in-Answer-clause-advanced g c = settled c.args.sound.now c.args.self.now c.find_due.new.self c.find_due.ensures.holds c.find_due.ensures.stays c.find_due.ensures.live

pub returns-in-Nothing-clause-advanced : goal.returns-in-Nothing-clause-advanced
returns-in-Nothing-clause-advanced g c = settled c.args.sound.now c.args.self.now c.find_due.new.self c.find_due.ensures.holds c.find_due.ensures.stays c.find_due.ensures.live

pub returns-in-Group-clause-advanced : goal.returns-in-Group-clause-advanced
returns-in-Group-clause-advanced g c = settled c.args.sound.now c.args.self.now c.find_due.new.self c.find_due.ensures.holds c.find_due.ensures.stays c.find_due.ensures.live
