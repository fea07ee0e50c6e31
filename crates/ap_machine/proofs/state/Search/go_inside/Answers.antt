use Rattle.std.proofs.Common.{◌≡◌, ap, ◌∙◌, refl, sym, subst}
use Rattle.std.specs.Option.{MatchOption}
use Rattle.ap_instr.specs.Code.{Compiled}
use Rattle.ap_control.specs.Runs.{IsEndAt}
use Rattle.ap_standing.specs.Machine.{inside, failed}
use Rattle.ap_standing.specs.Laws.{KeepsStanding}
use Rattle.ap_machine.specs.View.{Paused, IsFor}
use Rattle.ap_machine.specs.Advanced.{GoesOn}
use Rattle.ap_machine.specs.Choices.{Stays}
use Rattle.ap_machine.specs.Jumps.{JumpsTo}
use Rattle.ap_machine.proofs.Living.{live-on}
use Rattle.ap_machine.proofs.Progress.{Stays-trans, still-for}
use Rattle.ap_machine.proofs.Transfers.{end-further, jumps-on}
use Rattle.ap_machine.proofs.state.Search.go_inside.Goals as goal

pub run-requires-clause-is_for : goal.run-requires-clause-is_for
run-requires-clause-is_for c =
    let v = c.goals.invariant in
    subst (λ (k : Compiled). IsFor k c.goals.self) (sym c.code-code.ensures.same)
    (still-for c.args.sound.now c.args.self.now c.goals.self c.requires.is_for v.stays (live-on c.args.sound.now c.args.self.now.machine c.goals.self.machine (inside c.args.at) c.requires.here (λ qs. refl) v.rest.points))

pub returns-in_err-to-clause-holds : goal.returns-in_err-to-clause-holds
returns-in_err-to-clause-holds c =
    λ apart ss h.
    let ran : KeepsStanding c.args.sound.now c.goals.self.machine c.run.new.self.machine = subst (λ (k : Compiled). KeepsStanding k c.goals.self.machine c.run.new.self.machine) c.code-code.ensures.same c.run.ensures.holds in
    ran ss (c.goals.invariant.holds ss h)

pub returns-in_default-2-clause-holds : goal.returns-in_default-2-clause-holds
returns-in_default-2-clause-holds c =
    λ apart ss h.
    let ran : KeepsStanding c.args.sound.now c.goals.self.machine c.run.new.self.machine = subst (λ (k : Compiled). KeepsStanding k c.goals.self.machine c.run.new.self.machine) c.code-code.ensures.same c.run.ensures.holds in
    ran ss (c.goals.invariant.holds ss h)

pub returns-in_default-jump_from-clause-holds : goal.returns-in_default-jump_from-clause-holds
returns-in_default-jump_from-clause-holds c =
    λ apart ss h.
    let ran : KeepsStanding c.args.sound.now c.goals.self.machine c.run.new.self.machine = subst (λ (k : Compiled). KeepsStanding k c.goals.self.machine c.run.new.self.machine) c.code-code.ensures.same c.run.ensures.holds in
    let moved : GoesOn c.args.sound.now c.run.new.self.machine c.transfer.new.self.machine = subst (λ (k : Compiled). GoesOn k c.run.new.self.machine c.transfer.new.self.machine) c.code-code.ensures.same c.transfer.ensures.holds in
    moved apart ss (ran ss (c.goals.invariant.holds ss h))

pub returns-in-Some-clause-holds : goal.returns-in-Some-clause-holds
returns-in-Some-clause-holds c =
    λ apart ss h.
    c.goals.invariant.holds ss h

pub goals-preserved-then-to-stop : goal.goals-preserved-then-to-stop
goals-preserved-then-to-stop c =
    let v = c.goals.invariant in
    let ran : KeepsStanding c.args.sound.now c.goals.self.machine c.run.new.self.machine = subst (λ (k : Compiled). KeepsStanding k c.goals.self.machine c.run.new.self.machine) c.code-code.ensures.same c.run.ensures.holds in
    let at = subst (λ o. MatchOption o (c.run.new.self.machine.now ≡ failed) (λ to. (c.run.new.self.machine.now ≡ inside to) × IsEndAt c.code-code.result.now c.stop_behind-stop.result to)) c.in-Some-2.is c.in_ok-to.ensures.at in
    record {
      holds = λ ss h. ran ss (v.holds ss h);
      stays = Stays-trans c.args.self.now c.goals.self c.run.new.self v.stays c.run.ensures.stays;
      rest = record { returns = c.in_ok-to.ensures.rest.returns ∙ v.rest.returns; points = c.in_ok-to.ensures.rest.points ∙ v.rest.points };
      here = at.0;
    }

pub goals-smaller-then-to-stop : goal.goals-smaller-then-to-stop
goals-smaller-then-to-stop c =
    let at = subst (λ o. MatchOption o (c.run.new.self.machine.now ≡ failed) (λ to. (c.run.new.self.machine.now ≡ inside to) × IsEndAt c.code-code.result.now c.stop_behind-stop.result to)) c.in-Some-2.is c.in_ok-to.ensures.at in
    end-further c.args.sound.now c.goals.place c.stop_behind-stop.result c.in-Some-2.to (subst (λ (k : Compiled). IsEndAt k c.stop_behind-stop.result c.in-Some-2.to) c.code-code.ensures.same at.1) c.if-to-stop.true c.stop_behind-stop.ensures

pub goals-preserved : goal.goals-preserved
goals-preserved c =
    let v = c.goals.invariant in
    let r = c.run.new.self in
    let ran : KeepsStanding c.args.sound.now c.goals.self.machine c.run.new.self.machine = subst (λ (k : Compiled). KeepsStanding k c.goals.self.machine c.run.new.self.machine) c.code-code.ensures.same c.run.ensures.holds in
    let at = subst (λ o. MatchOption o (c.run.new.self.machine.now ≡ failed) (λ to. (c.run.new.self.machine.now ≡ inside to) × IsEndAt c.code-code.result.now c.stop_behind-stop.result to)) c.in-Some-2.is c.in_ok-to.ensures.at in
    let jump = subst (λ (k : Compiled). JumpsTo k c.in-Some-2.to c.in-Some-jump_from.next) c.code-code.ensures.same c.in-Some-jump_from.ensures.jump in
    let stays : Stays c.args.self.now r = Stays-trans c.args.self.now c.goals.self r v.stays c.run.ensures.stays in
    let rest = c.in_ok-to.ensures.rest in
    record {
      holds = λ ss h. jumps-on c.args.sound.now r c.resume.new.self c.in-Some-2.to c.in-Some-jump_from.next at.0 jump c.resume.ensures ss (ran ss (v.holds ss h));
      stays = subst (Stays c.args.self.now) (sym c.resume.ensures) (record { x = stays.x; y = stays.y; roots = stays.roots; spent = stays.spent; budget = stays.budget; older = stays.older });
      rest = record {
        returns = ap (λ (t : Paused). t.machine.returns) c.resume.ensures ∙ rest.returns ∙ v.rest.returns;
        points = ap (λ (t : Paused). t.machine.points) c.resume.ensures ∙ rest.points ∙ v.rest.points;
      };
      here = ap (λ (t : Paused). t.machine.now) c.resume.ensures;
    }
