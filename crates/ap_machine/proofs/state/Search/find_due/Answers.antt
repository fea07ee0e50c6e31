use Rattle.std.proofs.Common.{◌<◌, subst}
use Rattle.std.specs.Prelude.{IfNone}
use Rattle.ap_machine.specs.Lasting.{moves_left}
use Rattle.ap_machine.proofs.Progress.{Stays-refl, Stays-trans, still-for}
use Rattle.ap_machine.proofs.state.Search.find_due.Goals as goal

pub moves-init : goal.moves-init
moves-init c = record { holds = λ a ss h. h; stays = Stays-refl c.args.self.now; live = λ l. l }

pub go_on-requires : goal.go_on-requires
go_on-requires c = still-for c.args.sound.now c.args.self.now c.moves.self c.requires c.moves.invariant.stays c.moves.invariant.live

pub returns-in_err-due-clause-holds : goal.returns-in_err-due-clause-holds
returns-in_err-due-clause-holds c = λ a ss h. c.go_on.ensures.holds a ss (c.moves.invariant.holds a ss h)

pub returns-in_err-due-clause-stays : goal.returns-in_err-due-clause-stays
returns-in_err-due-clause-stays c = Stays-trans c.args.self.now c.moves.self c.go_on.new.self c.moves.invariant.stays c.go_on.ensures.stays

pub returns-in-Some-clause-holds : goal.returns-in-Some-clause-holds
returns-in-Some-clause-holds c = λ a ss h. c.go_on.ensures.holds a ss (c.moves.invariant.holds a ss h)

pub returns-in-Some-clause-stays : goal.returns-in-Some-clause-stays
returns-in-Some-clause-stays c = Stays-trans c.args.self.now c.moves.self c.go_on.new.self c.moves.invariant.stays c.go_on.ensures.stays

pub moves-preserved : goal.moves-preserved
moves-preserved c = record {
  holds = λ a ss h. c.go_on.ensures.holds a ss (c.moves.invariant.holds a ss h);
  stays = Stays-trans c.args.self.now c.moves.self c.go_on.new.self c.moves.invariant.stays c.go_on.ensures.stays;
  live = λ l. c.go_on.ensures.live (c.moves.invariant.live l);
}

pub moves-smaller : goal.moves-smaller
moves-smaller c =
    let P : Type 0 = moves_left c.args.sound.now c.go_on.new.self.machine < moves_left c.args.sound.now c.moves.self.machine in
    let fewer : P = subst (λ found. IfNone found P) c.in_default.is c.in_ok-due.ensures.fewer in
    fewer

pub returns-in_err-due-clause-live : goal.returns-in_err-due-clause-live
returns-in_err-due-clause-live c = λ l. c.go_on.ensures.live (c.moves.invariant.live l)

pub returns-in-Some-clause-live : goal.returns-in-Some-clause-live
returns-in-Some-clause-live c = λ l. c.go_on.ensures.live (c.moves.invariant.live l)
