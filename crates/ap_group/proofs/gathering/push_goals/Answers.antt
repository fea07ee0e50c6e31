use Rattle.std.proofs.Common.{◌≡◌, length, slice_get, Some, refl, ap, sym, ◌∙◌, subst, arith}
use Rattle.std.proofs.lemmas.Option.{slice_get_within}
use Rattle.ap_cells.proofs.Stores.{Keeps-refl}
use Rattle.ap_instr.specs.Steps.{steps_from}
use Rattle.ap_steps.specs.Moves.{held}
use Rattle.ap_group.specs.Gathers.{Gathers, there}
use Rattle.ap_group.specs.Turns.{AreReady, TurnsTo}
use Rattle.ap_group.proofs.Ways.{ready-none, on, on-ready, at-end, stuck-there, as-ran, kept}
use Rattle.ap_group.proofs.gathering.push_goals.Goals as goal

pub loop-init : goal.loop-init
loop-init c =
    let a = c.args in
    record {
      gathers = subst (Gathers a.sound.now a.cells.now.cells (held a.x.now) (held a.y.now) (steps_from a.sound.now a.from) a.cells.now.cells (held a.x.now) (held a.y.now) (steps_from a.sound.now a.from)) (sym c.clear.ensures) there;
      ready = subst (AreReady a.sound.now (length a.cells.now.cells)) (sym c.clear.ensures) (ready-none a.sound.now (length a.cells.now.cells));
      holds_x = c.requires.holds_x;
      holds_y = c.requires.holds_y;
      x_len = refl;
      y_len = refl;
      keeps = Keeps-refl a.cells.now;
    }

pub returns-in_err-reserve-clause-keeps : goal.returns-in_err-reserve-clause-keeps
returns-in_err-reserve-clause-keeps c = kept c.args.cells.now c.loop.cells c.reserve.new.self c.reserve.new.self c.loop.invariant.keeps c.reserve.ensures.cells c.reserve.ensures.trail (Keeps-refl c.reserve.new.self)

pub returns-in_err-to-clause-keeps : goal.returns-in_err-to-clause-keeps
returns-in_err-to-clause-keeps c = kept c.args.cells.now c.loop.cells c.reserve.new.self c.run_to_transfer.new.cells c.loop.invariant.keeps c.reserve.ensures.cells c.reserve.ensures.trail c.run_to_transfer.ensures.keeps

pub returns-in_default-clause-keeps : goal.returns-in_default-clause-keeps
returns-in_default-clause-keeps c = kept c.args.cells.now c.loop.cells c.reserve.new.self c.run_to_transfer.new.cells c.loop.invariant.keeps c.reserve.ensures.cells c.reserve.ensures.trail c.run_to_transfer.ensures.keeps

pub returns-in_err-take_turn-clause-keeps : goal.returns-in_err-take_turn-clause-keeps
returns-in_err-take_turn-clause-keeps c = kept c.args.cells.now c.loop.cells c.reserve.new.self c.run_to_transfer.new.cells c.loop.invariant.keeps c.reserve.ensures.cells c.reserve.ensures.trail c.run_to_transfer.ensures.keeps

pub returns-in-End-clause-keeps : goal.returns-in-End-clause-keeps
returns-in-End-clause-keeps c = kept c.args.cells.now c.loop.cells c.reserve.new.self c.run_to_transfer.new.cells c.loop.invariant.keeps c.reserve.ensures.cells c.reserve.ensures.trail c.run_to_transfer.ensures.keeps

pub returns-in-Stuck-clause-keeps : goal.returns-in-Stuck-clause-keeps
returns-in-Stuck-clause-keeps c = kept c.args.cells.now c.loop.cells c.reserve.new.self c.run_to_transfer.new.cells c.loop.invariant.keeps c.reserve.ensures.cells c.reserve.ensures.trail c.run_to_transfer.ensures.keeps

pub returns-in-End-2-clause-keeps : goal.returns-in-End-2-clause-keeps
returns-in-End-2-clause-keeps c = kept c.args.cells.now c.loop.cells c.reserve.new.self c.run_to_transfer.new.cells c.loop.invariant.keeps c.reserve.ensures.cells c.reserve.ensures.trail c.run_to_transfer.ensures.keeps

pub overflow_add-place : goal.overflow_add-place
overflow_add-place c =
    let e : slice_get c.code-code.result.now.instructions c.in-Some.to ≡ Some c.in-Some-instruction_at.instr = sym c.in-Some-instruction_at.ensures in
    let l = slice_get_within c.code-code.result.now.instructions c.in-Some.to c.in-Some-instruction_at.instr e in
    let same = ap length c.instructions-places.ensures in
    omega arith

pub returns-in-End-clause-pushed : goal.returns-in-End-clause-pushed
returns-in-End-clause-pushed c =
    let a = c.args in
    let w = c.run_to_transfer.new in
    let i = c.in-Some-instruction_at.instr in
    let e : slice_get a.sound.now.instructions c.in-Some.to ≡ Some i = ap (λ k. slice_get k.instructions c.in-Some.to) (sym c.code-code.ensures.same) ∙ sym c.in-Some-instruction_at.ensures in
    let r = as-ran c.code-code.result.now a.sound.now c.loop.place c.loop.cells.cells c.reserve.new.self.cells w.cells.cells c.loop.x c.loop.y w.x w.y c.in_ok-to.field-0 c.in-Some.to c.code-code.ensures.same c.reserve.ensures.cells c.in-Some.is c.in_ok-to.ensures.ran in
    let t = subst (λ u. TurnsTo a.sound.now i w.x c.loop.goals u c.take_turn.new.goals) c.in-End.is (subst (λ k. TurnsTo k i w.x c.loop.goals c.in_ok-take_turn.field-0 c.take_turn.new.goals) c.code-code.ensures.same c.in_ok-take_turn.ensures) in
    (at-end a.sound.now a.from c.loop.place c.in-Some.to a.cells.now.cells c.loop.cells.cells w.cells.cells a.x.now a.y.now c.loop.x c.loop.y w.x w.y c.loop.goals c.loop.invariant.gathers r i e c.take_turn.new.goals t c.loop.invariant.ready, sym c.len.ensures ∙ c.if-len-count.true)

pub returns-in-Stuck-clause-pushed : goal.returns-in-Stuck-clause-pushed
returns-in-Stuck-clause-pushed c =
    let a = c.args in
    let w = c.run_to_transfer.new in
    let i = c.in-Some-instruction_at.instr in
    let e : slice_get a.sound.now.instructions c.in-Some.to ≡ Some i = ap (λ k. slice_get k.instructions c.in-Some.to) (sym c.code-code.ensures.same) ∙ sym c.in-Some-instruction_at.ensures in
    let r = as-ran c.code-code.result.now a.sound.now c.loop.place c.loop.cells.cells c.reserve.new.self.cells w.cells.cells c.loop.x c.loop.y w.x w.y c.in_ok-to.field-0 c.in-Some.to c.code-code.ensures.same c.reserve.ensures.cells c.in-Some.is c.in_ok-to.ensures.ran in
    let t = subst (λ u. TurnsTo a.sound.now i w.x c.loop.goals u c.take_turn.new.goals) c.in-Stuck.is (subst (λ k. TurnsTo k i w.x c.loop.goals c.in_ok-take_turn.field-0 c.take_turn.new.goals) c.code-code.ensures.same c.in_ok-take_turn.ensures) in
    stuck-there a.sound.now a.from c.loop.place c.in-Some.to a.cells.now.cells c.loop.cells.cells w.cells.cells a.x.now a.y.now c.loop.x c.loop.y w.x w.y c.loop.goals c.loop.invariant.gathers r i e t

pub loop-preserved : goal.loop-preserved
loop-preserved c =
    let a = c.args in
    let w = c.run_to_transfer.new in
    let i = c.in-Some-instruction_at.instr in
    let e : slice_get a.sound.now.instructions c.in-Some.to ≡ Some i = ap (λ k. slice_get k.instructions c.in-Some.to) (sym c.code-code.ensures.same) ∙ sym c.in-Some-instruction_at.ensures in
    let r = as-ran c.code-code.result.now a.sound.now c.loop.place c.loop.cells.cells c.reserve.new.self.cells w.cells.cells c.loop.x c.loop.y w.x w.y c.in_ok-to.field-0 c.in-Some.to c.code-code.ensures.same c.reserve.ensures.cells c.in-Some.is c.in_ok-to.ensures.ran in
    let t = subst (λ u. TurnsTo a.sound.now i w.x c.loop.goals u c.take_turn.new.goals) c.in-On.is (subst (λ k. TurnsTo k i w.x c.loop.goals c.in_ok-take_turn.field-0 c.take_turn.new.goals) c.code-code.ensures.same c.in_ok-take_turn.ensures) in
    record {
      gathers = on a.sound.now a.from c.loop.place c.in-Some.to a.cells.now.cells c.loop.cells.cells w.cells.cells a.x.now a.y.now c.loop.x c.loop.y w.x w.y c.loop.goals c.loop.invariant.gathers r i e c.take_turn.new.goals t;
      ready = on-ready a.sound.now a.from c.loop.place c.in-Some.to a.cells.now.cells c.loop.cells.cells w.cells.cells a.x.now a.y.now c.loop.x c.loop.y w.x w.y c.loop.goals c.loop.invariant.gathers r i e c.take_turn.new.goals t c.loop.invariant.ready;
      holds_x = r.holds_x;
      holds_y = r.holds_y;
      x_len = c.run_to_transfer.ensures.x_len ∙ c.loop.invariant.x_len;
      y_len = c.run_to_transfer.ensures.y_len ∙ c.loop.invariant.y_len;
      keeps = kept a.cells.now c.loop.cells c.reserve.new.self w.cells c.loop.invariant.keeps c.reserve.ensures.cells c.reserve.ensures.trail c.run_to_transfer.ensures.keeps;
    }
