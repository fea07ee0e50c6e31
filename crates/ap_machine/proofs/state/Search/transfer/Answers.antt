use Rattle.std.proofs.Common.{Some, ap, refl, sym, ◌∙◌}
use Rattle.ap_instr.specs.Step.{call, execute, step_of, with_predicate}
use Rattle.ap_instr.specs.StandsFor.{called_by}
use Rattle.ap_steps.specs.Moves.{held}
use Rattle.ap_standing.specs.Machine.{inside}
use Rattle.ap_machine.specs.View.{machine_of}
use Rattle.ap_machine.proofs.Ran.{opened}
use Rattle.ap_machine.proofs.Transfers.{nowhere, breaks, ends, calls_last, calls_ending, called}
use Rattle.ap_machine.proofs.state.Search.transfer.Goals as goal

pub returns-in-None-clause-holds : goal.returns-in-None-clause-holds
returns-in-None-clause-holds c = λ apart ss h.
    let a = c.self.inside in
    let m = machine_of a.cells a.environments a.x.items a.y.items a.roots.items a.next in
    let o = opened c.args.code.now ss c.args.self.now m (inside c.args.at) (ap (λ s. s.machine) c.self.view_is) c.requires.here h in
    nowhere c.args.code.now m c.args.at ss o (sym c.in-None.ensures)

pub returns-in-Fail-clause-holds : goal.returns-in-Fail-clause-holds
returns-in-Fail-clause-holds c = λ apart ss h.
    let a = c.self.inside in
    let m = machine_of a.cells a.environments a.x.items a.y.items a.roots.items a.next in
    let o = opened c.args.code.now ss c.args.self.now m (inside c.args.at) (ap (λ s. s.machine) c.self.view_is) c.requires.here h in
    breaks c.args.code.now m c.args.at ss o c.in-Some.instr (sym c.in-Some.ensures) (ap (step_of c.args.code.now) c.in-Fail.is)

pub returns-in-Try-clause-holds : goal.returns-in-Try-clause-holds
returns-in-Try-clause-holds c = λ apart ss h.
    let a = c.self.inside in
    let m = machine_of a.cells a.environments a.x.items a.y.items a.roots.items a.next in
    let o = opened c.args.code.now ss c.args.self.now m (inside c.args.at) (ap (λ s. s.machine) c.self.view_is) c.requires.here h in
    breaks c.args.code.now m c.args.at ss o c.in-Some.instr (sym c.in-Some.ensures) (ap (step_of c.args.code.now) c.in-Try.is)

pub returns-in-Retry-clause-holds : goal.returns-in-Retry-clause-holds
returns-in-Retry-clause-holds c = λ apart ss h.
    let a = c.self.inside in
    let m = machine_of a.cells a.environments a.x.items a.y.items a.roots.items a.next in
    let o = opened c.args.code.now ss c.args.self.now m (inside c.args.at) (ap (λ s. s.machine) c.self.view_is) c.requires.here h in
    breaks c.args.code.now m c.args.at ss o c.in-Some.instr (sym c.in-Some.ensures) (ap (step_of c.args.code.now) c.in-Retry.is)

pub returns-in-Trust-clause-holds : goal.returns-in-Trust-clause-holds
returns-in-Trust-clause-holds c = λ apart ss h.
    let a = c.self.inside in
    let m = machine_of a.cells a.environments a.x.items a.y.items a.roots.items a.next in
    let o = opened c.args.code.now ss c.args.self.now m (inside c.args.at) (ap (λ s. s.machine) c.self.view_is) c.requires.here h in
    breaks c.args.code.now m c.args.at ss o c.in-Some.instr (sym c.in-Some.ensures) (ap (step_of c.args.code.now) c.in-Trust.is)

pub returns-in-Proceed-clause-holds : goal.returns-in-Proceed-clause-holds
returns-in-Proceed-clause-holds c = λ apart ss h.
    let a = c.self.inside in
    let m = machine_of a.cells a.environments a.x.items a.y.items a.roots.items a.next in
    let o = opened c.args.code.now ss c.args.self.now m (inside c.args.at) (ap (λ s. s.machine) c.self.view_is) c.requires.here h in
    ends c.args.code.now m c.args.at ss o c.in-Some.instr (sym c.in-Some.ensures) (ap (step_of c.args.code.now) c.in-Proceed.is)

pub returns-else-is_known-clause-holds : goal.returns-else-is_known-clause-holds
returns-else-is_known-clause-holds c = λ apart ss h.
    let a = c.self.inside in
    let m = machine_of a.cells a.environments a.x.items a.y.items a.roots.items a.next in
    let o = opened c.args.code.now ss c.args.self.now m (inside c.args.at) (ap (λ s. s.machine) c.self.view_is) c.requires.here h in
    breaks c.args.code.now m c.args.at ss o c.in-Some.instr (sym c.in-Some.ensures) (ap (step_of c.args.code.now) c.in-Call.is ∙ ap (λ f. with_predicate f call) (c.is_known.ensures.unknown c.if-is_known.false))

pub returns-else-is_known-2-clause-holds : goal.returns-else-is_known-2-clause-holds
returns-else-is_known-2-clause-holds c = λ apart ss h.
    let a = c.self.inside in
    let m = machine_of a.cells a.environments a.x.items a.y.items a.roots.items a.next in
    let o = opened c.args.code.now ss c.args.self.now m (inside c.args.at) (ap (λ s. s.machine) c.self.view_is) c.requires.here h in
    breaks c.args.code.now m c.args.at ss o c.in-Some.instr (sym c.in-Some.ensures) (ap (step_of c.args.code.now) c.in-Execute.is ∙ ap (λ f. with_predicate f execute) (c.is_known-in-Execute.ensures.unknown c.if-is_known-2.false))

pub returns-then-is_known-2-clause-holds : goal.returns-then-is_known-2-clause-holds
returns-then-is_known-2-clause-holds c = λ apart ss h.
    let a = c.self.inside in
    let m = machine_of a.cells a.environments a.x.items a.y.items a.roots.items a.next in
    let o = opened c.args.code.now ss c.args.self.now m (inside c.args.at) (ap (λ s. s.machine) c.self.view_is) c.requires.here h in
    let k = c.is_known-in-Execute.ensures.known c.if-is_known-2.true in
    calls_last c.args.code.now m c.args.at ss o c.in-Some.instr (sym c.in-Some.ensures) c.in-Execute.number k.0 (ap (step_of c.args.code.now) c.in-Execute.is ∙ ap (λ f. with_predicate f execute) k.1) k.1
    (apart c.args.at c.in-Execute.number c.in-Some.instr k.0 (sym c.in-Some.ensures) (ap called_by c.in-Execute.is) k.1)

pub returns-then-ends_behind-clause-holds : goal.returns-then-ends_behind-clause-holds
returns-then-ends_behind-clause-holds c = λ apart ss h.
    let a = c.self.inside in
    let m = machine_of a.cells a.environments a.x.items a.y.items a.roots.items a.next in
    let o = opened c.args.code.now ss c.args.self.now m (inside c.args.at) (ap (λ s. s.machine) c.self.view_is) c.requires.here h in
    let k = c.is_known.ensures.known c.if-is_known.true in
    calls_ending c.args.code.now m c.args.at ss o c.in-Some.instr (sym c.in-Some.ensures) c.in-Call.number k.0 (ap (step_of c.args.code.now) c.in-Call.is ∙ ap (λ f. with_predicate f call) k.1)
    (c.ends_behind.ensures c.if-ends_behind.true) k.1 (apart c.args.at c.in-Call.number c.in-Some.instr k.0 (sym c.in-Some.ensures) (ap called_by c.in-Call.is) k.1)

pub returns-then-is_known-clause-holds : goal.returns-then-is_known-clause-holds
returns-then-is_known-clause-holds c = λ apart ss h.
    let a = c.self.inside in
    let m = machine_of a.cells a.environments a.x.items a.y.items a.roots.items a.next in
    let o = opened c.args.code.now ss c.args.self.now m (inside c.args.at) (ap (λ s. s.machine) c.self.view_is) c.requires.here h in
    let k = c.is_known.ensures.known c.if-is_known.true in
    called c.args.code.now a.cells a.environments c.push.new.self a.x.items a.y.items a.x.items a.y.items a.roots.items c.args.at c.in-Some.instr c.in-Call.number k.0 c.used.result.now c.in_ok-place-in-Call.place (sym c.in-Some.ensures)
    (ap (step_of c.args.code.now) c.in-Call.is ∙ ap (λ f. with_predicate f call) k.1) k.1
    (apart c.args.at c.in-Call.number c.in-Some.instr k.0 (sym c.in-Some.ensures) (ap called_by c.in-Call.is) k.1) (λ n. c.used.ensures.held n ∙ ap (λ us. held us n) c.deref.ensures.value) c.in_ok-place-in-Call.ensures c.in_ok-push-in-Call.ensures.ok ss o

pub returns-then-is_known-clause-due : goal.returns-then-is_known-clause-due
returns-then-is_known-clause-due c = (refl, c.is_known.ensures.known c.if-is_known.true)

pub returns-then-is_known-2-clause-due : goal.returns-then-is_known-2-clause-due
returns-then-is_known-2-clause-due c = (refl, c.is_known-in-Execute.ensures.known c.if-is_known-2.true)

pub returns-in-Builtin-clause-due : goal.returns-in-Builtin-clause-due
returns-in-Builtin-clause-due c = (c.requires.here, sym c.in-Some.ensures ∙ ap Some c.in-Builtin.is)
