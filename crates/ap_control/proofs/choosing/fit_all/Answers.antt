use Rattle.std.proofs.Common.{◌+◌, ◌≤◌, take, length, ap, sym, ◌∙◌, subst}
use Rattle.std.proofs.lemmas.Option.{slice_get-get_or}
use Rattle.std.proofs.lemmas.List.{take_all}
use Rattle.ap_steps.specs.Moves.{held}
use Rattle.ap_control.specs.Choosing.{AreFit, both}
use Rattle.ap_control.proofs.Fitting.{fit-none, fit-next, fit-lacks, both-has, both-lacks}
use Rattle.ap_control.proofs.choosing.fit_all.Goals.{in-Has, in_default}
use Rattle.ap_control.proofs.choosing.fit_all.Goals as goal

pub loop-ask-init : goal.loop-ask-init
loop-ask-init c = fit-none c.args.cells.now.cells (held c.args.x.now) c.args.arity c.args.asks.now

pub loop-ask-preserved : goal.loop-ask-preserved
loop-ask-preserved c =
    let e = c.fit_ask.ensures in
    let cs = c.args.cells.now.cells in
    let x = held c.args.x.now in
    let asks = c.args.asks.now in
    let i = c.loop-ask.ask-index in
    let some = c.loop-ask.fit in
    let next = fit-next cs x c.args.arity asks i _ some c.fit_ask.result (slice_get-get_or asks i _ c.loop-ask-test.true) c.loop-ask.invariant e in
    elim c.match-fit_ask.branch [
      | in-Has w ↦ subst (AreFit cs x c.args.arity (take (i + 1) asks)) (ap (both some) w.in-Has.is ∙ both-has some ∙ sym w.fit-is) next
      | in_default w ↦ subst (AreFit cs x c.args.arity (take (i + 1) asks)) (sym (w.fit-is ∙ w.both-fit.ensures)) next
    ]

pub returns-in-Lacks : goal.returns-in-Lacks
returns-in-Lacks c =
    let e = c.fit_ask.ensures in
    let cs = c.args.cells.now.cells in
    let x = held c.args.x.now in
    let asks = c.args.asks.now in
    let i = c.loop-ask.ask-index in
    let some = c.loop-ask.fit in
    fit-lacks cs x c.args.arity asks (i + 1) (both some c.fit_ask.result) (ap (both some) c.in-Lacks.is ∙ both-lacks some)
    (fit-next cs x c.args.arity asks i _ some c.fit_ask.result (slice_get-get_or asks i _ c.loop-ask-test.true) c.loop-ask.invariant e)

pub returns : goal.returns
returns c =
    let asks = c.args.asks.now in
    let last : length asks ≤ c.loop-ask.ask-index = c.loop-ask-test.false in
    subst (λ es. AreFit c.args.cells.now.cells (held c.args.x.now) c.args.arity es c.loop-ask.fit) (take_all c.loop-ask.ask-index asks last) c.loop-ask.invariant
