use Rattle.std.proofs.Common.{◌≤◌, IfOk, subst, rules}
use denote.Exit.{no}
use denote.Param.Send.{param_send, arg_send}
use Rattle.ap_outside.specs.Halting.{Finishes}
use Rattle.ap_outside.specs.Pieces.{Puts}
use Rattle.ap_open.specs.Ungrouped.{AreCalls, IsUngrouped}
use Rattle.ap_worker.specs.Charged.{IsChargedEnd}
use Rattle.ap_term.specs.Search.{start}
use Rattle.ap_term.specs.Blocks.{IsBlock}
use Rattle.ap_worker.specs.Ends.{end_of}
use Rattle.ap_worker.proofs.Crosses.{served-send}
use Rattle.ap_worker.proofs.solving.search_beside.Goals as goal

pub join_mut-found-requires-send-F : goal.join_mut-found-requires-send-F
join_mut-found-requires-send-F g c κs within = param_send 1 _ (arg_send _ no _ (served-send _ _ _ _ _ _ _ _ _ c.type_bounds.sync-R c.type_bounds.sync-G))

pub returns-clause-lines : goal.returns-clause-lines
returns-clause-lines g c = λ p q good h.
    subst (λ o. Finishes (g.K.Sink.pieces c.args.out.now) (g.K.Sink.pieces o) (λ e put. IsBlock (g.A.Answers.line c.args.answers.now) p.program (start q) c.args.bounds.budget c.args.bounds.limit put (end_of e.end)) c.join_mut-found.result.1)
    (search rules) (c.join_mut-found.ensures.1.met.1.0 p q good h)

pub returns-clause-charged : goal.returns-clause-charged
returns-clause-charged g c = λ p q good h.
    subst (λ o. IfOk c.join_mut-found.result.1 (λ e. Puts (g.K.Sink.pieces c.args.out.now) (g.K.Sink.pieces o) (IsChargedEnd (g.A.Answers.line c.args.answers.now) p.program (start q) c.args.bounds.budget c.args.bounds.limit (IsUngrouped p.program × AreCalls q.question.body) e.end e.charged)))
    (search rules) (c.join_mut-found.ensures.1.met.1.1.0 p q good h)

pub returns-clause-paid : goal.returns-clause-paid
returns-clause-paid g c = λ p q good h k. subst (λ n. IfOk c.join_mut-found.result.1 (λ e. e.charged ≤ n)) (search rules) (c.join_mut-found.ensures.1.met.1.1.1.0 p q good h k)
