use Rattle.std.proofs.Common.{refl, sym, ◌∙◌}
use Rattle.ap_worker.proofs.Staffed.{now-finished}
use Rattle.ap_worker.proofs.worker.Worker.finish.Goals as goal

pub finish-requires-clause-fits : goal.finish-requires-clause-fits
finish-requires-clause-fits c = λ js j e. c.requires.fits js j (sym c.leave.ensures.jobs.jobs ∙ e)

pub returns : goal.returns
returns c = record {
  goes = now-finished _ _ c.args.first c.finish.ensures.jobs.0 refl refl (λ g less. c.finish.ensures.posted g ∙ c.leave.ensures.posted g less) (c.finish.ensures.next ∙ c.leave.ensures.next)
      (sym c.leave.ensures.jobs.jobs ∙ c.finish.ensures.jobs.1) c.requires.short;
}
