use Rattle.std.proofs.Common.{length, sym, ap, ◌∙◌}
use Rattle.ap_section.specs.Views.{view_of}
use Rattle.ap_worker.proofs.Asks.{begun-solves, begun-fresh}
use Rattle.ap_worker.proofs.solving.begun.Goals as goal

pub returns-clause-solves : goal.returns-clause-solves
returns-clause-solves c = λ p asked searched.
    begun-solves c.solving_law.ensures c.args.sound.now p c.args.query.now c.in-Some.number c.args.budget (length c.names.result.now) c.in_ok-tuple.tuple (view_of c.in_ok-newest.newest) c.in_ok-newest.ensures.begins
    (ap (λ k. k.query) (sym c.code.ensures.same) ∙ sym c.query.ensures ∙ c.in-Some.is) (ap length c.names.ensures.names) c.in_ok-tuple.ensures.names asked searched

pub returns-clause-fresh : goal.returns-clause-fresh
returns-clause-fresh c = begun-fresh c.args.sound.now c.in-Some.number c.args.budget c.in_ok-tuple.tuple (view_of c.in_ok-newest.newest) c.in_ok-newest.ensures.begins
