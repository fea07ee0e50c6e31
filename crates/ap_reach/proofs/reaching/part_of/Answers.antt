use Rattle.std.proofs.Common.{◌≡◌}
use Rattle.std.proofs.lemmas.Result.{IfOk-weaker}
use Rattle.ap_term.specs.Goals.{Query}
use Rattle.ap_reach.specs.Reached.{gathered, Reaches, IsReached}
use Rattle.ap_reach.proofs.Naming.{reached_calls}
use Rattle.ap_reach.proofs.reaching.part_of.Goals as goal

pub returns-clause-reached : goal.returns-clause-reached
returns-clause-reached c =
    let p = c.args.program.now in
    let ks = c.args.calls.now in
    IfOk-weaker c.gather.result (λ part. part ≡ gathered ks ks p) (λ part. (q : Query) → Reaches p q ks → IsReached p q part)
    (λ part e q has. record {
      called = ks;
      once = c.gather.ensures.once;
      placed = c.gather.ensures.placed;
      clauses = e;
      among = reached_calls p ks q.question q.lifted part has.question has.lifted has.called e;
    })
    c.gather.ensures.clauses
