-- Which queries may be asked.
use Rattle.ap_term.specs.declared.fixed.TheConstants.{QUERY}
use Rattle.ap_term.specs.Goals.{Program, Query, joined}
use Rattle.ap_graft.specs.Uncalled.{NeverCalls}
use Rattle.ap_machine.specs.Started.{NoneIsFor}

-- A query that may be asked by a clause for `?-` beside a program: nothing calls that name, and no other clause is for it.
pub record MayBeAsked (p : Program) (q : Query) : Type 0 where
  pub calls : NeverCalls QUERY (joined p q)
  pub program : NoneIsFor QUERY p
  pub lifted : NoneIsFor QUERY q.lifted
