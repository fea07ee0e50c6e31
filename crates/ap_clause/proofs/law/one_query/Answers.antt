use Rattle.ap_clause.proofs.OneResult.{one_query, not_both_query, one_query_refusal}
use Rattle.ap_clause.proofs.SomeResult.{some_query}
use Rattle.ap_clause.proofs.law.one_query.Goals as goal

pub returns : goal.returns
returns c = λ text piece program table. record {
  some = some_query text piece program table;
  not_both = λ a new r. not_both_query text piece program table new a r;
  accepted = λ a b new other. one_query text piece program table new other a b;
  refused = one_query_refusal text piece program table;
}
