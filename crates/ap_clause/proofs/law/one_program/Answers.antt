use Rattle.ap_clause.proofs.OneResult.{one_program, not_both, one_refusal}
use Rattle.ap_clause.proofs.SomeResult.{some_result}
use Rattle.ap_clause.proofs.law.one_program.Goals as goal

pub returns : goal.returns
returns c = λ text table ok. record {
  some = some_result text table ok;
  not_both = λ a new r. not_both text table new a r;
  accepted = λ a b new other. one_program text table new other a b;
  refused = one_refusal text table;
}
