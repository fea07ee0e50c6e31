use Rattle.std.proofs.Common.{ap, sym, ◌∙◌, arith}
use Rattle.ap_clause.specs.Arity.{is_pair}
use Rattle.ap_clause.proofs.Bodies.{pair_other}
use Rattle.ap_clause.proofs.GoalRows.{pair_two}
use Rattle.ap_clause.proofs.clause.is_pair.Goals as goal

pub returns-in-len2 : goal.returns-in-len2
returns-in-len2 c = pair_two c.as_slice.result.now (omega (arith, c.in-len2.len_at_least, c.in-len2.len_below)) ∙ ap is_pair c.as_slice.ensures

pub returns-in_default : goal.returns-in_default
returns-in_default c = sym (pair_other c.as_slice.result.now (λ e. absurd (omega (arith, e, c.in_default.len_below)))) ∙ ap is_pair c.as_slice.ensures

pub returns-in_default-2 : goal.returns-in_default-2
returns-in_default-2 c = sym (pair_other c.as_slice.result.now (λ e. absurd (omega (arith, e, c.in_default.len_at_least)))) ∙ ap is_pair c.as_slice.ensures
