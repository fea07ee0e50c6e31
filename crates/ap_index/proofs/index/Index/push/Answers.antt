use Rattle.std.proofs.Common.{ap, sym, ◌∙◌, slice_get}
use Rattle.ap_index.specs.Index.{IsChoiceOf}
use Rattle.ap_index.proofs.Left.{one-more}
use Rattle.ap_index.proofs.index.Index.push.Goals as goal

pub returns-then-number-clause-is : goal.returns-then-number-clause-is
returns-then-number-clause-is c = λ code h chosen. record {
  rows = h.rows;
  choices = λ n e stands. one-more (IsChoiceOf code) c.args.self.now.choices.items c.args.choice h.choices chosen n e (ap (λ cs. slice_get cs n) (sym c.in_ok-push.ensures.items) ∙ stands);
}

pub returns-else-at-len-clause-is : goal.returns-else-at-len-clause-is
returns-else-at-len-clause-is c = λ code h chosen. record {
  rows = h.rows;
  choices = λ n e stands. one-more (IsChoiceOf code) c.args.self.now.choices.items c.args.choice h.choices chosen n e (ap (λ cs. slice_get cs n) (sym c.in_ok-push.ensures.items) ∙ stands);
}
