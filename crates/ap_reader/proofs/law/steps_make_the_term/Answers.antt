use Rattle.std.proofs.Common.{[], ap, sym, ◌∙◌}
use Rattle.std.proofs.lemmas.List.{append-nil}
use Rattle.ap_reader.specs.Step.{postfix}
use Rattle.ap_reader.specs.Evaluated.{evaluated, evaluates}
use Rattle.ap_reader.proofs.law.steps_make_the_term.Goals as goal

pub returns : goal.returns
returns c = λ leaves t. ap (evaluated leaves []) (sym (append-nil (postfix t))) ∙ evaluates leaves t [] []
