use Rattle.std.proofs.Common.{◌∙◌, map, ap}
use Rattle.std.proofs.lemmas.Result.{IfOk-weaker}
use Rattle.clap.specs.Words.{App}
use Rattle.ap_words.specs.Known.{words_in}
use Rattle.ap_words.specs.Clap.{option_rule, place_rule, with_rules}
use Rattle.ap_words.proofs.command.command.Goals as goal

pub returns-clause-shape : goal.returns-clause-shape
returns-clause-shape c =
    let known = words_in c.args.known in
    let places = c.in_ok-command.ensures.rules ∙ ap (λ a. with_rules a (map place_rule known.places)) c.new.ensures.app in
    IfOk-weaker c.with_options.result _ _ (λ d h. ap (λ (a : App). a.top) (h ∙ ap (λ a. with_rules a (map option_rule known.options)) places)) c.with_options.ensures.rules
