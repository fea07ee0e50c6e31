use Rattle.std.proofs.Common.{◌≡◌, ◌∙◌, true, ap, ap₂}
use Rattle.std.proofs.lemmas.Result.{IfOk-weaker}
use Rattle.clap.specs.Words.{Shape, app_of, with_subcommand}
use Rattle.clap.specs.Simple.{app_of_fields, on_top}
use Rattle.clap.specs.declared.builder.command.Command.{Command}
use Rattle.clap.specs.declared.builder.command.Command.TheOpen.{Command-F}
use Rattle.ap_words.specs.Clap.{bare}
use Rattle.ap_words.proofs.command.program.Goals as goal

abbrev fitted : Shape → Shape
fitted s = record s { has_version = true; subcommand_required = true; disable_help_subcommand = true }

pub returns : goal.returns
returns c =
    let fields = c.disable_help_subcommand.ensures ∙ ap (λ (f : Command-F Command). record f { disable_help_subcommand = true })
    (c.subcommand_required.ensures ∙ ap (λ (f : Command-F Command). record f { subcommand_required = true }) c.version.ensures) in
    let bare_is : app_of c.disable_help_subcommand.result ≡ bare = ap app_of_fields fields ∙ ap (on_top fitted) c.new.ensures.app in
    let run = c.in_ok-subcommand.ensures.shape c.in_ok-run.ensures.own ∙ ap₂ with_subcommand bare_is c.in_ok-run.ensures.shape in
    let show = c.in_ok-subcommand-2.ensures.shape c.in_ok-show.ensures.own ∙ ap₂ with_subcommand run c.in_ok-show.ensures.shape in
    let code = c.in_ok-subcommand-3.ensures.shape c.in_ok-code.ensures.own ∙ ap₂ with_subcommand show c.in_ok-code.ensures.shape in
    IfOk-weaker c.subcommand-4.result _ _ (λ d h. h.shape c.in_ok-load.ensures.own ∙ ap₂ with_subcommand code c.in_ok-load.ensures.shape) c.subcommand-4.ensures
