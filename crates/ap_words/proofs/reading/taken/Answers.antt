use Rattle.std.proofs.Common.{◌∙◌, map, ap, sym}
use Rattle.std.specs.Box.{box_value}
use Rattle.clap.specs.Words.{found_of, rows_of}
use Rattle.clap.specs.declared.parser.matches.ArgMatches.TheViews.{out-ArgMatches, out-SubCommand}
use Rattle.ap_words.specs.Asked.{asked_by}
use Rattle.ap_words.specs.Reading.{taken}
use Rattle.ap_words.specs.Values.{value_of}
use Rattle.ap_words.proofs.Loops.{pair_is}
use Rattle.ap_words.proofs.reading.taken.Goals as goal

pub returns : goal.returns
returns c =
    let command = c.in-Some.command.now in
    let rows = rows_of (found_of c.in-Some.inner.now) in
    let met = pair_is (λ b. (out-SubCommand (box_value b)).name.now) (λ b. rows_of (found_of (out-SubCommand (box_value b)).matches)) (out-ArgMatches c.args.matches.now).subcommand command rows
    (sym c.in-Some.ensures.name) (sym c.in-Some.ensures.rows) in
    let values = ap (map value_of) c.deref.ensures.value ∙ c.in_ok-values.ensures in
    (command, rows, met, c.judged.ensures ∙ ap taken (c.asked_by.ensures ∙ ap (asked_by command) values))
