-- The program's command for `clap`, which has the words of the table, and what it makes of a line.
use Rattle.std.specs.Prelude.{true, List, [], ◌∷◌, ◌++◌, Option, None, Some, map, codes}
use Rattle.std.specs.Option.{option_map_or}
use Rattle.clap.specs.Words.{App, Row, Rule, Shape, first_of, new_app, new_rule, with_rule, with_subcommand}
use Rattle.clap.specs.Simple.{new_shape}
use Rattle.clap.specs.declared.builder.action.ArgAction.TheVariants.{Set}
use Rattle.ap_words.specs.Table.{Text, Words, words_of, run_words, show_words, code_words, load_words}
use Rattle.ap_words.specs.Values.{Values}

abbrev pub place_rule : Text → Rule
place_rule name = record (new_rule name) { action = Some Set; required = true }

abbrev pub option_rule : Text → Rule
option_rule name = record (new_rule name) { long = Some name; action = Some Set }

-- a command with more arguments
abbrev pub with_rules : App → List Rule → App
with_rules a [] = a
with_rules a (rule ∷ rules) = with_rules (with_rule a rule) rules

-- a command of the table
abbrev pub command_app : Text → Words → App
command_app name known = with_rules (with_rules (new_app name) (map place_rule known.places)) (map option_rule known.options)

abbrev pub command_shape : Text → Words → Shape
command_shape name known = (command_app name known).top

-- the program without its commands: `help` is none of them
abbrev pub bare : App
bare = record (new_app (codes "andprolog")) { top = record (new_shape (codes "andprolog")) { has_version = true; subcommand_required = true; disable_help_subcommand = true } }

abbrev pub program : App
program =
    with_subcommand (with_subcommand (with_subcommand (with_subcommand bare
    (command_shape (codes "run") run_words)) (command_shape (codes "show") show_words)) (command_shape (codes "code") code_words)) (command_shape (codes "load") load_words)

abbrev pub with_found : Text → Option Text → Values → Values
with_found name None vs = vs
with_found name (Some text) vs = (name, text) ∷ vs

-- the texts that names have among the matches of a command
abbrev pub found_in : List Row → List Text → Values
found_in rows [] = []
found_in rows (name ∷ names) = with_found name (first_of name rows) (found_in rows names)

-- what a command's matches give to its names
abbrev pub matched : Text → List Row → Values
matched command rows = option_map_or (λ known. found_in rows known.places ++ found_in rows known.options) (words_of command) []
