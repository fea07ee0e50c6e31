-- What stands between quotes, character by character.
use Rattle.ap_lexer.specs.Lexeme.{Text}
use Rattle.ap_reader.specs.declared.leaf.Quote.TheVariants as quote
use Rattle.ap_reader.specs.Written.{unquoted}

-- the name that is written from behind its first quote
abbrev pub inside : Text → Text
inside = unquoted quote.Plain
