-- When what scans ahead have found holds of a text.
use Rattle.std.specs.Prelude.{◌≡◌, ◌+◌, ◌≤◌, false, length, drop, Option, Some, None}
use Rattle.std.specs.Str.Lossy.{utf8_valid_len}
use Rattle.ap_lexer.specs.declared.ahead.Characters.{Characters}
use Rattle.ap_lexer.specs.declared.ahead.Line.{Line}
use Rattle.ap_lexer.specs.declared.ahead.Comment.{Comment}
use Rattle.ap_lexer.specs.declared.ahead.Quoted.{Quoted}
use Rattle.ap_lexer.specs.declared.ahead.Ahead.{Ahead}
use Rattle.ap_lexer.specs.Lexeme.{Text, line_len, comment_end, closing}

abbrev pub KnowsCharacters : Text → Option Characters → Type 0
KnowsCharacters text None = Unit {0}
KnowsCharacters text (Some c) = (c.to ≡ c.from + utf8_valid_len (drop c.from text)) × (c.to ≤ length text)

abbrev pub KnowsLine : Text → Option Line → Type 0
KnowsLine text None = Unit {0}
KnowsLine text (Some l) = (l.to ≡ l.from + line_len (drop l.from text)) × (l.to ≤ length text)

abbrev pub KnowsComment : Text → Option Comment → Type 0
KnowsComment text None = Unit {0}
KnowsComment text (Some c) = c.end ≡ comment_end false c.from (drop c.from text)

abbrev pub KnowsQuoted : Text → Option Quoted → Type 0
KnowsQuoted text None = Unit {0}
KnowsQuoted text (Some q) = (q.end ≡ closing q.state q.from (drop q.from text)) × (q.from ≤ length text)

pub record IsSound (text : Text) (a : Ahead) : Type 0 where
  pub characters : KnowsCharacters text a.characters
  pub line : KnowsLine text a.line
  pub comment : KnowsComment text a.comment
  pub quoted : KnowsQuoted text a.quoted
