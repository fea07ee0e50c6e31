-- Why a piece has no tokens.
use Rattle.std.specs.Prelude.{◌≡◌, ℕ, Option, Some, None}
use Rattle.ap_lexer.specs.declared.error.LexErr.{LexErr}
use Rattle.ap_lexer.specs.declared.error.LexErr.TheVariants as error

-- a bad token on this line, or none and want of memory
abbrev pub IsCauseOf : Option ℕ → LexErr → Type 0
IsCauseOf bad (error.BadToken line) = bad ≡ Some line
IsCauseOf bad error.NoMemory = bad ≡ None
