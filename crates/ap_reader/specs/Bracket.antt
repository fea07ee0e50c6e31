-- How many brackets are open at once.
use Rattle.std.specs.Prelude.{ℕ, ◌+◌, ◌-◌, max, List, [], ◌∷◌}
use Rattle.ap_lexer.specs.declared.kind.TokenKind.{TokenKind}
use Rattle.ap_lexer.specs.declared.kind.TokenKind.TheVariants as token
use Rattle.ap_lexer.specs.Token.{Placed}

abbrev pub open_after : TokenKind → ℕ → ℕ
open_after token.Open n = n + 1
open_after token.OpenList n = n + 1
open_after token.Close n = n - 1
open_after token.CloseList n = n - 1
open_after _ n = n

-- the greatest number from a place on, where n are open there
abbrev pub most_open : ℕ → List Placed → ℕ
most_open n [] = n
most_open n (t ∷ ts) = max n (most_open (open_after t.kind n) ts)
