-- The tokens that a printed name or number is read as.
use Rattle.std.specs.Prelude.{◌≡◌, ℕ, suc, ℤ, pos, negsuc, ◌==◌, ◌||◌, not, Bool, true, List, [], ◌∷◌, ◌++◌, codes, bytes_eq, if◌then◌else◌}
use Rattle.std.specs.Fmt.{decimal}
use Rattle.ap_lexer.specs.declared.kind.TokenKind.{TokenKind}
use Rattle.ap_lexer.specs.declared.kind.TokenKind.TheVariants as token
use Rattle.ap_lexer.specs.Lexeme.{Text, lexemes}
use Rattle.ap_lexer.specs.Law.{Spelled, spelled, begins_token}
use Rattle.ap_writer.specs.Quoted.{is_word, is_symbol, is_name, is_symbols, name_text}

-- nothing follows, or a byte that no name, no number and no quoted name goes on with
abbrev pub is_apart : Text → Bool
is_apart [] = true
is_apart (b ∷ rest) = not (is_word b || (is_symbol b || b == 39))

abbrev pub one_token : TokenKind → Text → Bool → List Spelled
one_token row text touches = record { kind = row; text = text; touches = touches } ∷ []

-- the tokens of a name, the last of which the next token touches or doesn't
abbrev pub name_tokens : List ℕ → Bool → List Spelled
name_tokens name touches =
    if is_name name then one_token token.Name name touches
    else (if is_symbols name then one_token token.Symbol name touches
    else (if bytes_eq name (codes "[]") then one_token token.OpenList (codes "[") true ++ one_token token.CloseList (codes "]") touches
    else (if bytes_eq name (codes ";") then one_token token.Semicolon (codes ";") touches
    else (if bytes_eq name (codes "!") then one_token token.Cut (codes "!") touches
    else one_token token.Quoted (name_text name) touches))))

abbrev pub integer_tokens : ℤ → Bool → List Spelled
integer_tokens (pos n) touches = one_token token.Integer (decimal n) touches
integer_tokens (negsuc n) touches = one_token token.Symbol (codes "-") true ++ one_token token.Integer (decimal (suc n)) touches

abbrev pub variable_tokens : ℕ → Bool → List Spelled
variable_tokens n touches = one_token token.Variable (codes "_" ++ decimal n) touches

-- a text before a rest is read as these tokens, and the rest as it is by itself
abbrev pub IsReadAs : Text → (Bool → List Spelled) → Text → Type 0
IsReadAs text tokens rest = spelled (text ++ rest) (lexemes (text ++ rest)) ≡ tokens (begins_token (lexemes rest)) ++ spelled rest (lexemes rest)
