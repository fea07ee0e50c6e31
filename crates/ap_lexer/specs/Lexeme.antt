-- What stands at the front of a text, and how a text is cut into such stretches, lexemes.
use Rattle.std.specs.Prelude.{ℕ, zero, suc, ◌+◌, ◌-◌, ◌*◌, ◌^◌, Bool, true, false, not, ◌&&◌, ◌||◌, if◌then◌else◌, ◌==◌, nat_le, nat_lt, min, List, [], ◌∷◌, length, take, drop, slice_index, Option, Some, None}
use Rattle.std.specs.Char.{is_ascii_digit, is_ascii_lowercase, is_ascii_uppercase, is_ascii_alphanumeric}
use Rattle.std.specs.List.{prefix_len}
use Rattle.std.specs.Str.Lossy.{utf8_valid_len}
use Rattle.ap_lexer.specs.declared.bytes.Class.{Class}
use Rattle.ap_lexer.specs.declared.bytes.Class.TheVariants as class
use Rattle.ap_lexer.specs.declared.ahead.Quote.{Quote}
use Rattle.ap_lexer.specs.declared.ahead.Quote.TheVariants as quote
use Rattle.ap_lexer.specs.declared.kind.TokenKind.{TokenKind}
use Rattle.ap_lexer.specs.declared.kind.TokenKind.TheVariants as token
use Rattle.ap_lexer.specs.declared.kind.LexemeKind.{LexemeKind}
use Rattle.ap_lexer.specs.declared.kind.LexemeKind.TheVariants as kind

abbrev pub Text : Type 0
Text = List ℕ

-- a kind, and a length in bytes
abbrev pub Lexeme : Type 0
Lexeme = LexemeKind × ℕ

-- space, tab, line feed, carriage return
abbrev pub is_layout : ℕ → Bool
is_layout b = b == 32 || b == 9 || b == 10 || b == 13

-- + - * / \ ^ < > = ~ : . ? @ # & $
abbrev pub is_symbol : ℕ → Bool
is_symbol b = b == 43 || b == 45 || b == 42 || b == 47 || b == 92 || b == 94 || b == 60 || b == 62 || b == 61 || b == 126 || b == 58 || b == 46 || b == 63 || b == 64 || b == 35 || b == 38 || b == 36

-- ASCII letters, digits and _
abbrev pub is_word : ℕ → Bool
is_word b = is_ascii_alphanumeric b || b == 95

abbrev pub is_in : Class → ℕ → Bool
is_in class.Word b = is_word b
is_in class.Digit b = is_ascii_digit b
is_in class.Symbol b = is_symbol b
is_in class.Line b = not (b == 10)

-- the first place from `at` on whose byte is not of the class
abbrev pub past : Class → Text → ℕ → ℕ
past c text at = at + prefix_len (is_in c) (drop at text)

-- layout or the end of the text stands at the place
abbrev pub ends : Text → ℕ → Bool
ends text at = if nat_lt at (length text) then is_layout (slice_index text at) else true

-- After a bad token's first byte: the length through the next full stop that layout or the end follows, if there is one.
abbrev pub recovered : ℕ → Text → Bool × ℕ
recovered at [] = (false, at)
recovered at (b ∷ text) = if b == 46 && ends text 0 then (true, at + 1) else recovered (at + 1) text

abbrev pub bad : Text → Lexeme
bad text = let found = recovered 1 (drop 1 text) in (kind.Bad found.0, found.1)

-- a digit's value, after those before it
abbrev pub number_from : ℕ → Text → ℕ
number_from n [] = n
number_from n (b ∷ text) = number_from (10 * n + (b - 48)) text

abbrev pub number : Text → ℕ
number digits = number_from 0 digits

abbrev pub integer : Text → Lexeme
integer text = let end = past class.Digit text 1 in if nat_le (number (take end text)) (2 ^ 63) then (kind.Token token.Integer, end) else bad text

-- a run of symbol characters; a full stop alone ends a clause where layout, `%` or the end of the text follows
abbrev pub symbols : Text → Lexeme
symbols text =
    let end = past class.Symbol text 1 in
    if end == 1 && slice_index text 0 == 46 && (ends text 1 || slice_index text 1 == 37) then (kind.Token token.End, 1) else (kind.Token token.Symbol, end)

abbrev pub solo : ℕ → Option TokenKind
solo b =
    if b == 33 then Some token.Cut else (if b == 59 then Some token.Semicolon else (if b == 44 then Some token.Comma else (if b == 124 then Some token.Bar
    else (if b == 40 then Some token.Open else (if b == 41 then Some token.Close else (if b == 91 then Some token.OpenList else (if b == 93 then Some token.CloseList else None)))))))

abbrev pub solo_or_bad : Text → Option TokenKind → Lexeme
solo_or_bad text None = bad text
solo_or_bad text (Some row) = (kind.Token row, 1)

-- the place behind the closing quote, and None where there is none on the line or an escape isn't one of the four
abbrev pub closing : Quote → ℕ → Text → Option ℕ
closing quote.Plain at [] = None
closing quote.Quote at [] = Some at
closing quote.Escape at [] = None
closing quote.Plain at (b ∷ text) = if b == 39 then closing quote.Quote (at + 1) text else (if b == 92 then closing quote.Escape (at + 1) text else (if b == 10 then None else closing quote.Plain (at + 1) text))
closing quote.Quote at (b ∷ text) = if b == 39 then closing quote.Plain (at + 1) text else Some at
closing quote.Escape at (b ∷ text) = if b == 39 || b == 92 || b == 110 || b == 116 then closing quote.Plain (at + 1) text else None

-- a quoted token to its closing quote, all of whose bytes are characters
abbrev pub quoted : Text → Option ℕ → Lexeme
quoted text None = bad text
quoted text (Some end) = if nat_le end (utf8_valid_len text) then (kind.Token token.Quoted, end) else bad text

-- the place behind the next `*/`; the byte before was a star where it says so
abbrev pub comment_end : Bool → ℕ → Text → Option ℕ
comment_end star at [] = None
comment_end star at (b ∷ text) = if star && b == 47 then Some (at + 1) else comment_end (b == 42) (at + 1) text

-- A comment to its end. A byte in it that isn't UTF-8 ends it and is a bad token.
abbrev pub comment : Text → Option ℕ → Lexeme
comment text None = bad text
comment text (Some end) = (kind.Comment, min end (utf8_valid_len text))

-- how many bytes a line goes on
abbrev pub line_len : Text → ℕ
line_len text = prefix_len (is_in class.Line) text

-- layout, and the tokens that are known by their own bytes and the next
abbrev pub plain : Text → Lexeme
plain text =
    let b = slice_index text 0 in
    if is_layout b then (kind.Layout, 1)
    else (if is_ascii_lowercase b then (kind.Token token.Name, past class.Word text 1)
    else (if is_ascii_uppercase b || b == 95 then (kind.Token token.Variable, past class.Word text 1)
    else (if is_ascii_digit b then integer text
    else (if is_symbol b then symbols text
    else solo_or_bad text (solo b)))))

-- what stands at the front of a text
unfoldable pub lexeme : Text → Lexeme
lexeme text =
    let b = slice_index text 0 in
    if b == 37 then comment text (Some (line_len text))
    else (if b == 47 && slice_index text 1 == 42 then comment text (comment_end false 2 (drop 2 text))
    else (if b == 39 then quoted text (closing quote.Plain 1 (drop 1 text))
    else plain text))

-- All lexemes of a text, one after another. The number counts the bytes that are left of one.
abbrev pub lexemes_from : ℕ → Text → List Lexeme
lexemes_from left [] = []
lexemes_from (suc left) (b ∷ text) = lexemes_from left text
lexemes_from zero (b ∷ text) = let x = lexeme (b ∷ text) in x ∷ lexemes_from (x.1 - 1) text

unfoldable pub lexemes : Text → List Lexeme
lexemes = lexemes_from 0
