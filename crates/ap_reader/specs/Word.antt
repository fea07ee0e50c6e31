-- What each token is to the grammar, by the tokens beside it.
use Rattle.std.specs.Prelude.{ℕ, ◌+◌, ◌^◌, Bool, true, false, ◌&&◌, ◌||◌, ◌==◌, if◌then◌else◌, nat_le, List, [], ◌∷◌, Option, Some, None, codes, bytes_eq}
use Rattle.std.specs.Borrow.{Bor}
use Rattle.ap_lexer.specs.declared.kind.TokenKind.{TokenKind}
use Rattle.ap_lexer.specs.declared.kind.TokenKind.TheVariants as token
use Rattle.ap_lexer.specs.declared.split.Token.{Token}
use Rattle.ap_lexer.specs.Lexeme.{number}
use Rattle.ap_lexer.specs.Token.{Placed, view}
use Rattle.ap_reader.specs.declared.word.Word.{Word}
use Rattle.ap_reader.specs.declared.word.Word.TheVariants as word
use Rattle.ap_reader.specs.Operator.{priority_of}

-- an operand may begin behind such a token, and end before such a one
abbrev pub starts : Option TokenKind → Bool
starts None = false
starts (Some token.Open) = true
starts (Some token.OpenList) = true
starts (Some token.Comma) = true
starts (Some token.Bar) = true
starts (Some _) = false

abbrev pub stops : TokenKind → Bool
stops token.Close = true
stops token.CloseList = true
stops token.Comma = true
stops token.Bar = true
stops _ = false

abbrev pub is_open : TokenKind → Bool
is_open token.Open = true
is_open _ = false

abbrev pub is_integer : TokenKind → Bool
is_integer token.Integer = true
is_integer _ = false

-- the token after is of such a kind; or it is so and follows directly
abbrev pub after_is : (TokenKind → Bool) → Option Placed → Bool
after_is p None = false
after_is p (Some u) = p u.kind

abbrev pub touches : (TokenKind → Bool) → Placed → Option Placed → Bool
touches p t None = false
touches p t (Some u) = p u.kind && t.to == u.from

-- A name that isn't a functor: an operand where it is no operator, and between brackets, commas and bars.
abbrev pub bare_word : ℕ → Option TokenKind → Placed → Option Placed → Word
bare_word at before t after =
    let behind = priority_of false t.text in
    let before_one = priority_of true t.text in
    if behind == 0 && before_one == 0 || starts before && after_is stops after then word.Operand at
    else (if bytes_eq t.text (codes "-") && touches is_integer t after then word.Sign at behind
    else word.Operator at behind before_one)

abbrev pub named_word : ℕ → Option TokenKind → Placed → Option Placed → Word
named_word at before t after = if touches is_open t after then word.Functor at (priority_of false t.text) else bare_word at before t after

-- a quoted name is never an operator
abbrev pub quoted_word : ℕ → Placed → Option Placed → Word
quoted_word at t after = if touches is_open t after then word.Functor at 0 else word.Operand at

-- a comma is an operand between brackets, commas and bars
abbrev pub comma_word : ℕ → Option TokenKind → Option Placed → Word
comma_word at before after = if starts before && after_is stops after then word.Operand at else word.Comma at

abbrev pub number_word : ℕ → Word
number_word n = if nat_le n (2 ^ 63) then word.Number n else word.Other

abbrev pub word_by : TokenKind → ℕ → Option TokenKind → Placed → Option Placed → Word
word_by token.Name at before t after = named_word at before t after
word_by token.Symbol at before t after = named_word at before t after
word_by token.Semicolon at before t after = bare_word at before t after
word_by token.Quoted at before t after = quoted_word at t after
word_by token.Comma at before t after = comma_word at before after
word_by token.Cut at before t after = word.Operand at
word_by token.Variable at before t after = word.Operand at
word_by token.Integer at before t after = number_word (number t.text)
word_by token.Bar at before t after = word.Bar
word_by token.Open at before t after = word.Open
word_by token.Close at before t after = word.Close
word_by token.OpenList at before t after = word.OpenList
word_by token.CloseList at before t after = word.CloseList
word_by token.End at before t after = word.Other

abbrev pub first : List Placed → Option Placed
first [] = None
first (t ∷ ts) = Some t

-- the words of tokens that stand behind a token, the first of them at a place
abbrev pub words_from : Option TokenKind → ℕ → List Placed → List Word
words_from before at [] = []
words_from before at (t ∷ ts) = word_by t.kind at before t (first ts) ∷ words_from (Some t.kind) (at + 1) ts

abbrev pub words : List Placed → List Word
words = words_from None 0

-- a token that may be absent, as `view` sees it
abbrev pub seen : Option (Bor Token) → Option Placed
seen None = None
seen (Some t) = Some (view t.now)
