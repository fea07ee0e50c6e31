-- What the reader makes of tokens, by their kinds, their bytes and whether the next one touches.
use Rattle.std.specs.Prelude.{ℕ, ◌+◌, Bool, true, false, ◌&&◌, ◌||◌, ◌==◌, if◌then◌else◌, List, [], ◌∷◌, Option, Some, None, codes, bytes_eq}
use Rattle.ap_lexer.specs.declared.kind.TokenKind.{TokenKind}
use Rattle.ap_lexer.specs.declared.kind.TokenKind.TheVariants as token
use Rattle.ap_lexer.specs.Lexeme.{Text, number}
use Rattle.ap_lexer.specs.Law.{Spelled}
use Rattle.ap_reader.specs.declared.word.Word.{Word}
use Rattle.ap_reader.specs.declared.word.Word.TheVariants as word
use Rattle.ap_reader.specs.Operator.{priority_of}
use Rattle.ap_reader.specs.Word.{starts, stops, is_open, is_integer, number_word}
use Rattle.ap_reader.specs.Written.{Written, leaf_by, seen_by}

abbrev pub next_is : (TokenKind → Bool) → Option TokenKind → Bool
next_is p None = false
next_is p (Some kind) = p kind

abbrev pub first_kind : List Spelled → Option TokenKind
first_kind [] = None
first_kind (t ∷ ts) = Some t.kind

-- a name that isn't a functor, with the kind of the token after, and whether that one touches
abbrev pub bare_of : ℕ → Option TokenKind → Text → Option TokenKind → Bool → Word
bare_of at before text after touches =
    let behind = priority_of false text in
    let before_one = priority_of true text in
    if behind == 0 && before_one == 0 || starts before && next_is stops after then word.Operand at
    else (if bytes_eq text (codes "-") && (next_is is_integer after && touches) then word.Sign at behind
    else word.Operator at behind before_one)

abbrev pub named_of : ℕ → Option TokenKind → Text → Option TokenKind → Bool → Word
named_of at before text after touches = if next_is is_open after && touches then word.Functor at (priority_of false text) else bare_of at before text after touches

abbrev pub quoted_of : ℕ → Option TokenKind → Bool → Word
quoted_of at after touches = if next_is is_open after && touches then word.Functor at 0 else word.Operand at

abbrev pub comma_of : ℕ → Option TokenKind → Option TokenKind → Word
comma_of at before after = if starts before && next_is stops after then word.Operand at else word.Comma at

abbrev pub word_of : TokenKind → ℕ → Option TokenKind → Text → Option TokenKind → Bool → Word
word_of token.Name at before text after touches = named_of at before text after touches
word_of token.Symbol at before text after touches = named_of at before text after touches
word_of token.Semicolon at before text after touches = bare_of at before text after touches
word_of token.Quoted at before text after touches = quoted_of at after touches
word_of token.Comma at before text after touches = comma_of at before after
word_of token.Cut at before text after touches = word.Operand at
word_of token.Variable at before text after touches = word.Operand at
word_of token.Integer at before text after touches = number_word (number text)
word_of token.Bar at before text after touches = word.Bar
word_of token.Open at before text after touches = word.Open
word_of token.Close at before text after touches = word.Close
word_of token.OpenList at before text after touches = word.OpenList
word_of token.CloseList at before text after touches = word.CloseList
word_of token.End at before text after touches = word.Other

-- the words of tokens that stand behind a token, the first of them at a place
abbrev pub words_of : Option TokenKind → ℕ → List Spelled → List Word
words_of before at [] = []
words_of before at (t ∷ ts) = word_of t.kind at before t.text (first_kind ts) t.touches ∷ words_of (Some t.kind) (at + 1) ts

-- what each token is as an operand or a functor, behind variables that were seen
abbrev pub leaves_of : List Text → List Spelled → List Written
leaves_of seen [] = []
leaves_of seen (t ∷ ts) = leaf_by t.kind seen t.text ∷ leaves_of (seen_by t.kind seen t.text) ts

abbrev pub variables_of : List Text → List Spelled → List Text
variables_of seen [] = seen
variables_of seen (t ∷ ts) = variables_of (seen_by t.kind seen t.text) ts
