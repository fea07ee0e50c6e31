-- The table of tokens, row by row: what a lexeme's bytes look like, and why a bad one is bad.
use Rattle.std.specs.Prelude.{◌≡◌, ℕ, ◌+◌, ◌-◌, ◌<◌, ◌≤◌, ◌^◌, Bool, true, false, not, ◌==◌, ◌||◌, ◌&&◌, List, [], ◌∷◌, ◌++◌, length, take, drop, slice_index, min, flat_map, All, None}
use Rattle.std.specs.Char.{is_ascii_digit, is_ascii_lowercase, is_ascii_uppercase}
use Rattle.std.specs.List.{AllByRecursion}
use Rattle.std.specs.Str.Lossy.{utf8_valid_len}
use Rattle.ap_lexer.specs.declared.kind.TokenKind.{TokenKind}
use Rattle.ap_lexer.specs.declared.kind.TokenKind.TheVariants as token
use Rattle.ap_lexer.specs.declared.kind.LexemeKind.{LexemeKind}
use Rattle.ap_lexer.specs.declared.kind.LexemeKind.TheVariants as kind
use Rattle.ap_lexer.specs.Lexeme.{Text, is_layout, is_symbol, is_word, ends, number, solo}

-- n bytes pass, and the next one, if there is one, doesn't
pub record IsRun (p : ℕ → Bool) (text : Text) (n : ℕ) : Type 0 where
  pub within : n ≤ length text
  pub passes : All (λ b. p b ≡ true) (take n text)
  pub stops : n < length text → p (slice_index text n) ≡ false

-- a text begins with a full stop that layout or the end of the text follows
abbrev pub begins_stop : Text → Bool
begins_stop [] = false
begins_stop (b ∷ text) = b == 46 && ends text 0

-- what stands for a character of a quoted name
pub data Item : Type 0 where
  Plain : ℕ → Item
  TwoQuotes : Item
  Escape : ℕ → Item

-- all but a quote, a backslash and a line feed stands for itself; the four escapes are \' \\ \n \t
abbrev pub IsItem : Item → Type 0
IsItem (Plain b) = (b == 39 || b == 92 || b == 10) ≡ false
IsItem TwoQuotes = Unit {0}
IsItem (Escape b) = (b == 39 || b == 92 || b == 110 || b == 116) ≡ true

abbrev pub item_text : Item → Text
item_text (Plain b) = b ∷ []
item_text TwoQuotes = 39 ∷ 39 ∷ []
item_text (Escape b) = 92 ∷ b ∷ []

abbrev pub begins : ℕ → Text → Bool
begins c [] = false
begins c (b ∷ text) = b == c

-- a quote, items, and a quote that no quote follows; all bytes are characters
pub record IsQuoted (text : Text) (n : ℕ) : Type 0 where
  pub items : List Item
  pub rest : Text
  pub are_items : AllByRecursion IsItem items
  pub spelled : text ≡ 39 ∷ (flat_map item_text items ++ 39 ∷ rest)
  pub closes : begins 39 rest ≡ false
  pub len : n ≡ length (flat_map item_text items) + 2
  pub characters : n ≤ utf8_valid_len text

abbrev pub IsSolo : ℕ → Text → ℕ → Type 0
IsSolo b text n = (slice_index text 0 ≡ b) × (n ≡ 1)

-- the first n bytes of a text are a token of this row
abbrev pub IsToken : TokenKind → Text → ℕ → Type 0
IsToken token.Name text n = (is_ascii_lowercase (slice_index text 0) ≡ true) × IsRun is_word (drop 1 text) (n - 1)
IsToken token.Variable text n = ((is_ascii_uppercase (slice_index text 0) || slice_index text 0 == 95) ≡ true) × IsRun is_word (drop 1 text) (n - 1)
IsToken token.Integer text n = (is_ascii_digit (slice_index text 0) ≡ true) × IsRun is_ascii_digit (drop 1 text) (n - 1) × (number (take n text) ≤ 2 ^ 63)
IsToken token.Symbol text n = (is_symbol (slice_index text 0) ≡ true) × IsRun is_symbol (drop 1 text) (n - 1) × ((n == 1 && slice_index text 0 == 46 && (ends text 1 || slice_index text 1 == 37)) ≡ false) × ((slice_index text 0 == 47 && slice_index text 1 == 42) ≡ false)
IsToken token.Quoted text n = IsQuoted text n
IsToken token.End text n = IsSolo 46 text n × ((ends text 1 || slice_index text 1 == 37) ≡ true)
IsToken token.Cut text n = IsSolo 33 text n
IsToken token.Semicolon text n = IsSolo 59 text n
IsToken token.Comma text n = IsSolo 44 text n
IsToken token.Bar text n = IsSolo 124 text n
IsToken token.Open text n = IsSolo 40 text n
IsToken token.Close text n = IsSolo 41 text n
IsToken token.OpenList text n = IsSolo 91 text n
IsToken token.CloseList text n = IsSolo 93 text n

-- whether `*/` stands somewhere
abbrev pub has_close : Text → Bool
has_close [] = false
has_close (b ∷ text) = (b == 42 && begins 47 text) || has_close text

-- `/*`, then anything to the first `*/`, which ends at the place
pub record IsFirstClose (text : Text) (end : ℕ) : Type 0 where
  pub body : Text
  pub rest : Text
  pub spelled : text ≡ 47 ∷ 42 ∷ (body ++ 42 ∷ 47 ∷ rest)
  pub first : has_close (body ++ 42 ∷ []) ≡ false
  pub len : end ≡ length body + 4

-- where a comment ends: at the end of its line, or behind the first `*/`
pub data EndsComment (text : Text) (end : ℕ) : Type 0 where
  line : slice_index text 0 ≡ 37 → IsRun (λ b. not (b == 10)) text end → EndsComment text end
  block : IsFirstClose text end → EndsComment text end

-- why no token stands at the front of a text
pub data IsFault (text : Text) : Type 0 where
  character : is_layout (slice_index text 0) ≡ false → is_ascii_lowercase (slice_index text 0) ≡ false → (is_ascii_uppercase (slice_index text 0) || slice_index text 0 == 95) ≡ false → is_ascii_digit (slice_index text 0) ≡ false → is_symbol (slice_index text 0) ≡ false → solo (slice_index text 0) ≡ None → (slice_index text 0 == 39) ≡ false → (slice_index text 0 == 37) ≡ false → IsFault text
  large : (n : ℕ) → is_ascii_digit (slice_index text 0) ≡ true → IsRun is_ascii_digit (drop 1 text) (n - 1) → 2 ^ 63 < number (take n text) → IsFault text
  open_comment : slice_index text 0 ≡ 47 → slice_index text 1 ≡ 42 → ((end : ℕ) → IsFirstClose text end → ⊥) → IsFault text
  unclosed : slice_index text 0 ≡ 39 → ((n : ℕ) → IsQuoted text n → ⊥) → IsFault text

-- a bad token runs through the first full stop behind its first byte, or else to the end of the text
pub record IsTakenUp (text : Text) (ended : Bool) (n : ℕ) : Type 0 where
  pub first : (k : ℕ) → 0 < k → k + 1 < n → begins_stop (drop k text) ≡ false
  pub stop : ended ≡ true → begins_stop (drop (n - 1) text) ≡ true
  pub rest : ended ≡ false → (n ≡ length text) × ((k : ℕ) → 0 < k → begins_stop (drop k text) ≡ false)

abbrev pub IsRow : LexemeKind → Text → ℕ → Type 0
IsRow kind.Layout text n = (is_layout (slice_index text 0) ≡ true) × (n ≡ 1)
IsRow kind.Comment text n = (end : ℕ) × EndsComment text end × (n ≡ min end (utf8_valid_len text))
IsRow (kind.Token row) text n = IsToken row text n
IsRow (kind.Bad ended) text n = IsFault text × IsTakenUp text ended n
