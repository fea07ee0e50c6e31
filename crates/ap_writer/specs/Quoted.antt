-- How a name is written: bare, or between quotes.
use Rattle.std.specs.Prelude.{ℕ, Bool, false, not, ◌&&◌, ◌||◌, if◌then◌else◌, ◌==◌, List, [], ◌∷◌, ◌++◌, codes, flat_map}
use Rattle.std.specs.Char.{is_ascii_lowercase, is_ascii_alphanumeric}
use Rattle.std.specs.List.{list_all}
use Rattle.std.specs.Str.{bytes_eq}

-- a letter, a digit or `_`
abbrev pub is_word : ℕ → Bool
is_word b = is_ascii_alphanumeric b || b == 95

-- + - * / \ ^ < > = ~ : . ? @ # & $
abbrev pub is_symbol : ℕ → Bool
is_symbol b = b == 43 || b == 45 || b == 42 || b == 47 || b == 92 || b == 94 || b == 60 || b == 62 || b == 61 || b == 126 || b == 58 || b == 46 || b == 63 || b == 64 || b == 35 || b == 38 || b == 36

-- a small letter, and then letters, digits and `_`
abbrev pub is_name : List ℕ → Bool
is_name [] = false
is_name (b ∷ bs) = is_ascii_lowercase b && list_all is_word bs

abbrev pub begins_comment : List ℕ → Bool
begins_comment (b ∷ c ∷ bs) = b == 47 && c == 42
begins_comment _ = false

-- a run of symbol characters that is neither a full stop alone nor the beginning of a comment
abbrev pub is_symbols : List ℕ → Bool
is_symbols [] = false
is_symbols (b ∷ bs) = list_all is_symbol (b ∷ bs) && not (bytes_eq (b ∷ bs) (codes ".")) && not (begins_comment (b ∷ bs))

abbrev pub is_bare : List ℕ → Bool
is_bare name = is_name name || is_symbols name || bytes_eq name (codes "[]") || bytes_eq name (codes ";") || bytes_eq name (codes "!")

-- a character between quotes: a quote, a backslash, a line feed and a tab behind a backslash
abbrev pub escaped : ℕ → List ℕ
escaped b = if b == 39 then codes "\\'" else (if b == 92 then codes "\\\\" else (if b == 10 then codes "\\n" else (if b == 9 then codes "\\t" else b ∷ [])))

abbrev pub name_text : List ℕ → List ℕ
name_text name = if is_bare name then name else 39 ∷ (flat_map escaped name ++ 39 ∷ [])
