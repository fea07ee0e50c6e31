-- Words that stand for files, values and numbers.
use Rattle.std.specs.Prelude.{ℕ, Bool, ◌&&◌, ◌||◌, not, nat_le, ◌==◌, List, length, slice_index, Option, None, Some, if◌then◌else◌}
use Rattle.std.specs.Char.{is_ascii_digit}
use Rattle.std.specs.List.{list_all}
use Rattle.std.specs.Str.Parse.{digits_value}

-- a word that stands for a file or a value without further ado: not empty, and not as an option is written
abbrev pub is_plain : List ℕ → Bool
is_plain word = not (length word == 0) && not (slice_index word 0 == 45)

-- decimal digits without a needless zero before them
abbrev pub is_numeral : List ℕ → Bool
is_numeral word = not (length word == 0) && (list_all is_ascii_digit word && (length word == 1 || not (slice_index word 0 == 48)))

-- a number in a range
abbrev pub number : ℕ → ℕ → List ℕ → Option ℕ
number least greatest word =
    let n = digits_value 10 word in
    if is_numeral word && (nat_le least n && nat_le n greatest) then Some n else None
