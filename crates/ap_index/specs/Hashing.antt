-- Where a row keeps what it has for a key.
use Rattle.std.specs.Prelude.{ℕ, ◌+◌, ◌*◌, ◌/◌, ◌%◌, ◌^◌}
use Rattle.std.specs.Int.{cast_unsigned, w64}
use Rattle.ap_index.specs.declared.key.Key.{Key}
use Rattle.ap_index.specs.declared.key.Key.TheVariants.{Atom, Integer, Structure}

-- a number for a key, another one for each key of its kind
abbrev pub number_of : Key → ℕ
number_of (Atom a) = a
number_of (Integer z) = cast_unsigned w64 z
number_of (Structure f n) = f * 256 + n

-- what is left behind the point where the number is multiplied by the golden ratio: so many of 2 to the power of 32
abbrev pub hash_of : Key → ℕ
hash_of key = number_of key * 11400714819323198485 % 2 ^ 64 / 2 ^ 32

-- the slot of a key, among so many: the part of them that its hash is of 2 to the power of 32
unfoldable pub slot_of : Key → ℕ → ℕ
slot_of key slots = hash_of key * slots / 2 ^ 32

-- the slot of two keys, among so many
unfoldable pub pair_slot : Key → Key → ℕ → ℕ
pair_slot one two slots = (hash_of one * 2246822507 % 2 ^ 32 + hash_of two) % 2 ^ 32 * slots / 2 ^ 32
