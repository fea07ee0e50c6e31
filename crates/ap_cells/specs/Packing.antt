-- What a word of 64 bits stands for, with another in which is what didn't fit.
use Rattle.std.specs.Prelude.{ℕ, List, [], ◌∷◌, pos, negsuc, ◌-ℤ◌, ◌+◌, ◌/◌, ◌%◌, ◌==◌, slice_index_or, if◌then◌else◌}
use Rattle.ap_cells.specs.declared.cells.Raw.{Raw}
use Rattle.ap_cells.specs.declared.cells.Raw.TheVariants.{Free, Same, Int, Atom, Node}

-- a kind, the bits above it, and the other word
abbrev pub of_kind : ℕ → ℕ → ℕ → Raw
of_kind kind rest apart =
    if kind == 1 then Same (rest % 4294967296)
    else if kind == 2 then Atom (rest % 4294967296)
    else if kind == 3 then Node (rest / 4294967296 / 256) (rest % 4294967296) (rest / 4294967296 % 256)
    else if kind == 4 then Int (pos rest -ℤ pos 1152921504606846976)
    else if kind == 5 then Int (pos (apart % 9223372036854775808))
    else if kind == 6 then Int (negsuc (apart % 9223372036854775808))
    else if kind == 7 then Node (apart / 4294967296) (rest % 4294967296) (apart % 4294967296)
    else Free

abbrev pub raw_in : ℕ → ℕ → Raw
raw_in word apart = of_kind (word % 8) (word / 8) apart

-- the cells of words; where the other list ends, nothing stands apart
abbrev pub raws_from : ℕ → List ℕ → List ℕ → List Raw
raws_from i [] vs = []
raws_from i (w ∷ ws) vs = raw_in w (slice_index_or vs i 0) ∷ raws_from (i + 1) ws vs

abbrev pub raws_in : List ℕ → List ℕ → List Raw
raws_in ws vs = raws_from 0 ws vs

-- cells, and for how many there is room
pub record Packed : Type 0 where
  pub items : List Raw
  pub room : ℕ
