-- What finding a fresh name answers.
use Rattle.std.specs.Prelude.{◌≡◌, ℕ, ◌-◌, ◌^◌, ◌<◌, true, false, List, [], ◌∷◌, ◌++◌, length, Option, Some, None, Result, Ok, Err}
use Rattle.std.specs.declared.alloc.Global.{Global}
use Rattle.std.specs.declared.vec.Vec.{Vec}
use Rattle.ap_lexer.specs.Lexeme.{Text}
use Rattle.ap_term.specs.AtomTable.{is_held}
use Rattle.ap_term.specs.declared.memory.NoMemory.{NoMemory}
use Rattle.ap_reader.specs.Build.{Extends}
use Rattle.ap_clause.specs.Fresh.{IsNext, AreNext, lift_name, with_lifted, atoms_from}

-- the atom of a name that goes behind the others, and none where the table held it
abbrev pub Inserted : Text → List Text → List Text → Result (Option ℕ) NoMemory → Type 0
Inserted name old new (Ok None) = (is_held old name ≡ true) × (new ≡ old)
Inserted name old new (Ok (Some a)) = (is_held old name ≡ false) × (a ≡ length old) × (new ≡ old ++ name ∷ [])
Inserted name old new (Err e) = Extends old new

-- the next number whose name was new, and its atom
abbrev pub Found : ℕ → List Text → List Text → Result (ℕ × ℕ) NoMemory → Type 0
Found from old new (Ok p) = IsNext old from p.0 × (p.0 < 2 ^ 64 - 1) × (p.1 ≡ length old) × (new ≡ old ++ lift_name p.0 ∷ [])
Found from old new (Err e) = Extends old new

-- the atoms of so many lifted predicates, in the order of their numbers
abbrev pub Named : ℕ → List Text → List Text → Result (Vec ℕ Global) NoMemory → Type 0
Named count old new (Ok v) = (ks : List ℕ) × AreNext old 1 ks × (length ks ≡ count) × (new ≡ with_lifted old ks) × (v.items ≡ atoms_from (length old) ks)
Named count old new (Err e) = Extends old new
