-- What the code finds of the tokens as operands and functors.
use Rattle.std.specs.Prelude.{◌≡◌, ℕ, ◌+◌, false, List, [], map, Some, slice_get, Result, Ok, Err, codes, bytes_eq, drop, string_bytes}
use Rattle.std.specs.Str.{IsUtf8}
use Rattle.std.specs.declared.string.String.{String}
use Rattle.std.specs.declared.alloc.Global.{Global}
use Rattle.std.specs.declared.vec.Vec.{Vec}
use Rattle.std.specs.Borrow.{Bor}
use Rattle.std.specs.HashMap.{HashMap, get_by}
use Rattle.ap_lexer.specs.Lexeme.{Text}
use Rattle.ap_lexer.specs.Token.{Placed}
use Rattle.ap_reader.specs.declared.leaf.Leaf.{Leaf}
use Rattle.ap_reader.specs.declared.leaf.TheConstants.{NEAR}
use Rattle.ap_reader.specs.declared.leaf.Quote.TheVariants as quote
use Rattle.ap_reader.specs.declared.leaf.LeafErr.{LeafErr}
use Rattle.ap_reader.specs.declared.leaf.LeafErr.TheVariants as err
use Rattle.ap_reader.specs.Written.{IsTextBy, AreText, place_in, seen_by, leaf_by, leaf_of, unquoted, leaves, variables}

-- texts of which the code has slices
abbrev pub texts : List (Bor (List ℕ)) → List Text
texts = map (λ s. s.now)

-- the map has the numbers of the variables behind the first NEAR so far, but for `_`
abbrev pub Numbers : {S : Type 0} → HashMap (Bor (List ℕ)) ℕ S → List Text → Type 0
Numbers m seen = (q : Text) → bytes_eq q (codes "_") ≡ false → get_by (λ k. bytes_eq q k.now) m ≡ place_in (NEAR + 1) (drop NEAR seen) q

-- each name but `_` is found where it stands
abbrev pub AreOnce : List (Bor (List ℕ)) → Type 0
AreOnce names = (at : ℕ) (s : Bor (List ℕ)) → slice_get names at ≡ Some s → bytes_eq s.now (codes "_") ≡ false → place_in 1 (texts names) s.now ≡ Some (at + 1)

-- the name that a quoted token's bytes are
abbrev pub NameFor : Text → Result (String Global) LeafErr → Type 0
NameFor text (Ok s) = (string_bytes s ≡ unquoted quote.Plain (drop 1 text)) × IsUtf8 (unquoted quote.Plain (drop 1 text))
NameFor text (Err err.NotText) = IsUtf8 (unquoted quote.Plain (drop 1 text)) → ⊥
NameFor text (Err err.NoMemory) = Unit {0}

-- a token's leaf, and the variables behind it
abbrev pub LeafFor : Placed → List Text → List Text → Result Leaf LeafErr → Type 0
LeafFor t seen after (Ok l) = (leaf_of l ≡ leaf_by t.kind seen t.text) × (after ≡ seen_by t.kind seen t.text) × IsTextBy t.kind t.text
LeafFor t seen after (Err err.NotText) = IsTextBy t.kind t.text → ⊥
LeafFor t seen after (Err err.NoMemory) = Unit {0}

abbrev pub LeavesFor : List Placed → Result (List Leaf × List Text) LeafErr → Type 0
LeavesFor ts (Ok p) = (map leaf_of p.0 ≡ leaves [] ts) × (p.1 ≡ variables [] ts) × AreText ts
LeavesFor ts (Err err.NotText) = AreText ts → ⊥
LeavesFor ts (Err err.NoMemory) = Unit {0}

abbrev pub both_items : Result (Vec Leaf Global × Vec (Bor (List ℕ)) Global) LeafErr → Result (List Leaf × List Text) LeafErr
both_items (Ok p) = Ok (p.0.items, texts p.1.items)
both_items (Err e) = Err e
