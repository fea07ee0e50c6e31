-- What files hold, where they tell it: `None` claims nothing.
use Rattle.std.specs.Prelude.{◌≡◌, ℕ, List, [], ◌∷◌, Option, None, Some, ⊤, bytes_eq, if◌then◌else◌}

-- what a finite map of names to bytes, as the list of its entries, has at a name
abbrev pub content_of : List (List ℕ × List ℕ) → List ℕ → Option (List ℕ)
content_of [] name = None
content_of (entry ∷ entries) name = if bytes_eq entry.0 name then Some entry.1 else content_of entries name

-- the map told has bytes with P at the name
abbrev pub HasContent : Option (List (List ℕ × List ℕ)) → List ℕ → (List ℕ → Type 0) → Type 0
HasContent None name P = ⊤
HasContent (Some entries) name P = (bytes : List ℕ) × (content_of entries name ≡ Some bytes) × P bytes
