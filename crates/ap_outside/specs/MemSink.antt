-- What the sinks in memory hold.
use Rattle.std.specs.Prelude.{ℕ, List, Vec, map}
use Rattle.std.specs.declared.alloc.Global.{Global}

abbrev pub pieces_of : List (Vec ℕ Global) → List (List ℕ)
pieces_of pieces = map (λ v. v.items) pieces
