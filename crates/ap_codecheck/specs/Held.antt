-- The shape that the check keeps.
use Rattle.std.specs.Prelude.{◌≡◌}
use Rattle.ap_codecheck.specs.declared.shape.Shape.{Shape as Kept}
use Rattle.ap_codecheck.specs.Shape.{Shape}
use Rattle.ap_codecheck.specs.Marks.{marked}

abbrev pub shape_of : Kept → Shape
shape_of k = record { x = marked k.x.items; y = marked k.y.items; room = k.room; pending = k.pending; target = k.target; group = k.group }

-- two that are kept alike, mark by mark
pub record AreAlike (a b : Kept) : Type 0 where
  pub x : a.x.items ≡ b.x.items
  pub y : a.y.items ≡ b.y.items
  pub room : a.room ≡ b.room
  pub pending : a.pending ≡ b.pending
  pub target : a.target ≡ b.target
  pub group : a.group ≡ b.group
