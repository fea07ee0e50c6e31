-- The invariant of `Classes`.
use Rattle.std.specs.Prelude.{◌≡◌, length}
use Rattle.ap_marks.specs.declared.classes.Classes.TheInside.{Inside}

abbrev pub IsLinked : Inside → Type 0
IsLinked a = length a.froms ≡ length a.tos.items
