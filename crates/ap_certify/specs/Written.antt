-- Whether a check is written.
use Rattle.std.specs.Prelude.{Bool, false, ◌||◌, ◌&&◌, nat_eq, List}
use Rattle.std.specs.List.{list_any}
use Rattle.ap_term.specs.declared.clauses.Check.{Check}
use Rattle.ap_term.specs.declared.clauses.Check.TheVariants.{Ground, Indep}

-- whether two checks ask for the same: independence doesn't tell its sides apart
abbrev pub same_check : Check → Check → Bool
same_check (Ground x) (Ground y) = nat_eq x y
same_check (Ground x) (Indep y z) = false
same_check (Indep x y) (Ground z) = false
same_check (Indep x y) (Indep z w) = (nat_eq x z && nat_eq y w) || (nat_eq x w && nat_eq y z)

abbrev pub is_written : Check → List Check → Bool
is_written c cs = list_any (same_check c) cs
