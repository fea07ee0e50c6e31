-- How many arguments there are, one or two.
use Rattle.std.specs.Prelude.{Bool, true, false}
use Rattle.ap_term.specs.Tree.{Trees, none, more}

abbrev pub is_one : Trees → Bool
is_one none = false
is_one (more t none) = true
is_one (more t (more u ts)) = false

abbrev pub is_pair : Trees → Bool
is_pair none = false
is_pair (more t none) = false
is_pair (more t (more u none)) = true
is_pair (more t (more u (more v ts))) = false
