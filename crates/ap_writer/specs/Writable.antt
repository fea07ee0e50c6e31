-- What is printed so that the text tells it from all else.
use Rattle.std.specs.Prelude.{◌≡◌, ℕ, ◌<◌, ◌^◌, true, List, [], length}
use Rattle.ap_term.specs.Tree.{Tree, Trees, var, int, atom, node, none, more, count_trees}
use Rattle.ap_term.specs.Arithmetic.{fits}
use Rattle.ap_term.specs.Vars.{add_all_vars}
use Rattle.ap_writer.specs.Line.{printed}

abbrev mutual
  -- atoms that the table holds, integers of 64 bits, and no variable's number above those of the machine
  pub IsWritable : List (List ℕ) → Tree → Type 0
  IsWritable names (var x) = x < 2 ^ 64
  IsWritable names (int z) = fits z ≡ true
  IsWritable names (atom a) = a < length names
  IsWritable names (node a ts) = (a < length names) × AreWritable names ts

  pub AreWritable : List (List ℕ) → Trees → Type 0
  AreWritable names none = Unit {0}
  AreWritable names (more t ts) = IsWritable names t × AreWritable names ts

-- a tuple with a term for each name, of whose printed terms the same holds, and whose variables are few enough to be numbered
pub record IsWritableTuple (atoms names : List (List ℕ)) (ts : Trees) : Type 0 where
  pub as_long : count_trees ts ≡ length names
  pub writable : AreWritable atoms (printed names ts)
  pub few : length (add_all_vars (printed names ts) []) < 2 ^ 63
