-- The variables of a tree as a set.
use Rattle.std.specs.Prelude.{ℕ}
use Rattle.ap_term.specs.Tree.{Tree, Trees, var, int, atom, node, none, more}
use Rattle.ap_sharing.specs.VarSet.{empty, just, union}

abbrev mutual
  pub var_set : Tree → ℕ
  var_set (var x) = just x
  var_set (int z) = empty
  var_set (atom a) = empty
  var_set (node a ts) = var_set_all ts

  pub var_set_all : Trees → ℕ
  var_set_all none = empty
  var_set_all (more t ts) = union (var_set t) (var_set_all ts)
