-- What stands in a variable's place where a tuple is fitted into a goal's arguments.
use Rattle.std.specs.Prelude.{ℕ, Bool, true, false, ◌==◌, if◌then◌else◌, Option, Some, None}
use Rattle.std.specs.Borrow.{Bor}
use Rattle.ap_term.specs.declared.terms.Term.{Term}
use Rattle.ap_term.specs.Tree.{Tree, Trees, var, int, atom, node, none, more}
use Rattle.ap_term.specs.TermView.{tree_of}

abbrev pub or_else : Option Tree → Option Tree → Option Tree
or_else None b = b
or_else (Some t) b = Some t

abbrev mutual
  -- the subtree of the second tree in the place of the first x of the first tree
  pub found : ℕ → Tree → Tree → Option Tree
  found x (var y) t = if y == x then Some t else None
  found x (node a ts) (node b us) = found_all x ts us
  found x _ _ = None

  pub found_all : ℕ → Trees → Trees → Option Tree
  found_all x (more p ps) (more t ts) = or_else (found x p t) (found_all x ps ts)
  found_all x _ _ = None

-- the tree of a term that is lent
abbrev pub lent : Option (Bor Term) → Option Tree
lent None = None
lent (Some t) = Some (tree_of t.now)
