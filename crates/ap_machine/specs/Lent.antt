-- What a tuple that is lent reads as.
use Rattle.ap_term.specs.Tree.{Trees}
use Rattle.ap_cells.specs.Trees.{tree_at, trees}
use Rattle.ap_term.specs.Tuples.{tuple_under}
use Rattle.ap_machine.specs.declared.tuple.Tuple.{Tuple}

-- the terms of its places
abbrev pub terms_of : Tuple → Trees
terms_of t = tuple_under (tree_at (trees t.cells.now.cells)) t.roots.now
