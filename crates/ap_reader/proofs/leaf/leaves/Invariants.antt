use Rattle.std.proofs.Common.{◌≡◌, [], ◌++◌, map, length}
use Rattle.ap_lexer.specs.Token.{view}
use Rattle.ap_reader.specs.Written.{leaf_of, leaves, variables, AreText}
use Rattle.ap_reader.specs.Leaves.{AreOnce, Numbers, texts}
use Rattle.ap_reader.proofs.leaf.leaves.Given as goal

abbrev pub invariant-loop-left : goal.invariant-loop-left
invariant-loop-left l = record {
  leaves_are : map leaf_of l.out.items ++ leaves (texts l.variables.names.items) (map view l.left) ≡ leaves [] (map view l.tokens);
  variables_are : variables (texts l.variables.names.items) (map view l.left) ≡ variables [] (map view l.tokens);
  text : (AreText (map view l.left) → AreText (map view l.tokens)) × (AreText (map view l.tokens) → AreText (map view l.left));
  numbers : Numbers l.variables.numbers (texts l.variables.names.items);
  once : AreOnce l.variables.names.items;
}

abbrev pub decreases-loop-left : goal.decreases-loop-left
decreases-loop-left l = length l.left
