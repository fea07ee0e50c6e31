use Rattle.std.proofs.Common.{◌≡◌, List, [], ◌∷◌, map, drop}
use Rattle.ap_term.specs.AtomTable.{insert_names}
use Rattle.ap_reader.specs.Grammar.{Tree}
use Rattle.ap_reader.specs.Step.{postfix}
use Rattle.ap_reader.specs.Written.{leaf_of, meaning}
use Rattle.ap_reader.specs.Evaluated.{Value, ATerm, evaluated}
use Rattle.ap_reader.specs.Held.{Held, AllFit}
use Rattle.ap_reader.specs.Build.{names, Extends}
use Rattle.ap_reader.proofs.build.build.Given as goal

abbrev pub invariant-loop-step : goal.invariant-loop-step
invariant-loop-step l = record {
  values :
      (t : Tree) → l.steps ≡ postfix t
      → (vs : List Value) × Held (insert_names l.atoms (names (map leaf_of l.leaves) (drop l.step-index l.steps))) vs l.stack
      × AllFit (map leaf_of l.leaves) vs (drop l.step-index l.steps)
      × (evaluated (map leaf_of l.leaves) vs (drop l.step-index l.steps) ≡ ATerm (meaning (map leaf_of l.leaves) t) ∷ []);
  table : insert_names l.atoms (names (map leaf_of l.leaves) (drop l.step-index l.steps)) ≡ insert_names l.fn.atoms (names (map leaf_of l.leaves) l.steps);
  grows : Extends l.fn.atoms l.atoms;
}
