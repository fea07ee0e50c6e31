use Rattle.std.proofs.Common.{◌≡◌, List, []}
use Rattle.ap_lexer.specs.Token.{Placed}
use Rattle.ap_lexer.specs.Stream as stream
use Rattle.ap_reader.specs.declared.pass.Step.{Step}
use Rattle.ap_reader.specs.Grammar.{Tree}
use Rattle.ap_reader.specs.Written.{leaves}
use Rattle.ap_reader.specs.Depth.{height_of}
use Rattle.ap_reader.specs.Evaluated.{evaluated, stacked}
use Rattle.ap_reader.specs.Reading.{Spells}
use Rattle.ap_reader.specs.Long.{IsReady, Runs}
use Rattle.ap_reader.proofs.long.are_too_deep.Given as goal

abbrev pub invariant-loop-step : goal.invariant-loop-step
invariant-loop-step l = record {
  ready : IsReady l.steps;
  folds : (ts : List Placed) → stream.Gives l.fn.tokens ts → (done : List Step) × Runs ts done l.steps
      × ((front : List Placed) (t : Tree) → Spells ts front t → l.heights.stack.items ≡ stacked height_of (evaluated (leaves [] front) [] done));
}
