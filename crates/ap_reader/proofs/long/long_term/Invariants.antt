use Rattle.std.proofs.Common.{◌≡◌, List, []}
use Rattle.ap_lexer.specs.Lexeme.{Text}
use Rattle.ap_lexer.specs.Token.{Placed}
use Rattle.ap_lexer.specs.Stream as stream
use Rattle.ap_term.specs.AtomTable.{insert_names}
use Rattle.ap_reader.specs.declared.pass.Step.{Step}
use Rattle.ap_reader.specs.Grammar.{Tree}
use Rattle.ap_reader.specs.Written.{leaves}
use Rattle.ap_reader.specs.Evaluated.{evaluated}
use Rattle.ap_reader.specs.Held.{Held}
use Rattle.ap_reader.specs.Build.{names, Extends}
use Rattle.ap_reader.specs.Reading.{Spells}
use Rattle.ap_reader.specs.Long.{IsReady, Runs}
use Rattle.ap_reader.proofs.long.long_term.Given as goal

abbrev pub invariant-loop-step : goal.invariant-loop-step
invariant-loop-step l = record {
  ready : IsReady l.steps;
  builds : (ts front : List Placed) (t : Tree) → stream.Gives l.fn.tokens ts → Spells ts front t → (done : List Step) × Runs ts done l.steps
      × ((more : List Text) → Held (insert_names l.atoms more) (evaluated (leaves [] front) [] done) l.room.stack)
      × (l.atoms ≡ insert_names l.fn.atoms (names (leaves [] front) done));
  grows : Extends l.fn.atoms l.atoms;
}
