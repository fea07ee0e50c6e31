use Rattle.std.proofs.Common.{List}
use Rattle.ap_lexer.specs.Token.{Placed}
use Rattle.ap_reader.specs.declared.pass.Step.{Step}
use Rattle.ap_reader.specs.Long.{IsReady, Runs}
use Rattle.ap_reader.proofs.long.Steps.next.Given as goal

abbrev pub invariant-loop-token : goal.invariant-loop-token
invariant-loop-token l = record {
  ready : IsReady l.self;
  runs : (ts : List Placed) (done : List Step) → Runs ts done l.fn.self → Runs ts done l.self;
}
