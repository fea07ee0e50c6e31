use Rattle.std.proofs.Common.{◌≡◌, ◌+◌, [], map, length}
use Rattle.ap_lexer.specs.Token.{view}
use Rattle.ap_reader.specs.Machine.{State, Wants, over}
use Rattle.ap_reader.specs.Word.{words, words_from}
use Rattle.ap_reader.specs.Step.{Shows}
use Rattle.ap_reader.proofs.pass.steps.Given as goal

abbrev pub invariant-loop-rest : goal.invariant-loop-rest
invariant-loop-rest l =
    (x : State) × Shows x l.mode l.pass.stack.items l.pass.out.items × (over (Wants []) (words (map view l.tokens)) ≡ over x (words_from l.before l.at (map view l.rest)))
    × (l.at + length l.rest ≡ length l.tokens)

abbrev pub decreases-loop-rest : goal.decreases-loop-rest
decreases-loop-rest l = length l.rest
