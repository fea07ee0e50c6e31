use Rattle.std.proofs.Common.{◌≡◌, ◌++◌, drop, map}
use Rattle.clap.specs.Words.{found_of, rows_of}
use Rattle.ap_words.specs.Clap.{found_in}
use Rattle.ap_words.specs.Values.{value_of}
use Rattle.ap_words.proofs.command.push_found.Given as goal

abbrev pub invariant-loop-name : goal.invariant-loop-name
invariant-loop-name l =
    map value_of l.values.items ++ found_in (rows_of (found_of l.matches)) (map (λ n. n.now) (drop l.name-index l.names))
    ≡ map value_of l.fn.values.items ++ found_in (rows_of (found_of l.matches)) (map (λ n. n.now) l.names)
