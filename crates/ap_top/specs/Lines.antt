-- The lines of answers that are the same up to names.
use Rattle.std.specs.Prelude.{◌≡◌, ℕ, ◌++◌, List, [], ◌∷◌}
use Rattle.std.proofs.Common.{ap}
use Rattle.ap_term.specs.Tree.{Trees}
use Rattle.ap_term.specs.Goals.{Query}
use Rattle.ap_term.specs.UpToNames.{SameUpToNames}
use Rattle.ap_writer.proofs.Renamed.{line-renamed}
use Rattle.ap_top.specs.Output.{line_of}

pub line_same : (table : List (List ℕ)) (query : Query) (t u : Trees) → SameUpToNames t u → line_of table query t ≡ line_of table query u
line_same table query t u h = ap (λ ls. ls ++ 10 ∷ []) (line-renamed table query.names t u h)
