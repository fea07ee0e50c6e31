-- It tells no pieces, so any beginning will do: the empty one.
use Rattle.std.proofs.Common.{[], ◌∷◌, refl}
use Rattle.ap_outside.proofs.edges.StdSinkSink.put.Goals as goal

pub returns-in-Err-clause-pieces : goal.returns-in-Err-clause-pieces
returns-in-Err-clause-pieces g c = λ _. ([] ∷ [], tt, ([], refl, refl))
