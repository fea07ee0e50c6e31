-- A list of predicates, as a test of which goals may meet a fault.
use Rattle.std.specs.Prelude.{Bool, ◌||◌, not, List}
use Rattle.ap_term.specs.Tree.{Tree}
use Rattle.ap_term.specs.Loud.{Predicate, calls_one}
use Rattle.ap_term.specs.WellFormed.{callable}

-- a goal of one of the predicates, an arithmetic one, or what is no goal that can be called
abbrev pub told : List Predicate → Tree → Bool
told qs g = not (callable g) || calls_one qs g
