-- A program and a query whose groups are their goals one after another.
use Rattle.ap_term.specs.Goals.{Program, Query}
use Rattle.ap_term.specs.WellFormed.{IsProgram, IsQuery}
use Rattle.ap_codegen.specs.Sequential.{sequential_program, sequential_query}
use Rattle.ap_open.specs.Reading.{AreRead, IsSafeQuery}

pub record InTurnLaw : Type 0 where
  pub programs : (a : Program) → IsProgram a → IsProgram (sequential_program a)
  pub queries : (q : Query) → IsQuery q → IsQuery (sequential_query q)
  pub reads : (program a : Program) (query q : Query) → AreRead program query a q → AreRead program query (sequential_program a) (sequential_query q)
  -- without groups any query is safe
  pub safe : (a : Program) (q : Query) → IsSafeQuery (sequential_program a) (sequential_query q)
