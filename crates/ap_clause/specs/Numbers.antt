-- The limits of a clause, of its goals and of a program, written out.
use Rattle.std.specs.Prelude.{◌≡◌}
use Rattle.ap_clause.specs.declared.limit.TheConstants.{MAX_VARIABLES, MAX_ARITY, MAX_GOALS, MAX_GROUP, MAX_CLAUSES}

-- the code's constants are these
pub record LimitsLaw : Type 0 where
  -- how many variables a clause has at most, and how many arguments a compound term of it
  pub variables : MAX_VARIABLES ≡ 255
  pub arguments : MAX_ARITY ≡ 255
  -- how many goals a body has at most, and a group of it
  pub goals : MAX_GOALS ≡ 255
  pub group : MAX_GROUP ≡ 32
  -- how many clauses a program has at most, lifted ones with them
  pub clauses : MAX_CLAUSES ≡ 65535
