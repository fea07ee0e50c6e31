-- Clauses whose groups are their goals one after another.
use Rattle.std.specs.Prelude.{map}
use Rattle.ap_term.specs.Goals.{Clause, Program, Query, calls, plain_goals}

abbrev pub sequential : Clause → Clause
sequential c = record { head = c.head; body = calls (plain_goals c.body); vars = c.vars; line = c.line }

abbrev pub sequential_program : Program → Program
sequential_program p = map sequential p

abbrev pub sequential_query : Query → Query
sequential_query q = record { question = sequential q.question; lifted = sequential_program q.lifted; names = q.names }
