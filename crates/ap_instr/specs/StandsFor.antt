-- Which code stands for a program and a query.
use Rattle.std.specs.Prelude.{◌≡◌, ℕ, ◌+◌, Bool, false, ◌&&◌, ◌==◌, ◌⊎◌, List, [], ◌∷◌, drop, slice_get, Option, Some, None}
use Rattle.std.specs.List.{AllZip, filter}
use Rattle.ap_term.specs.declared.fixed.TheConstants.{QUERY}
use Rattle.ap_term.specs.Tree.{Tree, Trees, atom, node, count_trees}
use Rattle.ap_term.specs.Builtins.{builtin}
use Rattle.ap_term.specs.Goals.{Clause, Program, Query, joined}
use Rattle.ap_term.specs.Search.{variables}
use Rattle.ap_instr.specs.declared.instruction.Instr.{Instr}
use Rattle.ap_instr.specs.declared.instruction.Instr.TheVariants.{Fail, Try, Retry, Trust, Call, Execute, Proceed, Builtin as BuiltinGoal}
use Rattle.ap_instr.specs.declared.compiled.Predicate.{Predicate}
use Rattle.ap_instr.specs.declared.builtins.Builtin.{Builtin}
use Rattle.ap_instr.specs.Builtin.{builtin_name, builtin_arity}
use Rattle.ap_instr.specs.Code.{Compiled}
use Rattle.ap_instr.specs.Steps.{steps_from}
use Rattle.ap_instr.specs.Groups.{HasSequences}
use Rattle.ap_instr.specs.Table.{IsWhole}
use Rattle.ap_instr.specs.Runs.{applied, Reads, AsksOpenly}

-- the places that stand behind a `try`, to the `trust`
abbrev pub tried : List Instr → List ℕ
tried (Retry l ∷ is) = l ∷ tried is
tried (Trust l ∷ is) = l ∷ []
tried _ = []

-- where the clauses of a predicate begin whose instructions, from a place on, are these
abbrev pub alternatives : ℕ → List Instr → List ℕ
alternatives at (Try l ∷ is) = l ∷ tried is
alternatives at (Fail ∷ is) = []
alternatives at is = at ∷ []

abbrev pub clause_places : Compiled → Predicate → List ℕ
clause_places code q = alternatives q.start (drop q.start code.instructions)

-- the code at a place asks for just what the clause asks for, and tests nothing behind a goal
pub record ReadsAt (code : Compiled) (at : ℕ) (c : Clause) : Type 0 where
  pub reads : Reads (steps_from code at) c
  pub openly : AsksOpenly (steps_from code at)

-- whether a head is one of the predicate
abbrev pub is_head_of : Predicate → Tree → Bool
is_head_of q (atom a) = (a == q.name) && (q.arity == 0)
is_head_of q (node a ts) = (a == q.name) && (count_trees ts == q.arity)
is_head_of q _ = false

abbrev pub clauses_of : Predicate → Program → Program
clauses_of q p = filter (λ c. is_head_of q c.head) p

-- A predicate that clauses answer: its places read, one for one and in order, as the program's clauses for it, and it isn't
-- that of built-in goals.
pub record IsOfClauses (code : Compiled) (p : Program) (q : Predicate) : Type 0 where
  pub reads : AllZip (ReadsAt code) (clause_places code q) (clauses_of q p)
  pub apart : (ts : Trees) → count_trees ts ≡ q.arity → builtin (applied q.name ts) ≡ None

-- a built-in goal of a group: its code is the goal alone
pub record IsOfBuiltin (code : Compiled) (q : Predicate) : Type 0 where
  pub goal : Builtin
  pub name : builtin_name goal ≡ q.name
  pub arity : builtin_arity goal ≡ q.arity
  pub first : slice_get code.instructions q.start ≡ Some (BuiltinGoal goal)
  pub last : slice_get code.instructions (q.start + 1) ≡ Some Proceed

-- the predicate that a clause calls
abbrev pub called_by : Instr → Option ℕ
called_by (Call n) = Some n
called_by (Execute n) = Some n
called_by _ = None

-- Each predicate's code reads as the program's clauses for it, or is a built-in goal's that stands in a group; only the
-- former are called; and where a group's checks don't hold its goals are called one after another.
pub record StandsFor (code : Compiled) (p : Program) : Type 0 where
  pub predicates : (n : ℕ) (q : Predicate) → slice_get code.predicates n ≡ Some q → IsOfClauses code p q ⊎ IsOfBuiltin code q
  pub calls : (at n : ℕ) (i : Instr) (q : Predicate) → slice_get code.instructions at ≡ Some i → called_by i ≡ Some n → slice_get code.predicates n ≡ Some q → IsOfClauses code p q
  pub sequences : HasSequences code

-- the query as a clause whose head has the query's variables, so that calling it on new variables is asking the query
abbrev pub asked : Query → Clause
asked q = record { head = applied QUERY (variables q.question.vars); body = q.question.body; vars = q.question.vars; line = q.question.line }

-- the query in that form
abbrev pub asked_query : Query → Query
asked_query q = record { question = asked q; lifted = q.lifted; names = q.names }

-- Code for a program beside a query, the predicate of which is in the table. It is listed as the program's.
pub record StandsForQuery (code : Compiled) (p : Program) (q : Query) : Type 0 where
  pub number : ℕ
  pub predicate : Predicate
  pub is_query : code.query ≡ Some number
  pub held : slice_get code.predicates number ≡ Some predicate
  pub named : predicate.name ≡ QUERY
  pub arity : predicate.arity ≡ q.question.vars
  pub stands : StandsFor code (joined p (asked_query q))
  pub whole : IsWhole code p (joined p (asked_query q))
