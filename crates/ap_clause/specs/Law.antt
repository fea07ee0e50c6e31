-- What holds of every text: it has exactly one result.
use Rattle.std.specs.Prelude.{◌≡◌, ◌⊎◌, List}
use Rattle.ap_lexer.specs.Lexeme.{Text}
use Rattle.ap_lexer.specs.declared.cut.Piece.{Piece}
use Rattle.ap_term.specs.Goals.{Program, Query}
use Rattle.ap_clause.specs.declared.refusal.Refusal.{Refusal}
use Rattle.ap_clause.specs.Reads.{AcceptsProgram, RefusesProgram, AcceptsQuery, RefusesQuery}

-- it is accepted or refused; not both; there is one program and one table with its names; and one reason of a refusal
pub record HasOneResult (A : Type 0) (Accepts : A → List Text → Type 0) (Refuses : Refusal → Type 0) : Type 0 where
  pub some : ((a : A) × ((new : List Text) × Accepts a new)) ⊎ ((r : Refusal) × Refuses r)
  pub not_both : (a : A) (new : List Text) (r : Refusal) → Accepts a new → Refuses r → ⊥
  pub accepted : (a b : A) (new other : List Text) → Accepts a new → Accepts b other → (a ≡ b) × (new ≡ other)
  pub refused : (r q : Refusal) → Refuses r → Refuses q → r ≡ q

-- a text as a program, in a table of names
abbrev pub HasOneProgram : Text → List Text → Type 0
HasOneProgram text table = HasOneResult Program (AcceptsProgram text table) (RefusesProgram text table)

-- a piece of a text as a query beside a program whose names the table has
abbrev pub HasOneQuery : Text → Piece → Program → List Text → Type 0
HasOneQuery text piece program table = HasOneResult Query (AcceptsQuery text piece program table) (RefusesQuery text piece program table)
