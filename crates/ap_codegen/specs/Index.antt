-- The clauses that stand in an index at a predicate's name and arity.
pub use Rattle.ap_term.specs.GoalView.{listed}
use Rattle.std.specs.Prelude.{◌≡◌, ℕ, false, List}
use Rattle.std.specs.List.{list_any}
use Rattle.std.specs.Borrow.{Bor}
use Rattle.std.proofs.Common.{Vec, Global}
use Rattle.indexmap.specs.IndexMap.{IndexMap, get}
use Rattle.ap_term.specs.Goals.{Clause, Program}
use Rattle.ap_instr.specs.Table.{is_key}
use Rattle.ap_codegen.specs.Assembled.{clauses_for}
use Rattle.ap_codegen.specs.Permanent.{is_builtin_key}

abbrev pub clauses_at : {S : Type 0} → IndexMap (ℕ × ℕ) (Vec (Bor Clause) Global) S → ℕ × ℕ → Program
clauses_at m k = listed (get is_key m k)

-- the index has the clauses of the program
abbrev pub Indexes : {S : Type 0} → IndexMap (ℕ × ℕ) (Vec (Bor Clause) Global) S → Program → Type 0
Indexes m p = (k : ℕ × ℕ) → clauses_at m k ≡ clauses_for k p

-- the index has the program's clauses for a predicate, unless that is one of built-in goals
abbrev pub HasClauses : {S : Type 0} → IndexMap (ℕ × ℕ) (Vec (Bor Clause) Global) S → ℕ × ℕ → Program → Type 0
HasClauses m k p = is_builtin_key k ≡ false → clauses_at m k ≡ clauses_for k p

-- it has those for all predicates but some
abbrev pub IndexesBeside : {S : Type 0} → List (ℕ × ℕ) → IndexMap (ℕ × ℕ) (Vec (Bor Clause) Global) S → Program → Type 0
IndexesBeside ks m p = (k : ℕ × ℕ) → list_any (is_key k) ks ≡ false → HasClauses m k p
