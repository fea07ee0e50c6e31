-- Code of a program that is kept, so that clauses of queries are put behind it.
use Rattle.std.specs.Prelude.{◌≡◌, ℕ, Bool, true, false, not, List, [], length, take, slice_get, Option, Some, None}
use Rattle.std.specs.List.{filter, list_all, list_any}
use Rattle.ap_term.specs.Goals.{Program}
use Rattle.ap_instr.specs.Code.{Compiled}
use Rattle.ap_instr.specs.Table.{Key, is_key, goal_key}
use Rattle.ap_codegen.specs.declared.programs.Made.{Made}
use Rattle.ap_codegen.specs.Assembled.{Numbered, Keeps, IsMade, clauses_for}
use Rattle.ap_codegen.specs.Heads.{with_heads}
use Rattle.ap_codegen.specs.Permanent.{is_builtin_key}

-- All predicates of the table are made, and it has each that has a clause. The program's are listed.
pub record AreMade (t : Numbered) (m : Made) (listed : ℕ) (p : Program) : Type 0 where
  pub made : IsMade t m.instructions.items m.predicates.items p
  pub all : slice_get t.predicates (length m.predicates.items) ≡ None
  pub heads : Keeps (with_heads [] p) t.predicates
  pub others : (k : Key) → list_any (is_key k) t.predicates ≡ false → is_builtin_key k ≡ false → clauses_for k p ≡ []
  pub count : listed ≡ length (with_heads [] p)
  pub flags : filter (λ q. q.is_listed) m.predicates.items ≡ take listed m.predicates.items

-- the code of what is made, which is no query's
abbrev pub made_code : Numbered → Made → Compiled
made_code t m = record { instructions = m.instructions.items; integers = t.integers; predicates = m.predicates.items; query = None }

-- whether a table lacks the predicate of a head
abbrev pub is_new : List Key → Option Key → Bool
is_new ks None = true
is_new ks (Some k) = not (list_any (is_key k) ks)

-- whether it lacks those of all these clauses
abbrev pub are_new : List Key → Program → Bool
are_new ks cs = list_all (λ c. is_new ks (goal_key c.head)) cs
