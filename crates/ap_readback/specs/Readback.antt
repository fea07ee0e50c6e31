-- The clause that a printed clause is read as, and which clauses are.
use Rattle.std.specs.Prelude.{◌≡◌, ℕ, ◌≤◌, ◌==◌, Bool, true, not, min, max, List, [], map}
use Rattle.std.specs.List.{AllByRecursion, AllZip, concat}
use Rattle.ap_lexer.specs.Lexeme.{Text}
use Rattle.ap_term.specs.declared.clauses.Check.{Check}
use Rattle.ap_term.specs.declared.clauses.Check.TheVariants.{Ground, Indep}
use Rattle.ap_term.specs.declared.fixed.TheConstants.{NECK}
use Rattle.ap_term.specs.Tree.{Tree, Trees, node, none, more, count_trees}
use Rattle.ap_term.specs.Vars.{has}
use Rattle.ap_term.specs.Substitution.{instance, instance_all}
use Rattle.ap_term.specs.UpToNames.{place}
use Rattle.ap_term.specs.Goals.{Part, call, group, Clause, Program}
use Rattle.ap_term.specs.WellFormed.{in_range, IsClause}
use Rattle.ap_writer.specs.Text.{numbered_by}
use Rattle.ap_writer.specs.Writable.{IsWritable}
use Rattle.ap_clause.specs.Form.{is_head_named}
use Rattle.ap_clause.specs.Clause.{connective_at}
use Rattle.ap_cge.specs.Printed.{add_pieces_vars, clause_pieces, lines_of}
use Rattle.ap_readback.specs.Printable.{has_functors}

-- the variables of a clause's line, by first occurrence
abbrev pub line_vars : List Text → Clause → List ℕ
line_vars names c = add_pieces_vars (clause_pieces names c) []

-- a check on the places of its variables, of a pair the smaller one first
abbrev pub read_check : List ℕ → Check → Check
read_check found (Ground x) = Ground (place found x)
read_check found (Indep x y) = Indep (min (place found x) (place found y)) (max (place found x) (place found y))

abbrev pub read_part : List ℕ → Part → Part
read_part found (call t) = call (instance (numbered_by found) t)
read_part found (group cs ts) = group (map (read_check found) cs) (instance_all (numbered_by found) ts)

-- the clause on a line, its variables numbered from 1 by first occurrence
abbrev pub read_clause : List Text → ℕ → Clause → Clause
read_clause names line c = record {
  head = instance (numbered_by (line_vars names c)) c.head;
  body = map (read_part (line_vars names c)) c.body;
  vars = c.vars;
  line = line;
}

-- no goal of a clause's own operators: a conjunction, a disjunction, a group, or a condition
abbrev pub is_single : Tree → Bool
is_single (node a (more t (more u none))) = is_head_named (connective_at a)
is_single t = true

-- no rule as a head
abbrev pub is_no_rule : Tree → Bool
is_no_rule (node a (more t (more u none))) = not (a == NECK)
is_no_rule t = true

module _ (names : List Text) where
  pub record IsGoal (t : Tree) : Type 0 where
    pub writable : IsWritable names t
    pub functors : has_functors names t ≡ true
    pub single : is_single t ≡ true

  abbrev pub AreGoals : Trees → Type 0
  AreGoals none = Unit {0}
  AreGoals (more t ts) = IsGoal t × AreGoals ts

  -- a group has two goals or more
  abbrev pub IsPart : Part → Type 0
  IsPart (call t) = IsGoal t
  IsPart (group cs ts) = (2 ≤ count_trees ts) × AreGoals ts

  -- A clause whose text tells it: each compound in it has arguments and a name that begins functional notation, each
  -- goal is one goal, the head is no rule, a group has two goals or more, and each variable from 1 to the clause's last
  -- one stands in it.
  pub record IsPrintable (c : Clause) : Type 0 where
    pub clause : IsClause c
    pub head : IsWritable names c.head
    pub head_functors : has_functors names c.head ≡ true
    pub no_rule : is_no_rule c.head ≡ true
    pub parts : AllByRecursion IsPart c.body
    pub all : (x : ℕ) → in_range c.vars x ≡ true → has (line_vars names c) x ≡ true

-- a program as it is printed: the lines of its clauses, one behind the other
abbrev pub program_text : List Text → Program → Text
program_text names p = concat (lines_of names p)

-- a clause is read as itself, on some line
abbrev pub IsReadBackAs : List Text → Clause → Clause → Type 0
IsReadBackAs names c d = (line : ℕ) × (d ≡ read_clause names line c)

-- clause by clause
abbrev pub IsReadBack : List Text → Program → Program → Type 0
IsReadBack names p read = AllZip (IsReadBackAs names) p read
