-- What a text is read as: its clauses, or the first refusal.
use Rattle.std.specs.Prelude.{◌≡◌, ℕ, ◌+◌, Bool, true, false, not, nat_lt, List, [], ◌∷◌, ◌++◌, length, Option, Some, None}
use Rattle.ap_lexer.specs.Lexeme.{Text}
use Rattle.ap_lexer.specs.declared.cut.Piece.{Piece}
use Rattle.ap_lexer.specs.Piece.{pieces}
use Rattle.ap_lexer.specs.Token.{Placed, tokens}
use Rattle.ap_term.specs.AtomTable.{insert_names, capacity}
use Rattle.ap_term.specs.Tree as term
use Rattle.ap_term.specs.Goals.{Program, Query}
use Rattle.ap_reader.specs.declared.written.TheConstants.{MAX_OPEN}
use Rattle.ap_reader.specs.declared.depth.TheConstants.{MAX_DEPTH}
use Rattle.ap_reader.specs.Bracket.{most_open}
use Rattle.ap_reader.specs.Grammar.{Tree}
use Rattle.ap_reader.specs.Step.{postfix}
use Rattle.ap_reader.specs.Written.{Written, leaves, variables}
use Rattle.ap_reader.specs.Depth.{depth}
use Rattle.ap_reader.specs.Build.{names, term_in}
use Rattle.ap_reader.specs.Reading.{first_line, Spells, term_of}
use Rattle.ap_lifting.specs.Rule.{Rule}
use Rattle.ap_lifting.specs.Lifted.{Lifted, clause_of, lifted_rule, lifted_program}
use Rattle.ap_lifting.specs.Sizes.{predicates_if}
use Rattle.ap_clause.specs.Form.{is_clause, is_query}
use Rattle.ap_clause.specs.Clause.{halves, rule_of}
use Rattle.ap_clause.specs.Outside.{first_outside}
use Rattle.ap_clause.specs.Limit.{passed, clauses_after}
use Rattle.ap_clause.specs.Fresh.{AreNext, with_lifted, names_by}
use Rattle.ap_clause.specs.declared.refusal.What.{What}
use Rattle.ap_clause.specs.declared.refusal.Refusal.{Refusal}
use Rattle.ap_clause.specs.declared.refusal.Refusal.TheVariants as refusal
use Rattle.ap_clause.specs.declared.judge.Counts.{Counts}
use Rattle.ap_clause.specs.declared.source.Source.{Source}
use Rattle.ap_clause.specs.declared.source.Source.TheVariants as source

-- what is known before a piece: the names so far, and how many predicates were lifted and clauses made
pub record Position : Type 0 where
  pub table : List Text
  pub counts : Counts

-- a clause that was read, the names of its variables, and what is known behind it
pub record Taken : Type 0 where
  pub rule : Rule
  pub names : List Text
  pub after : Position

pub data Verdict : Type 0 where
  Refused : Refusal → Verdict
  Took : Taken → Verdict

-- the tokens before the end token, and the tree that they spell
pub record Sentence : Type 0 where
  pub front : List Placed
  pub tree : Tree

-- the tokens of a piece are the sentence, or none
abbrev pub IsSentence : List Placed → Option Sentence → Type 0
IsSentence ts (Some s) = Spells ts s.front s.tree
IsSentence ts None = (front : List Placed) (t : Tree) → Spells ts front t → ⊥

abbrev pub fits : Source → Written → Bool
fits source.Program x = is_clause x
fits source.Query x = is_query x

-- the names up to a sentence's, each behind those of its arguments
abbrev pub table_after : Position → Sentence → List Text
table_after p s = insert_names p.table (names (leaves [] s.front) (postfix s.tree))

abbrev pub refused_if : Bool → Refusal → Verdict → Verdict
refused_if true r v = Refused r
refused_if false r v = v

abbrev pub refused_outside : Option ℕ → ℕ → Verdict → Verdict
refused_outside None line v = v
refused_outside (Some name) line v = Refused (refusal.Outside line name)

abbrev pub refused_past : Option What → ℕ → Verdict → Verdict
refused_past None line v = v
refused_past (Some what) line v = Refused (refusal.TooLarge line what)

-- A clause by its term, in a table that has its names: too many names, those of the lifted predicates with them; a name
-- from outside; too large.
abbrev pub judged_term : Source → Counts → List Text → List Text → ℕ → term.Tree → Verdict
judged_term source before table vs line t =
    let h = halves source t in
    let r = rule_of h (length vs) line in
    let lifted = before.lifted + predicates_if r.body in
    refused_if (nat_lt capacity (length table + lifted)) (refusal.TooManyAtoms line)
    (refused_outside (first_outside source h) line
    (refused_past (passed source t r before.clauses) line
    (Took (record { rule = r; names = vs; after = record { table = table; counts = record { lifted = lifted; clauses = clauses_after source r before.clauses } } }))))

-- A sentence: no clause by its form; too deep; and then by its term.
abbrev pub judged_sentence : Source → Position → ℕ → Sentence → Verdict
judged_sentence source p line s =
    let x = term_of s.front s.tree in
    refused_if (not (fits source x)) (refusal.NotAClause line)
    (refused_if (nat_lt MAX_DEPTH (depth x)) (refusal.TooDeep line)
    (judged_term source p.counts (table_after p s) (variables [] s.front) line (term_in (table_after p s) x)))

abbrev pub judged : Source → Position → ℕ → Option Sentence → Verdict
judged source p line None = Refused (refusal.NotAClause line)
judged source p line (Some s) = judged_sentence source p line s

-- tokens of a piece without a bad one
abbrev pub JudgesOpen : Bool → Source → Position → List Placed → Verdict → Type 0
JudgesOpen true source p ts v = v ≡ Refused (refusal.TooDeep (first_line ts))
JudgesOpen false source p ts v = (s : Option Sentence) × IsSentence ts s × (v ≡ judged source p (first_line ts) s)

abbrev pub JudgesBy : Option ℕ → Source → Position → List Placed → Verdict → Type 0
JudgesBy (Some line) source p ts v = v ≡ Refused (refusal.BadToken line)
JudgesBy None source p ts v = JudgesOpen (nat_lt MAX_OPEN (most_open 0 ts)) source p ts v

-- the verdict on a piece of a text
abbrev pub Judges : Source → Text → Position → Piece → Verdict → Type 0
Judges source text p piece v = JudgesBy piece.bad source p (tokens text piece) v

pub data Outcome : Type 0 where
  Stopped : Refusal → Outcome
  Whole : List Rule → Position → Outcome

-- the pieces in their order, behind clauses that were read
abbrev pub Goes : (Position → List Rule → Outcome → Type 0) → List Rule → Verdict → Outcome → Type 0
Goes on rules (Refused r) out = out ≡ Stopped r
Goes on rules (Took t) out = on t.after (rules ++ t.rule ∷ []) out

abbrev pub Reads : Text → List Piece → Position → List Rule → Outcome → Type 0
Reads text [] p rules out = out ≡ Whole rules p
Reads text (piece ∷ pieces) p rules out = (v : Verdict) × Judges source.Program text p piece v × Goes (Reads text pieces) rules v out

-- before a program's first piece, and before a query beside a program
abbrev pub start : List Text → Position
start table = record { table = table; counts = record { lifted = 0; clauses = 0 } }

abbrev pub beside : Program → List Text → Position
beside program table = record { table = table; counts = record { lifted = 0; clauses = length program } }

-- The lifted program of a text, and the names behind those of a table: those of the text, then those of the lifted
-- predicates.
-- a program of clauses that were read up to a position, with predicates lifted from them whose names are the next ones
abbrev pub LiftsAll : Position → List Rule → Program → List Text → Type 0
LiftsAll p rules program new =
    (ks : List ℕ) × AreNext p.table 1 ks × (length ks ≡ p.counts.lifted) × (program ≡ lifted_program (names_by p.table ks) rules) × (new ≡ with_lifted p.table ks)

abbrev pub AcceptsProgram : Text → List Text → Program → List Text → Type 0
AcceptsProgram text table program new =
    (rules : List Rule) × (p : Position) × (ks : List ℕ)
    × Reads text (pieces text) (start table) [] (Whole rules p)
    × AreNext p.table 1 ks × (length ks ≡ p.counts.lifted)
    × (program ≡ lifted_program (names_by p.table ks) rules) × (new ≡ with_lifted p.table ks)

abbrev pub RefusesProgram : Text → List Text → Refusal → Type 0
RefusesProgram text table r = Reads text (pieces text) (start table) [] (Stopped r)

abbrev pub query_of : Rule → Lifted → List Text → Query
query_of r x vs = record { question = clause_of r x.parts; lifted = x.clauses; names = vs }

-- a query with its body lifted
abbrev pub lifted_query : (ℕ → ℕ) → Rule → List Text → Query
lifted_query atoms r vs = query_of r (lifted_rule atoms r 0) vs

-- a query is read alone, beside a program whose names the table has
abbrev pub AcceptsQuery : Text → Piece → Program → List Text → Query → List Text → Type 0
AcceptsQuery text piece program table query new =
    (t : Taken) × (ks : List ℕ)
    × Judges source.Query text (beside program table) piece (Took t)
    × AreNext t.after.table 1 ks × (length ks ≡ t.after.counts.lifted)
    × (query ≡ lifted_query (names_by t.after.table ks) t.rule t.names) × (new ≡ with_lifted t.after.table ks)

abbrev pub RefusesQuery : Text → Piece → Program → List Text → Refusal → Type 0
RefusesQuery text piece program table r = Judges source.Query text (beside program table) piece (Refused r)
