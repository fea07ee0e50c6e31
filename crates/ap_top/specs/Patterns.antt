-- Patterns of entries, as `p(g,f)`.
use Rattle.std.specs.Prelude.{◌≡◌, ℕ, ◌≤◌, Bool, false, IsTrue, ◌==◌, List, [], ◌∷◌, ◌++◌, length, Option, None, Some, option_map, option_and_then, if◌then◌else◌, codes}
use Rattle.std.specs.List.{list_any}
use Rattle.ap_lexer.specs.Lexeme.{Text}
use Rattle.ap_lexer.specs.declared.cut.Piece.{Piece}
use Rattle.ap_lexer.specs.Piece.{pieces}
use Rattle.ap_lexer.specs.Token.{Placed, tokens}
use Rattle.ap_reader.specs.declared.written.TheConstants.{MAX_OPEN}
use Rattle.ap_reader.specs.declared.depth.TheConstants.{MAX_DEPTH}
use Rattle.ap_reader.specs.Bracket.{most_open}
use Rattle.ap_reader.specs.Grammar as grammar
use Rattle.ap_reader.specs.Step.{postfix}
use Rattle.ap_reader.specs.Written.{leaves}
use Rattle.ap_reader.specs.Depth.{depth}
use Rattle.ap_reader.specs.Build.{names, term_in}
use Rattle.ap_reader.specs.Reading.{Spells, term_of}
use Rattle.ap_term.specs.AtomTable.{insert_names, capacity}
use Rattle.ap_term.specs.declared.fixed.TheConstants.{GROUND_MARK, FREE_MARK, ANY_MARK}
use Rattle.ap_term.specs.Tree.{Tree, Trees, var, int, atom, node, none, more}
use Rattle.ap_term.specs.Goals.{Program}
use Rattle.ap_patterns.specs.declared.tables.Predicate.{Predicate}
use Rattle.ap_patterns.specs.declared.entries.Mark.{Mark}
use Rattle.ap_patterns.specs.declared.entries.Mark.TheVariants.{Ground, Free, Any}
use Rattle.ap_patterns.specs.declared.entries.Entry.{Entry}
use Rattle.ap_patterns.specs.declared.entries.Entries.{Entries}
use Rattle.ap_patterns.specs.declared.entries.Entries.TheVariants.{All, One, Query}
use Rattle.ap_patterns.specs.Places.{arguments}
use Rattle.ap_patterns.specs.Table.{predicate_of, same_predicate}

-- ---- reading

-- the names of a term behind those of a table
abbrev pub table_with : List Text → List Placed → grammar.Tree → List Text
table_with table front w = insert_names table (names (leaves [] front) (postfix w))

-- tokens read as a term, with its names in the table: they spell it, and it keeps the limits of terms
pub record ReadsTokens (ts : List Placed) (table : List Text) (t : Tree) : Type 0 where
  pub brackets : most_open 0 ts ≤ MAX_OPEN
  pub front : List Placed
  pub written : grammar.Tree
  pub spells : Spells ts front written
  pub shallow : depth (term_of front written) ≤ MAX_DEPTH
  pub room : length (table_with table front written) ≤ capacity
  pub term : t ≡ term_in (table_with table front written) (term_of front written)

abbrev pub ReadsPiece : Text → Piece → List Text → Tree → Type 0
ReadsPiece text piece table t = (piece.bad ≡ None) × ReadsTokens (tokens text piece) table t

-- a text of one piece
abbrev pub ReadsText : Text → List Text → Tree → Type 0
ReadsText text table t = (piece : Piece) × (pieces text ≡ piece ∷ []) × ReadsPiece text piece table t

-- a word, before a blank and a full stop
abbrev pub ReadsWord : Text → List Text → Tree → Type 0
ReadsWord word table t = ReadsText (word ++ codes " .") table t

-- ---- marks

abbrev pub mark_named : ℕ → Option Mark
mark_named a = if a == GROUND_MARK then Some Ground else (if a == FREE_MARK then Some Free else (if a == ANY_MARK then Some Any else None))

abbrev pub mark_of : Tree → Option Mark
mark_of (atom a) = mark_named a
mark_of (var x) = None
mark_of (int z) = None
mark_of (node a ts) = None

abbrev pub marks_of : Trees → Option (List Mark)
marks_of none = Some []
marks_of (more t ts) = option_and_then (λ m. option_map (λ ms. m ∷ ms) (marks_of ts)) (mark_of t)

-- ---- entries

abbrev pub is_of : Predicate → Option Predicate → Bool
is_of p None = false
is_of p (Some q) = same_predicate p q

abbrev pub has_clause : Program → Predicate → Bool
has_clause program p = list_any (λ c. is_of p (predicate_of c.head)) program

-- a goal of a predicate with a clause, whose arguments are marks
pub record IsEntryOf (program : Program) (t : Tree) (e : Entry) : Type 0 where
  pub predicate : predicate_of t ≡ Some e.predicate
  pub clause : IsTrue (has_clause program e.predicate)
  pub marks : marks_of (arguments t) ≡ Some e.marks.items

abbrev pub IsMarkedBy : Program → Tree → Entries → Type 0
IsMarkedBy program t (One e) = IsEntryOf program t e
IsMarkedBy program t All = ⊥
IsMarkedBy program t Query = ⊥

-- the entries that a pattern asks for; without one there are all calls
abbrev pub AreEntries : Option Text → Program → List Text → Entries → Type 0
AreEntries None program table E = E ≡ All
AreEntries (Some word) program table E = (t : Tree) × ReadsWord word table t × IsMarkedBy program t E
