-- What is printed for the pieces of a source.
use Rattle.std.specs.Prelude.{◌≡◌, ℕ, Bool, true, false, List, [], ◌∷◌, ◌++◌, codes, if◌then◌else◌}
use Rattle.std.specs.List.{filter}
use Rattle.ap_lexer.specs.Lexeme.{Text}
use Rattle.ap_lexer.specs.Piece.{pieces}
use Rattle.ap_lexer.specs.declared.cut.Piece.{Piece}
use Rattle.ap_term.specs.declared.faults.Fault.{Fault}
use Rattle.ap_term.specs.declared.faults.Fault.TheVariants.{Instantiation, WrongType, ZeroDivisor, Overflow}
use Rattle.ap_term.specs.Tree.{Trees}
use Rattle.ap_term.specs.Goals.{Program, Query, joined}
use Rattle.ap_term.specs.Search.{start}
use Rattle.ap_term.specs.Blocks.{End, no_more, budget_spent, stopped, error, IsBlock}
use Rattle.ap_clause.specs.Reads.{AcceptsQuery, RefusesQuery}
use Rattle.ap_clause.specs.declared.refusal.Refusal.{Refusal}
use Rattle.ap_reach.specs.Reached.{IsReached}
use Rattle.ap_mel.specs.declared.annotations.Kind.{Kind}
use Rattle.ap_grouping.specs.Groups.{AreGroups}
use Rattle.ap_open.specs.Ungrouped.{IsUngrouped}
use Rattle.ap_worker.specs.declared.emission.Ended.{Ended}
use Rattle.ap_worker.specs.Charged.{IsChargedBlock}
use Rattle.ap_worker.specs.Ends.{end_of}
use Rattle.ap_worker.specs.Totals.{NoneTaken}
use Rattle.ap_writer.specs.Line.{answer_line}
use Rattle.ap_top.specs.Refusals.{refusal_line}
use Rattle.ap_top.specs.Status.{tally, both}
use Rattle.ap_top.specs.declared.status.Tally.{Tally}

-- the line of an answer, with its line feed
abbrev pub line_of : List (List ℕ) → Query → Trees → List ℕ
line_of table query tuple = answer_line table query.names tuple ++ 10 ∷ []

abbrev pub fault_line : Fault → List ℕ
fault_line Instantiation = codes "error: instantiation\n"
fault_line WrongType = codes "error: type\n"
fault_line ZeroDivisor = codes "error: zero_divisor\n"
fault_line Overflow = codes "error: overflow\n"

abbrev pub end_line : End → List ℕ
end_line no_more = codes "no more.\n"
end_line budget_spent = codes "budget spent.\n"
end_line stopped = codes "stopped.\n"
end_line (error e) = fault_line e

abbrev pub is_spent : End → Bool
is_spent no_more = false
is_spent budget_spent = true
is_spent stopped = false
is_spent (error e) = false

-- the lines of a query's answers that go with how they end
abbrev pub AreAnswers : ℕ → ℕ → Program → List (List ℕ) → Query → Ended → List (List ℕ) → Type 0
AreAnswers budget limit program table query e put = IsBlock (line_of table query) (joined program query) (start query) budget limit put (end_of e.end)

-- What a query is charged, and the calls that were made for it: searched is the part of the program that it can call, with the
-- groups that it got. Where it got none, one worker made all calls, and these are charged.
pub record IsCounted (kind : Kind) (budget limit : ℕ) (program : Program) (table : List (List ℕ)) (query : Query) (e : Ended) (put : List (List ℕ)) : Type 0 where
  pub part : Program
  pub grouped : Program
  pub asked : Query
  pub reached : IsReached program query part
  pub groups : AreGroups kind part query grouped asked
  pub charged : IsChargedBlock (line_of table query) (joined program query) (start query) budget limit (IsUngrouped (joined grouped asked)) e put
  pub exact : IsUngrouped (joined grouped asked) → e.total.sum ≡ e.charged
  pub plain : IsUngrouped (joined grouped asked) → NoneTaken e

-- A block of a query, by a budget of calls and a limit of answers: answer lines that are a block of its search, then
-- the line that ends it. `spent` tells whether that says so of the budget.
abbrev pub IsQueryBlock : ℕ → ℕ → Program → List (List ℕ) → Query → Bool → List (List ℕ) → Type 0
IsQueryBlock budget limit program table query spent lines =
    (answers : List (List ℕ)) × (end : End) × (lines ≡ answers ++ end_line end ∷ []) × (spent ≡ is_spent end)
    × IsBlock (line_of table query) (joined program query) (start query) budget limit answers end

-- What is printed for a piece of a text, beside a program and its table of names: where it reads as a query, a block of
-- it, and else the line of the refusal.
pub data PieceEnds (budget limit : ℕ) (program : Program) (table : List (List ℕ)) (text : Text) (piece : Piece) : Tally → List (List ℕ) → Type 0 where
  answered : (query : Query) (names : List (List ℕ)) (spent : Bool) (t : Tally) (lines : List (List ℕ)) → AcceptsQuery text piece program table query names
      → IsQueryBlock budget limit program names query spent lines → t ≡ tally spent false → PieceEnds budget limit program table text piece t lines
  refused : (r : Refusal) (t : Tally) (lines : List (List ℕ)) → RefusesQuery text piece program table r → lines ≡ refusal_line table r ∷ [] → t ≡ tally false true
      → PieceEnds budget limit program table text piece t lines

-- the same for pieces, in order
abbrev pub IsOutput : ℕ → ℕ → Program → List (List ℕ) → Text → List Piece → Tally → List (List ℕ) → Type 0
IsOutput budget limit program table text [] t lines = (lines ≡ []) × (t ≡ tally false false)
IsOutput budget limit program table text (piece ∷ pieces) t lines =
    (block rest : List (List ℕ)) × (here behind : Tally) × (lines ≡ block ++ rest) × (t ≡ both here behind)
    × PieceEnds budget limit program table text piece here block × IsOutput budget limit program table text pieces behind rest

-- the pieces of a text that are judged: all of a whole one, and of one that broke off those that had ended
abbrev pub judged : Bool → Text → List Piece
judged whole text = if whole then pieces text else filter (λ p. p.ended) (pieces text)
