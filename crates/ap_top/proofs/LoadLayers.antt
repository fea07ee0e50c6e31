-- From what a layer of `load` has put to what the layer above it has put.
use Rattle.std.proofs.Common.{◌≡◌, ℕ, ◌<◌, ◌≤◌, ◌+◌, Bool, true, false, List, [], ◌∷◌, ◌++◌, length, length-append, Option, None, Some, sym, ◌∙◌, ap, subst, refl, arith, append-nil}
use Rattle.ap_outside.specs.Pieces.{Puts}
use Rattle.ap_lexer.specs.Lexeme.{Text, lexeme, lexemes}
use Rattle.ap_lexer.specs.Piece.{pieces}
use Rattle.ap_lexer.specs.declared.cut.Piece.{Piece}
use Rattle.ap_term.specs.AtomTable.{fixed_names}
use Rattle.ap_term.specs.Goals.{Program}
use Rattle.ap_clause.specs.Reads.{RefusesProgram}
use Rattle.ap_clause.specs.declared.refusal.Refusal.{Refusal}
use Rattle.ap_gen.specs.Generator.{question, workload}
use Rattle.ap_gen.specs.Summary.{summary}
use Rattle.ap_top.specs.Output.{IsOutput, PieceEnds, end_line, judged}
use Rattle.ap_top.specs.Refusals.{refusal_line}
use Rattle.ap_top.specs.Status.{both, tally}
use Rattle.ap_top.specs.Loads.{IsSummed, LoadEnds, QuestionEnds}
use Rattle.ap_top.specs.declared.status.Tally.{Tally}
use Rattle.ap_top.specs.declared.status.Status.{Status}
use Rattle.ap_top.specs.declared.status.Status.TheVariants as status
use Rattle.ap_top.proofs.Outputs.{both_none}
use Rattle.ap_top.proofs.Statuses.{IsCalm, tally_calm}

-- what a sink in memory keeps that had nothing before
pub kept_lines : (a b : Option (List (List ℕ))) (P : List (List ℕ) → Type 0) (kept : List (List ℕ)) → a ≡ Some [] → Some kept ≡ b → Puts a b P → P kept
kept_lines None b P kept e f puts = cc
kept_lines (Some u) None P kept e f puts = cc
kept_lines (Some u) (Some v) P kept e f puts =
    let nothing : u ≡ [] = cc in
    let all : kept ≡ v = cc in
    subst P (sym (all ∙ puts.1 ∙ ap (λ w. w ++ puts.0) nothing)) puts.2

-- the question is one piece
pub one_question : (piece : Piece) × (pieces question ≡ piece ∷ [])
unfolding lexeme lexemes
one_question = (_, refl)

module _ (budget limit : ℕ) (program : Program) (table : List (List ℕ)) (text : Text) where
  none_behind : (ps : List Piece) → ps ≡ [] → (t : Tally) (ls : List (List ℕ)) → IsOutput budget limit program table text ps t ls → (ls ≡ []) × (t ≡ tally false false)
  none_behind [] none t ls out = out
  none_behind (p ∷ ps) none t ls out = cc

  piece_alone : (piece : Piece) (ps : List Piece) → ps ≡ [] → (t : Tally) (ls : List (List ℕ)) → IsOutput budget limit program table text (piece ∷ ps) t ls → PieceEnds budget limit program table text piece t ls
  piece_alone piece ps none t ls out =
      let behind = none_behind ps none out.3 out.1 out.7 in
      let lines : ls ≡ out.0 = out.4 ∙ ap (λ rest. out.0 ++ rest) behind.0 ∙ append-nil out.0 in
      let same : t ≡ out.2 = out.5 ∙ ap (both out.2) behind.1 ∙ both_none out.2 in
      subst (λ u. PieceEnds budget limit program table text piece u ls) (sym same) (subst (PieceEnds budget limit program table text piece out.2) (sym lines) out.6)

  -- a text of one piece comes to what that piece comes to
  pub text_alone : (piece : Piece) → pieces text ≡ piece ∷ [] → (t : Tally) (ls : List (List ℕ)) → IsOutput budget limit program table text (judged true text) t ls → PieceEnds budget limit program table text piece t ls
  text_alone piece one t ls out = piece_alone piece [] refl t ls (subst (λ ps. IsOutput budget limit program table text ps t ls) one out)

  -- it has a last line, and as many before it as the limit at most
  pub block_size : (piece : Piece) (t : Tally) (ls : List (List ℕ)) → PieceEnds budget limit program table text piece t ls → (0 < length ls) × (length ls ≤ limit + 1)
  block_size piece t ls (PieceEnds.answered query names spent _ _ h block e) =
      let size : length ls ≡ length block.0 + 1 = ap length block.2 ∙ length-append block.0 (end_line block.1 ∷ []) in
      let few : length block.0 ≤ limit = block.4.few in
      (omega (arith, size), omega (arith, size, few))
  block_size piece t ls (PieceEnds.refused r _ _ h is e) =
      let size : length ls ≡ 1 = ap length is in
      (omega (arith, size), omega (arith, size))

-- what a sink in memory keeps of the question is what its piece comes to
pub question_kept : (program : Program) (table : List (List ℕ)) (a b : Option (List (List ℕ))) (kept : List (List ℕ)) (t : Tally) → a ≡ Some [] → Some kept ≡ b
    → Puts a b (IsOutput 10000000 1000000 program table question (judged true question) t) → PieceEnds 10000000 1000000 program table question one_question.0 t kept
question_kept program table a b kept t e f puts =
    text_alone 10000000 1000000 program table question one_question.0 one_question.1 t kept (kept_lines a b (IsOutput 10000000 1000000 program table question (judged true question) t) kept e f puts)

pub summed_lines : (seed size : ℕ) (refused : Bool) (block ls : List (List ℕ)) → refused ≡ false → (answers : List (List ℕ)) (end : List ℕ) → block ≡ answers ++ end ∷ [] → ls ≡ summary seed size answers end
    → IsSummed seed size refused block ls
summed_lines seed size false block ls is answers end whole same = (answers, end, whole, same)
summed_lines seed size true block ls is answers end whole same = cc

module _ (seed size : ℕ) (names : List (List ℕ)) (r : Refusal) (same : names ≡ fixed_names) (h : RefusesProgram (workload seed size) fixed_names r) where
  pub load_refused : (ls : List (List ℕ)) → ls ≡ refusal_line names r ∷ [] → LoadEnds seed size status.ProgramRefused ls
  load_refused ls is = LoadEnds.refused r ls h (is ∙ ap (λ t. refusal_line t r ∷ []) same)

-- ---- statuses that it doesn't end with

question_calm : (seed size : ℕ) (program : Program) (table : List (List ℕ)) (s : Status) (ls : List (List ℕ)) → QuestionEnds seed size program table s ls → IsCalm s
question_calm seed size program table _ ls (QuestionEnds.asked piece t s block _ one ends summed e) = tally_calm t.spent t.refused s e

pub load_calm : (seed size : ℕ) (s : Status) (ls : List (List ℕ)) → LoadEnds seed size s ls → IsCalm s
load_calm seed size _ ls (LoadEnds.refused r _ n e) = (λ f. cc, λ f. cc, λ f. cc, λ f. cc)
load_calm seed size _ ls (LoadEnds.accepted program table s _ r ends) = question_calm seed size program table s ls ends
