-- What a piece comes to, as it is printed.
use Rattle.std.proofs.Common.{◌≡◌, ◌≤◌, ◌⊎◌, inl, inr, ℕ, Bool, true, false, List, [], ◌∷◌, ◌++◌, take, length, length-append, refl, sym, ◌∙◌, ap, arith}
use Rattle.std.proofs.lemmas.Grind.{common_steps}
use Rattle.ap_term.specs.Blocks.{IsPrefix}
use Rattle.ap_outside.specs.Halting.{AnyOf}
use Rattle.ap_lexer.specs.Lexeme.{Text}
use Rattle.ap_lexer.specs.declared.cut.Piece.{Piece}
use Rattle.ap_term.specs.Goals.{Program, Query}
use Rattle.ap_clause.specs.Reads.{AcceptsQuery, RefusesQuery}
use Rattle.ap_clause.specs.declared.refusal.Refusal.{Refusal}
use Rattle.ap_clause.specs.declared.refusal.Refusal.TheVariants as refusal
use Rattle.ap_top.specs.Output.{IsQueryBlock, PieceEnds}
use Rattle.ap_top.specs.Refusals.{refusal_line}
use Rattle.ap_top.specs.Status.{tally}

-- a refusal that isn't want of memory is one of the text
pub refused : (R : Refusal → Type 0) (r : Refusal) → (r ≡ refusal.NoMemory → ⊥) → (r ≡ refusal.NoMemory) ⊎ R r → R r
refused R r other (inl is) = absurd (other is)
refused R r other (inr h) = h

module _ (budget limit : ℕ) (program : Program) (table : List (List ℕ)) (text : Text) (piece : Piece) where
  pub block_ends : (query : Query) (names : List (List ℕ)) → AcceptsQuery text piece program table query names → (spent : Bool) (ls : List (List ℕ)) → IsQueryBlock budget limit program names query spent ls
      → PieceEnds budget limit program table text piece (tally spent false) ls
  block_ends query names h spent ls block = PieceEnds.answered query names spent (tally spent false) ls h block refl

  pub some_block_ends : (query : Query) (names : List (List ℕ)) → AcceptsQuery text piece program table query names → (ls : List (List ℕ)) → AnyOf (IsQueryBlock budget limit program names query) ls
      → AnyOf (PieceEnds budget limit program table text piece) ls
  some_block_ends query names h ls any = (tally any.0 false, block_ends query names h any.0 ls any.1)

  pub refusal_ends : (names : List (List ℕ)) (r : Refusal) → names ≡ table → RefusesQuery text piece program table r → (ls : List (List ℕ)) → ls ≡ refusal_line names r ∷ []
      → PieceEnds budget limit program table text piece (tally false true) ls
  refusal_ends names r same h ls is = PieceEnds.refused r (tally false true) ls h (is ∙ ap (λ t. refusal_line t r ∷ []) same) refl

  pub some_refusal_ends : (names : List (List ℕ)) (r : Refusal) → names ≡ table → RefusesQuery text piece program table r → (ls : List (List ℕ)) → AnyOf {T = Unit {0}} (λ _ put. put ≡ refusal_line names r ∷ []) ls
      → AnyOf (PieceEnds budget limit program table text piece) ls
  some_refusal_ends names r same h ls any = (tally false true, refusal_ends names r same h ls any.1)

-- a table that grew, cut back
take_front : (xs ys : List (List ℕ)) → take (length xs) (xs ++ ys) ≡ xs
take_front xs ys = grind (arith, common_steps)

pub cut_back : (old new : List (List ℕ)) (n : ℕ) → IsPrefix old new → n ≡ length old → take n new ≡ old
cut_back old new n grown m = ap (λ k. take k new) m ∙ ap (take (length old)) (sym grown.1) ∙ take_front old grown.0

pub cut_within : (old new : List (List ℕ)) (n : ℕ) → IsPrefix old new → n ≡ length old → n ≤ length new
cut_within old new n grown m =
    let size : length new ≡ length (old ++ grown.0) = ap length (sym grown.1) in
    omega (arith, size, length-append old grown.0, m)
