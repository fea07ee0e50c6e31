-- What is printed for pieces, one after another.
use Rattle.std.proofs.Common.{◌≡◌, ℕ, ◌+◌, ◌<◌, ◌||◌, Bool, true, false, List, [], ◌∷◌, ◌++◌, take, drop, get_or, length, refl, arith, append_assoc, append-nil, sym, ◌∙◌, ap, subst, ◌⊎◌, inl, inr}
use Rattle.std.proofs.lemmas.Grind.{common_steps}
use Rattle.std.proofs.lemmas.List.{take-append-drop}
use Rattle.std.proofs.Math.Bool.{or_assoc, or-false}
use Rattle.ap_outside.specs.Pieces.{PrefixOf, FrontOf}
use Rattle.ap_outside.specs.Halting.{AnyOf}
use Rattle.ap_lexer.specs.Lexeme.{Text}
use Rattle.ap_lexer.specs.declared.cut.Piece.{Piece}
use Rattle.ap_term.specs.Goals.{Program, Query, joined}
use Rattle.ap_term.specs.Search.{start}
use Rattle.ap_term.proofs.SearchLaws.{blocks}
use Rattle.ap_clause.specs.Reads.{AcceptsQuery, RefusesQuery}
use Rattle.ap_clause.specs.declared.refusal.Refusal.{Refusal}
use Rattle.ap_top.specs.Output.{line_of, end_line, is_spent, IsQueryBlock, PieceEnds, IsOutput}
use Rattle.ap_top.specs.Refusals.{refusal_line}
use Rattle.ap_top.specs.Status.{tally, both}
use Rattle.ap_top.specs.declared.status.Tally.{Tally}
use Rattle.ap_clause.proofs.SomeResult.{some_query}

both_assoc : (a b c : Tally) → both (both a b) c ≡ both a (both b c)
both_assoc a b c = ap (λ s. tally s ((a.refused || b.refused) || c.refused)) (or_assoc a.spent b.spent c.spent) ∙ ap (tally (a.spent || (b.spent || c.spent))) (or_assoc a.refused b.refused c.refused)

pub both_none : (a : Tally) → both a (tally false false) ≡ a
both_none a = ap (λ s. tally s (a.refused || false)) (or-false a.spent) ∙ ap (tally a.spent) (or-false a.refused)

module _ (budget limit : ℕ) (program : Program) (table : List (List ℕ)) where
  -- every query has a block
  some_block : (names : List (List ℕ)) (query : Query) → (lines : List (List ℕ)) × (spent : Bool) × IsQueryBlock budget limit program names query spent lines
  some_block names query =
      let b = blocks (line_of names query) (joined program query) (start query) budget limit in
      (b.0 ++ end_line b.1.0 ∷ [], is_spent b.1.0, (b.0, b.1.0, refl, refl, b.1.1))

  module _ (text : Text) where
    -- every piece comes to something
    some_end : (piece : Piece) → (lines : List (List ℕ)) × (t : Tally) × PieceEnds budget limit program table text piece t lines
    some_end piece = go (some_query text piece program table)
      where
        go : ((query : Query) × ((names : List (List ℕ)) × AcceptsQuery text piece program table query names)) ⊎ ((r : Refusal) × RefusesQuery text piece program table r)
            → (lines : List (List ℕ)) × (t : Tally) × PieceEnds budget limit program table text piece t lines
        go (inl a) = let b = some_block a.1.0 a.0 in (b.0, tally b.1 false, PieceEnds.answered a.0 a.1.0 b.1 (tally b.1 false) b.0 a.1.1 b.2 refl)
        go (inr r) = (refusal_line table r.0 ∷ [], tally false true, PieceEnds.refused r.0 (tally false true) (refusal_line table r.0 ∷ []) r.1 refl refl)

    -- and so do pieces
    pub some_output : (pieces : List Piece) → (lines : List (List ℕ)) × (t : Tally) × IsOutput budget limit program table text pieces t lines
    some_output [] = ([], tally false false, (refl, refl))
    some_output (piece ∷ pieces) =
        let here = some_end piece in
        let behind = some_output pieces in
        (here.0 ++ behind.0, both here.1 behind.1, (here.0, behind.0, here.1, behind.1, refl, refl, here.2, behind.2))

    outputs_append : (xs ys : List Piece) (s t : Tally) (ps qs : List (List ℕ)) → IsOutput budget limit program table text xs s ps → IsOutput budget limit program table text ys t qs
        → IsOutput budget limit program table text (xs ++ ys) (both s t) (ps ++ qs)
    outputs_append [] ys s t ps qs f g =
        subst (λ ls. IsOutput budget limit program table text ys (both s t) (ls ++ qs)) (sym f.0) (subst (λ x. IsOutput budget limit program table text ys (both x t) qs) (sym f.1) g)
    outputs_append (x ∷ xs) ys s t ps qs f g = (
      f.0,
      f.1 ++ qs,
      f.2,
      both f.3 t,
      ap (λ ls. ls ++ qs) f.4 ∙ append_assoc f.0 f.1 qs,
      ap (λ u. both u t) f.5 ∙ both_assoc f.2 f.3 t,
      f.6,
      outputs_append xs ys f.3 t f.1 qs f.7 g,
    )

    one_end : (piece : Piece) (t : Tally) (ls : List (List ℕ)) → PieceEnds budget limit program table text piece t ls → IsOutput budget limit program table text (piece ∷ []) t ls
    one_end piece t ls ends = (ls, [], t, tally false false, sym (append-nil ls), sym (both_none t), ends, (refl, refl))

    module _ (xs : List Piece) (i : ℕ) (d : Piece) (within : i < length xs) where
      pieces_to : take i xs ++ get_or xs i d ∷ [] ≡ take (i + 1) xs
      pieces_to = grind (arith, common_steps)

      pub one_more : (s here all : Tally) → all ≡ both s here → (ps qs : List (List ℕ)) → IsOutput budget limit program table text (take i xs) s ps → PieceEnds budget limit program table text (get_or xs i d) here qs
          → IsOutput budget limit program table text (take (i + 1) xs) all (ps ++ qs)
      one_more s here all is ps qs before ends =
          subst (λ t. IsOutput budget limit program table text (take (i + 1) xs) t (ps ++ qs)) (sym is) (subst (λ cs. IsOutput budget limit program table text cs (both s here) (ps ++ qs)) pieces_to (outputs_append (take i xs) (get_or xs i d ∷ []) s here ps qs before (one_end (get_or xs i d) here qs ends)))

      -- behind what the pieces before a place and the one there come to, lines go on
      pub goes_on : (s : Tally) (ps qs : List (List ℕ)) → IsOutput budget limit program table text (take i xs) s ps → AnyOf (PieceEnds budget limit program table text (get_or xs i d)) qs
          → PrefixOf (AnyOf (IsOutput budget limit program table text xs)) (ps ++ qs)
      goes_on s ps qs before any =
          let rest = some_output (drop (i + 1) xs) in
          let here = one_more s any.0 (both s any.0) refl ps qs before any.1 in (
            rest.0,
            (
              both (both s any.0) rest.1,
              subst (λ cs. IsOutput budget limit program table text cs (both (both s any.0) rest.1) ((ps ++ qs) ++ rest.0)) (take-append-drop (i + 1) xs)
                  (outputs_append (take (i + 1) xs) (drop (i + 1) xs) (both s any.0) rest.1 (ps ++ qs) rest.0 here rest.2),
            ),
          )

      pub stops : (s : Tally) (ps : List (List ℕ)) → IsOutput budget limit program table text (take i xs) s ps → FrontOf (AnyOf (IsOutput budget limit program table text xs)) ps
      stops s ps before =
          let ends = some_end (get_or xs i d) in
          let on = goes_on s ps ends.0 before (ends.1, ends.2) in
          inr (ends.0 ++ on.0, subst (AnyOf (IsOutput budget limit program table text xs)) (append_assoc ps ends.0 on.0) on.1)
