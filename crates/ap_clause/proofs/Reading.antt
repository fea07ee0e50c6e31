-- Pieces, one after another.
use Rattle.std.proofs.Common.{◌≡◌, ◌<◌, List, [], ◌∷◌, ◌++◌, length, Some, Ok, Err, refl, sym, ap, subst, inl, inr, arith}
use Rattle.std.specs.Prelude.{◌⊎◌}
use Rattle.ap_lexer.specs.Lexeme.{Text}
use Rattle.ap_lexer.specs.declared.cut.Piece.{Piece}
use Rattle.ap_lexer.specs.Token.{Placed, tokens}
use Rattle.ap_lifting.specs.Rule.{Rule}
use Rattle.ap_lifting.proofs.Filled.{predicates_in-push}
use Rattle.ap_clause.specs.declared.judge.Counts.{Counts}
use Rattle.ap_clause.specs.declared.judge.Read.{Read}
use Rattle.ap_clause.specs.declared.refusal.Refusal.{Refusal}
use Rattle.ap_clause.specs.declared.refusal.Refusal.TheVariants as refusal
use Rattle.ap_clause.specs.declared.source.Source.TheVariants as source
use Rattle.ap_clause.specs.Reads.{Position, Refused, Took, Judges, JudgesBy, Outcome, Stopped, Whole, Reads}
use Rattle.ap_clause.specs.Verdict.{position, taken_of, IsCounted, AreCounted, ReadsOn}

pub counted_more : (rs : List Rule) (before : Counts) (r : Read) (old new : List Text) → AreCounted rs before old → IsCounted before r new → AreCounted (rs ++ r.rule ∷ []) r.counts new
counted_more rs before r old new h k = (k.0, omega (arith, h.1, k.1, predicates_in-push rs r.rule))

-- what is read behind a piece that went is read from it on
pub one_more : (text : Text) (ps others : List Piece) (piece : Piece) (old new : List Text) (before : Counts) (rs : List Rule) (r : Read) → ps ≡ piece ∷ others
    → Judges source.Program text (position old before) piece (Took (taken_of new r)) → (out : Outcome) → Reads text others (position new r.counts) (rs ++ r.rule ∷ []) out → Reads text ps (position old before) rs out
one_more text ps others piece old new before rs r e j out h = subst (λ qs. Reads text qs (position old before) rs out) (sym e) (Took (taken_of new r), j, h)

-- a refusal stops the reading
pub stops : (text : Text) (ps others : List Piece) (old new : List Text) (before : Counts) (rs : List Rule) (e : Refusal) → ReadsOn text ps others before old new (Err e)
    → (J : Outcome → Type 0) → ((out : Outcome) → Reads text ps (position old before) rs out → J out) → (e ≡ refusal.NoMemory) ⊎ J (Stopped e)
stops text ps others old new before rs e (inl h) J f = inl h
stops text ps others old new before rs e (inr h) J f = inr (f (Stopped e) (subst (λ qs. Reads text qs (position old before) rs (Stopped e)) (sym h.2) (Refused e, h.3, refl)))

-- no piece is left
pub ended : (text : Text) (ps : List Piece) (p : Position) (rs : List Rule) → ps ≡ [] → Reads text ps p rs (Whole rs p)
ended text ps p rs e = subst (λ qs. Reads text qs p rs (Whole rs p)) (sym e) refl

pub fewer : (ps others : List Piece) (piece : Piece) → ps ≡ piece ∷ others → length others < length ps
fewer ps others piece e = omega (arith, ap length e)

-- the verdict on the next piece, by its tokens
pub next_taken : (text : Text) (ps others : List Piece) (piece : Piece) (ts : List Placed) (old new : List Text) (before : Counts) (r : Read) → ps ≡ piece ∷ others → ts ≡ tokens text piece
    → JudgesBy piece.bad source.Program (position old before) ts (Took (taken_of new r)) → ReadsOn text ps others before old new (Ok (Some r))
next_taken text ps others piece ts old new before r e h j = (piece, e, subst (λ us. JudgesBy piece.bad source.Program (position old before) us (Took (taken_of new r))) h j)

pub next_refused : (text : Text) (ps others : List Piece) (piece : Piece) (ts : List Placed) (old new : List Text) (before : Counts) (e : Refusal) → ps ≡ piece ∷ others → ts ≡ tokens text piece
    → ((e ≡ refusal.NoMemory) ⊎ JudgesBy piece.bad source.Program (position old before) ts (Refused e)) → ReadsOn text ps others before old new (Err e)
next_refused text ps others piece ts old new before e f h (inl j) = inl j
next_refused text ps others piece ts old new before e f h (inr j) = inr (piece, others, f, subst (λ us. JudgesBy piece.bad source.Program (position old before) us (Refused e)) h j)
