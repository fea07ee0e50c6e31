-- What is known of a clause that was taken.
use Rattle.std.proofs.Common.{◌≡◌, ℕ, ◌+◌, ◌≤◌, Bool, true, false, cond, List, length, Option, Some, None, refl, sym, subst, ◌∙◌}
use Rattle.std.specs.Prelude.{nat_lt, not, ◌==◌}
use Rattle.std.proofs.lemmas.Bool.{ltb-false}
use Rattle.ap_lexer.specs.Lexeme.{Text}
use Rattle.ap_lexer.specs.declared.cut.Piece.{Piece}
use Rattle.ap_lexer.specs.Token.{Placed, tokens}
use Rattle.ap_term.specs.declared.fixed.TheConstants.{QUERY}
use Rattle.ap_term.specs.AtomTable.{capacity}
use Rattle.ap_term.specs.Tree.{Tree, var, int, atom, node, none, more}
use Rattle.ap_reader.specs.declared.written.TheConstants.{MAX_OPEN}
use Rattle.ap_reader.specs.declared.depth.TheConstants.{MAX_DEPTH}
use Rattle.ap_reader.specs.Bracket.{most_open}
use Rattle.ap_reader.specs.Depth.{depth}
use Rattle.ap_reader.specs.Build.{term_in}
use Rattle.ap_reader.specs.Reading.{first_line, term_of}
use Rattle.ap_clause.specs.declared.refusal.What.{What}
use Rattle.ap_clause.specs.declared.refusal.Refusal.{Refusal}
use Rattle.ap_clause.specs.declared.source.Source.{Source}
use Rattle.ap_clause.specs.declared.source.Source.TheVariants as source
use Rattle.ap_clause.specs.Clause.{question, query_halves, halves}
use Rattle.ap_clause.specs.Reads.{Position, Taken, Verdict, Refused, Took, Sentence, fits, table_after, refused_if, refused_outside, refused_past, judged, JudgesOpen, JudgesBy, Judges}

pub took_if : (b : Bool) (r : Refusal) (v : Verdict) (t : Taken) → refused_if b r v ≡ Took t → (b ≡ false) × (v ≡ Took t)
took_if true r v t h = absurd (clash h)
  where
    clash : Refused r ≡ Took t → ⊥
    clash k = cc
took_if false r v t h = (refl, h)

pub took_outside : (o : Option ℕ) (line : ℕ) (v : Verdict) (t : Taken) → refused_outside o line v ≡ Took t → v ≡ Took t
took_outside None line v t h = h
took_outside (Some a) line v t h = absurd (clash _ h)
  where
    clash : (r : Refusal) → Refused r ≡ Took t → ⊥
    clash r k = cc

pub took_past : (o : Option What) (line : ℕ) (v : Verdict) (t : Taken) → refused_past o line v ≡ Took t → v ≡ Took t
took_past None line v t h = h
took_past (Some a) line v t h = absurd (clash _ h)
  where
    clash : (r : Refusal) → Refused r ≡ Took t → ⊥
    clash r k = cc

pub took : {a b : Taken} → Took a ≡ Took b → a ≡ b
took e = cc

-- the head is that of the term, the names are those of the variables, and the table has room for the lifted predicates
pub record IsTaken (source : Source) (t : Taken) : Type 0 where
  pub term : Tree
  pub head : t.rule.head ≡ (halves source term).0
  pub named : length t.names ≡ t.rule.vars
  pub room : length t.after.table + t.after.counts.lifted ≤ capacity

sentence_taken : (source : Source) (p : Position) (line : ℕ) (s : Option Sentence) (t : Taken) → judged source p line s ≡ Took t → IsTaken source t
sentence_taken source p line None t h = absurd (clash _ h)
  where
    clash : (r : Refusal) → Refused r ≡ Took t → ⊥
    clash r k = cc
sentence_taken source p line (Some s) t h =
    let form = took_if (not (fits source (term_of s.front s.tree))) _ _ t h in
    let deep = took_if (nat_lt MAX_DEPTH (depth (term_of s.front s.tree))) _ _ t form.1 in
    let names = took_if _ _ _ t deep.1 in
    let whole = took (took_past _ line _ t (took_outside _ line _ t names.1)) in
    subst (IsTaken source) whole (record { term = term_in (table_after p s) (term_of s.front s.tree); head = refl; named = refl; room = ltb-false capacity _ names.0 })

open_taken : (full : Bool) (source : Source) (p : Position) (ts : List Placed) (t : Taken) → JudgesOpen full source p ts (Took t) → IsTaken source t
open_taken true source p ts t h = absurd (clash _ h)
  where
    clash : (r : Refusal) → Took t ≡ Refused r → ⊥
    clash r k = cc
open_taken false source p ts t h = sentence_taken source p (first_line ts) h.0 t (sym h.2)

by_taken : (bad : Option ℕ) (source : Source) (p : Position) (ts : List Placed) (t : Taken) → JudgesBy bad source p ts (Took t) → IsTaken source t
by_taken (Some line) source p ts t h = absurd (clash _ h)
  where
    clash : (r : Refusal) → Took t ≡ Refused r → ⊥
    clash r k = cc
by_taken None source p ts t h = open_taken (nat_lt MAX_OPEN (most_open 0 ts)) source p ts t h

pub judges_taken : (source : Source) (text : Text) (p : Position) (piece : Piece) (t : Taken) → Judges source text p piece (Took t) → IsTaken source t
judges_taken source text p piece t h = by_taken piece.bad source p (tokens text piece) t h

-- the head of a query's clause
query_head : (t : Tree) → (query_halves t).0 ≡ atom QUERY
query_head (var x) = refl
query_head (int z) = refl
query_head (atom a) = refl
query_head (node f none) = refl
query_head (node f (more b none)) = of (f == QUERY)
  where
    of : (c : Bool) → (cond c (question b) (question (node f (more b none)))).0 ≡ atom QUERY
    of true = refl
    of false = refl
query_head (node f (more b (more c ts))) = refl

pub query_taken : (t : Taken) → IsTaken source.Query t → t.rule.head ≡ atom QUERY
query_taken t h = h.head ∙ query_head h.term
