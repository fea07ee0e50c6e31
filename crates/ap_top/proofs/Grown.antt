-- A query's names go behind those of the table.
use Rattle.std.proofs.Common.{◌≡◌, ℕ, Bool, true, false, List, [], ◌∷◌, ◌++◌, map, Option, Some, None, if◌then◌else◌, refl, sym, ◌∙◌, ap, append-nil, append_assoc}
use Rattle.std.specs.Prelude.{nat_lt, not}
use Rattle.ap_lexer.specs.Lexeme.{Text}
use Rattle.ap_lexer.specs.declared.cut.Piece.{Piece}
use Rattle.ap_lexer.specs.Token.{Placed, tokens}
use Rattle.ap_term.specs.AtomTable.{is_held, insert_name, insert_names}
use Rattle.ap_term.specs.Blocks.{IsPrefix}
use Rattle.ap_term.specs.Goals.{Program, Query}
use Rattle.ap_reader.specs.declared.written.TheConstants.{MAX_OPEN}
use Rattle.ap_reader.specs.declared.depth.TheConstants.{MAX_DEPTH}
use Rattle.ap_reader.specs.Bracket.{most_open}
use Rattle.ap_reader.specs.Depth.{depth}
use Rattle.ap_reader.specs.Build.{names}
use Rattle.ap_reader.specs.Step.{postfix}
use Rattle.ap_reader.specs.Written.{leaves}
use Rattle.ap_reader.specs.Reading.{first_line, term_of}
use Rattle.ap_clause.specs.declared.refusal.Refusal.{Refusal}
use Rattle.ap_clause.specs.declared.source.Source.{Source}
use Rattle.ap_clause.specs.declared.source.Source.TheVariants as source
use Rattle.ap_clause.specs.Fresh.{lift_name}
use Rattle.ap_clause.specs.Reads.{Position, Taken, Verdict, Took, Sentence, fits, table_after, refused_if, judged, JudgesOpen, JudgesBy, beside, AcceptsQuery}
use Rattle.ap_clause.proofs.RulesRead.{clash}
use Rattle.ap_clause.proofs.Taken.{took_outside, took_past, took}

pub took_if : (b : Bool) (r : Refusal) (v : Verdict) (t : Taken) → refused_if b r v ≡ Took t → v ≡ Took t
took_if true r v t h = absurd (clash r t h)
took_if false r v t h = h

put_one : (table : List Text) (n : Text) → (others : List Text) × (insert_name table n ≡ table ++ others)
put_one table n = go (is_held table n)
  where
    go : (b : Bool) → (others : List Text) × ((if b then table else table ++ n ∷ []) ≡ table ++ others)
    go true = ([], sym (append-nil table))
    go false = (n ∷ [], refl)

pub put_behind : (table ns : List Text) → (others : List Text) × (insert_names table ns ≡ table ++ others)
put_behind table [] = ([], sym (append-nil table))
put_behind table (n ∷ ns) =
    let one = put_one table n in
    let all = put_behind (insert_name table n) ns in
    (one.0 ++ all.0, all.1 ∙ ap (λ t. t ++ all.0) one.1 ∙ append_assoc table one.0 all.0)

sentence_behind : (source : Source) (p : Position) (line : ℕ) (s : Option Sentence) (t : Taken) → judged source p line s ≡ Took t → (ns : List Text) × (t.after.table ≡ insert_names p.table ns)
sentence_behind source p line None t h = absurd (clash _ t h)
sentence_behind source p line (Some s) t h =
    let form = took_if (not (fits source (term_of s.front s.tree))) _ _ t h in
    let deep = took_if (nat_lt MAX_DEPTH (depth (term_of s.front s.tree))) _ _ t form in
    let room = took_if _ _ _ t deep in
    let whole = took (took_past _ line _ t (took_outside _ line _ t room)) in
    let is : t.after.table ≡ table_after p s = ap (λ u. u.after.table) (sym whole) in
    (names (leaves [] s.front) (postfix s.tree), is)

open_behind : (full : Bool) (source : Source) (p : Position) (ts : List Placed) (t : Taken) → JudgesOpen full source p ts (Took t) → (ns : List Text) × (t.after.table ≡ insert_names p.table ns)
open_behind true source p ts t h = absurd (clash _ t (sym h))
open_behind false source p ts t h = sentence_behind source p (first_line ts) h.0 t (sym h.2)

pub by_behind : (bad : Option ℕ) (source : Source) (p : Position) (ts : List Placed) (t : Taken) → JudgesBy bad source p ts (Took t) → (ns : List Text) × (t.after.table ≡ insert_names p.table ns)
by_behind (Some line) source p ts t h = absurd (clash _ t (sym h))
by_behind None source p ts t h = open_behind (nat_lt MAX_OPEN (most_open 0 ts)) source p ts t h

pub grown : (text : Text) (piece : Piece) (program : Program) (table : List Text) (query : Query) (new : List Text) → AcceptsQuery text piece program table query new → IsPrefix table new
grown text piece program table query new h =
    let t = h.0 in
    let b = by_behind piece.bad source.Query (beside program table) (tokens text piece) t h.2 in
    let c = put_behind table b.0 in
    let lifted = map lift_name h.1 in
    (c.0 ++ lifted, sym (append_assoc table c.0 lifted) ∙ ap (λ ns. ns ++ lifted) (sym (b.1 ∙ c.1)) ∙ sym h.6)
