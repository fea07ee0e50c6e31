-- Each text has exactly one result.
use Rattle.std.proofs.Common.{◌≡◌, ℕ, ◌+◌, ◌<◌, Bool, true, false, List, [], ◌∷◌, ◌++◌, length, Option, Some, None, refl, sym, ap, subst, ◌∙◌, arith}
use Rattle.std.specs.Prelude.{nat_lt}
use Rattle.ap_lexer.specs.Lexeme.{Text}
use Rattle.ap_lexer.specs.declared.cut.Piece.{Piece}
use Rattle.ap_lexer.specs.Piece.{pieces}
use Rattle.ap_lexer.specs.Token.{Placed, tokens}
use Rattle.ap_term.specs.Goals.{Program, Query}
use Rattle.ap_reader.specs.declared.written.TheConstants.{MAX_OPEN}
use Rattle.ap_reader.specs.Bracket.{most_open}
use Rattle.ap_reader.specs.Word.{words}
use Rattle.ap_reader.specs.Reading.{first_line}
use Rattle.ap_reader.proofs.Complete.{one}
use Rattle.ap_reader.proofs.Read.{one_front}
use Rattle.ap_lifting.specs.Rule.{Rule}
use Rattle.ap_lifting.specs.Lifted.{lifted_program}
use Rattle.ap_clause.specs.declared.refusal.Refusal.{Refusal}
use Rattle.ap_clause.specs.declared.source.Source.{Source}
use Rattle.ap_clause.specs.declared.source.Source.TheVariants as source
use Rattle.ap_clause.specs.Fresh.{IsNext, AreNext, lift_name, with_lifted, names_by}
use Rattle.ap_clause.specs.Reads.{Position, Verdict, Refused, Took, Sentence, IsSentence, judged, JudgesOpen, JudgesBy, Judges, Outcome, Stopped, Whole, Goes, Reads, start, beside, lifted_query, AcceptsProgram, RefusesProgram, AcceptsQuery, RefusesQuery}
use Rattle.ap_clause.proofs.Taken.{took}
use Rattle.ap_clause.proofs.RulesRead.{whole-is}
use Rattle.std.proofs.lemmas.Bool.{both_ways}

sentence_one : (ts : List Placed) (a b : Option Sentence) → IsSentence ts a → IsSentence ts b → a ≡ b
sentence_one ts None None x y = refl
sentence_one ts None (Some b) x y = absurd (x b.front b.tree y)
sentence_one ts (Some a) None x y = absurd (y a.front a.tree x)
sentence_one ts (Some a) (Some b) x y =
    let front = one_front ts a.front b.front x.ends y.ends in
    let tree = one a.tree b.tree x.rules y.rules (x.spelling ∙ ap words front ∙ sym y.spelling) in
    ap (λ f. Some (record { front = f; tree = a.tree })) front ∙ ap (λ t. Some (record { front = b.front; tree = t })) tree

open_one : (full : Bool) (source : Source) (p : Position) (ts : List Placed) (v w : Verdict) → JudgesOpen full source p ts v → JudgesOpen full source p ts w → v ≡ w
open_one true source p ts v w x y = x ∙ sym y
open_one false source p ts v w x y = x.2 ∙ ap (judged source p (first_line ts)) (sentence_one ts x.0 y.0 x.1 y.1) ∙ sym y.2

by_one : (bad : Option ℕ) (source : Source) (p : Position) (ts : List Placed) (v w : Verdict) → JudgesBy bad source p ts v → JudgesBy bad source p ts w → v ≡ w
by_one (Some line) source p ts v w x y = x ∙ sym y
by_one None source p ts v w x y = open_one (nat_lt MAX_OPEN (most_open 0 ts)) source p ts v w x y

-- a piece has one verdict
pub judges_one : (source : Source) (text : Text) (p : Position) (piece : Piece) (v w : Verdict) → Judges source text p piece v → Judges source text p piece w → v ≡ w
judges_one source text p piece v w x y = by_one piece.bad source p (tokens text piece) v w x y

-- pieces have one outcome
pub reads_one : (text : Text) (ps : List Piece) (p : Position) (rules : List Rule) (a b : Outcome) → Reads text ps p rules a → Reads text ps p rules b → a ≡ b
reads_one text [] p rules a b x y = x ∙ sym y
reads_one text (piece ∷ ps) p rules a b x y =
    goes (λ q rs. reads_one text ps q rs a b) x.0 x.2 (subst (λ v. Goes (Reads text ps) rules v b) (sym (judges_one source.Program text p piece x.0 y.0 x.1 y.1)) y.2)
  where
    goes : ((q : Position) (rs : List Rule) → Reads text ps q rs a → Reads text ps q rs b → a ≡ b) → (v : Verdict) → Goes (Reads text ps) rules v a → Goes (Reads text ps) rules v b → a ≡ b
    goes rest (Refused r) x y = x ∙ sym y
    goes rest (Took t) x y = rest t.after (rules ++ t.rule ∷ []) x y

-- the least new number is one
next_one : (table : List Text) (from j k : ℕ) → IsNext table from j → IsNext table from k → j ≡ k
next_one table from j k x y = same (λ h. both_ways _ x.new (y.least j x.from_there h)) (λ h. both_ways _ y.new (x.least k y.from_there h))
  where
    same : (j < k → ⊥) → (k < j → ⊥) → j ≡ k
    same f g = omega (arith, f, g)

pub are_next_one : (table : List Text) (from : ℕ) (js ks : List ℕ) → AreNext table from js → AreNext table from ks → length js ≡ length ks → js ≡ ks
are_next_one table from [] [] x y e = refl
are_next_one table from [] (k ∷ ks) x y e = absurd (omega arith)
are_next_one table from (j ∷ js) [] x y e = absurd (omega arith)
are_next_one table from (j ∷ js) (k ∷ ks) x y e =
    let first = next_one table from j k x.0 y.0 in
    let there = subst (λ n. AreNext (table ++ lift_name n ∷ []) (n + 1) js) first x.1 in
    ap (λ n. n ∷ js) first ∙ ap (λ ns. k ∷ ns) (are_next_one (table ++ lift_name k ∷ []) (k + 1) js ks there y.1 (omega arith))

-- a text that is refused is no program, and is refused for one reason
stopped : {r q : Refusal} → Stopped r ≡ Stopped q → r ≡ q
stopped e = cc

pub one_refusal : (text : Text) (table : List Text) (r q : Refusal) → RefusesProgram text table r → RefusesProgram text table q → r ≡ q
one_refusal text table r q x y = stopped (reads_one text (pieces text) (start table) [] (Stopped r) (Stopped q) x y)

pub not_both : (text : Text) (table new : List Text) (program : Program) (r : Refusal) → AcceptsProgram text table program new → RefusesProgram text table r → ⊥
not_both text table new program r x y = clash (reads_one text (pieces text) (start table) [] (Whole x.0 x.1) (Stopped r) x.3 y)
  where
    clash : Whole x.0 x.1 ≡ Stopped r → ⊥
    clash e = cc

pub one_program : (text : Text) (table new other : List Text) (program another : Program) → AcceptsProgram text table program new → AcceptsProgram text table another other → (program ≡ another) × (new ≡ other)
one_program text table new other program another x y =
    let same = whole-is (reads_one text (pieces text) (start table) [] (Whole x.0 x.1) (Whole y.0 y.1) x.3 y.3) in
    let there : AreNext y.1.table 1 x.2 = subst (λ p. AreNext p.table 1 x.2) same.1 x.4 in
    let ks = are_next_one y.1.table 1 x.2 y.2 there y.4 (x.5 ∙ ap (λ p. p.counts.lifted) same.1 ∙ sym y.5) in (
      x.6 ∙ ap (λ rs. lifted_program (names_by x.1.table x.2) rs) same.0 ∙ ap (λ p. lifted_program (names_by p.table x.2) y.0) same.1 ∙ ap (λ ns. lifted_program (names_by y.1.table ns) y.0) ks ∙ sym y.6,
      x.7 ∙ ap (λ p. with_lifted p.table x.2) same.1 ∙ ap (with_lifted y.1.table) ks ∙ sym y.7,
    )

-- the same of a query
refused : {r q : Refusal} → Refused r ≡ Refused q → r ≡ q
refused e = cc

pub one_query_refusal : (text : Text) (piece : Piece) (program : Program) (table : List Text) (r q : Refusal) → RefusesQuery text piece program table r → RefusesQuery text piece program table q → r ≡ q
one_query_refusal text piece program table r q x y = refused (judges_one source.Query text (beside program table) piece (Refused r) (Refused q) x y)

pub not_both_query : (text : Text) (piece : Piece) (program : Program) (table new : List Text) (query : Query) (r : Refusal) → AcceptsQuery text piece program table query new → RefusesQuery text piece program table r → ⊥
not_both_query text piece program table new query r x y = clash (judges_one source.Query text (beside program table) piece (Took x.0) (Refused r) x.2 y)
  where
    clash : Took x.0 ≡ Refused r → ⊥
    clash e = cc

pub one_query : (text : Text) (piece : Piece) (program : Program) (table new other : List Text) (query another : Query) → AcceptsQuery text piece program table query new → AcceptsQuery text piece program table another other → (query ≡ another) × (new ≡ other)
one_query text piece program table new other query another x y =
    let same = took (judges_one source.Query text (beside program table) piece (Took x.0) (Took y.0) x.2 y.2) in
    let there : AreNext y.0.after.table 1 x.1 = subst (λ t. AreNext t.after.table 1 x.1) same x.3 in
    let ks = are_next_one y.0.after.table 1 x.1 y.1 there y.3 (x.4 ∙ ap (λ t. t.after.counts.lifted) same ∙ sym y.4) in (
      x.5 ∙ ap (λ t. lifted_query (names_by t.after.table x.1) t.rule t.names) same ∙ ap (λ ns. lifted_query (names_by y.0.after.table ns) y.0.rule y.0.names) ks ∙ sym y.5,
      x.6 ∙ ap (λ t. with_lifted t.after.table x.1) same ∙ ap (with_lifted y.0.after.table) ks ∙ sym y.6,
    )
