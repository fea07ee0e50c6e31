-- What is known of the clauses that were read: they can be lifted, and no atom behind the table is one of theirs.
use Rattle.std.proofs.Common.{◌≡◌, ℕ, ◌+◌, ◌≤◌, Bool, true, false, cond, List, [], ◌∷◌, ◌++◌, length, Option, Some, None, refl, sym, ap, subst, ◌∙◌, arith, length-append}
use Rattle.std.specs.Prelude.{nat_lt, not}
use Rattle.std.specs.List.{AllByRecursion}
use Rattle.std.proofs.lemmas.Bool.{ltb-false}
use Rattle.ap_lexer.specs.Lexeme.{Text}
use Rattle.ap_lexer.specs.declared.cut.Piece.{Piece}
use Rattle.ap_lexer.specs.Token.{Placed, tokens}
use Rattle.ap_term.specs.AtomTable.{is_held, insert_name, insert_names, capacity, IsAtomTable}
use Rattle.ap_term.proofs.NameTable.{table-long, table-push}
use Rattle.ap_term.proofs.Zips.{AllByRecursion-append}
use Rattle.ap_reader.specs.declared.written.TheConstants.{MAX_OPEN}
use Rattle.ap_reader.specs.declared.depth.TheConstants.{MAX_DEPTH}
use Rattle.ap_reader.specs.Bracket.{most_open}
use Rattle.ap_reader.specs.Depth.{depth}
use Rattle.ap_reader.specs.Step.{postfix}
use Rattle.ap_reader.specs.Written.{leaves, variables}
use Rattle.ap_reader.specs.Build.{names, term_in}
use Rattle.ap_reader.specs.Reading.{first_line, term_of}
use Rattle.ap_reader.proofs.Tables.{extends-names, length-extends}
use Rattle.ap_lifting.specs.Rule.{Rule, IsRule}
use Rattle.ap_lifting.specs.Sizes.{predicates_if, predicates_in}
use Rattle.ap_lifting.specs.LiftingLaws.{is_named, AvoidsIf}
use Rattle.ap_lifting.proofs.Filled.{predicates_in-push}
use Rattle.ap_clause.specs.declared.limit.TheConstants.{MAX_VARIABLES}
use Rattle.ap_clause.specs.declared.refusal.What.{What}
use Rattle.ap_clause.specs.declared.refusal.Refusal.{Refusal}
use Rattle.ap_clause.specs.declared.source.Source.{Source}
use Rattle.ap_clause.specs.declared.source.Source.TheVariants as source
use Rattle.ap_clause.specs.Clause.{halves, rule_of}
use Rattle.ap_clause.specs.Limit.{is_narrow}
use Rattle.ap_clause.specs.Reads.{Position, Taken, Verdict, Refused, Took, Sentence, fits, table_after, refused_outside, refused_past, judged, JudgesOpen, JudgesBy, Judges, Stopped, Whole, Goes, Reads}
use Rattle.ap_clause.proofs.Proper.{spelled_proper}
use Rattle.ap_clause.proofs.CanBe.{can_be_rule}
use Rattle.ap_clause.proofs.Taken.{took, took_if}
use Rattle.ap_clause.proofs.TermNames.{spelled_held, term_lacks, halves_lack}
use Rattle.ap_clause.proofs.Limits.{over_none}

-- ---- verdicts

pub clash : (r : Refusal) (t : Taken) → Refused r ≡ Took t → ⊥
clash r t h = cc

not_outside : (o : Option ℕ) (line : ℕ) (v : Verdict) (t : Taken) → refused_outside o line v ≡ Took t → (o ≡ None) × (v ≡ Took t)
not_outside None line v t h = (refl, h)
not_outside (Some a) line v t h = absurd (clash _ t h)

not_past : (o : Option What) (line : ℕ) (v : Verdict) (t : Taken) → refused_past o line v ≡ Took t → (o ≡ None) × (v ≡ Took t)
not_past None line v t h = (refl, h)
not_past (Some a) line v t h = absurd (clash _ t h)

is_so : (b : Bool) → not b ≡ false → b ≡ true
is_so true h = refl
is_so false h = sym h

-- ---- tables

names_table : (table more : List Text) → IsAtomTable table → length (insert_names table more) ≤ capacity → IsAtomTable (insert_names table more)
names_table table [] h room = h
names_table table (f ∷ more) h room = names_table (insert_name table f) more (of (is_held table f) refl (omega (arith, room, length-extends (insert_name table f) (insert_names (insert_name table f) more) (extends-names (insert_name table f) more)))) room
  where
    of : (b : Bool) → is_held table f ≡ b → length (cond b table (table ++ f ∷ [])) ≤ capacity → IsAtomTable (cond b table (table ++ f ∷ []))
    of true e le = h
    of false e le = table-push table f h e (omega (arith, le, length-append table (f ∷ [])))

-- ---- a clause that was taken

-- no atom from a place on is the head's or a goal's
abbrev pub Away : ℕ → Rule → Type 0
Away n r = (a : ℕ) → n ≤ a → (is_named a r.head ≡ false) × AvoidsIf a r.body

pub record IsGood (p : Position) (t : Taken) : Type 0 where
  pub table : IsAtomTable t.after.table
  pub longer : length p.table ≤ length t.after.table
  pub formed : IsRule t.rule
  pub away : Away (length t.after.table) t.rule
  pub counted : t.after.counts.lifted ≡ p.counts.lifted + predicates_if t.rule.body
  pub room : length t.after.table + t.after.counts.lifted ≤ capacity

sentence_good : (s : Source) (p : Position) (line : ℕ) (o : Option Sentence) (t : Taken) → IsAtomTable p.table → judged s p line o ≡ Took t → IsGood p t
sentence_good s p line None t table h = absurd (clash _ t h)
sentence_good s p line (Some x) t table h =
    let w = term_of x.front x.tree in
    let more = names (leaves [] x.front) (postfix x.tree) in
    let ns = table_after p x in
    let n = length (variables [] x.front) in
    let u = term_in ns w in
    let r = rule_of (halves s u) n line in
    let form = took_if (not (fits s w)) _ _ t h in
    let deep = took_if (nat_lt MAX_DEPTH (depth w)) _ _ t form.1 in
    let full = took_if _ _ _ t deep.1 in
    let out = not_outside _ line _ t full.1 in
    let past = not_past _ line _ t out.1 in
    let whole = took past.1 in
    let few = over_none (nat_lt MAX_VARIABLES n) _ _ past.0 in
    let narrow = over_none (not (is_narrow u)) _ _ few.1 in
    let room : length ns + (p.counts.lifted + predicates_if r.body) ≤ capacity = ltb-false capacity _ full.0 in
    let grown : IsAtomTable ns = names_table p.table more table (omega (arith, room)) in
    subst (IsGood p) whole
    (record {
      table = grown;
      longer = length-extends p.table ns (extends-names p.table more);
      formed = can_be_rule ns grown n s w line (spelled_proper x.front x.tree) (is_so _ form.0) (ltb-false MAX_VARIABLES n few.0) (is_so _ narrow.0) out.0;
      away = λ a le. let long = table-long ns grown in halves_lack s a u (omega (arith, long, le)) (term_lacks ns a le w (spelled_held p.table x.front x.tree));
      counted = refl;
      room = room;
    })

open_good : (full : Bool) (s : Source) (p : Position) (ts : List Placed) (t : Taken) → IsAtomTable p.table → JudgesOpen full s p ts (Took t) → IsGood p t
open_good true s p ts t table h = absurd (clash _ t (sym h))
open_good false s p ts t table h = sentence_good s p (first_line ts) h.0 t table (sym h.2)

by_good : (bad : Option ℕ) (s : Source) (p : Position) (ts : List Placed) (t : Taken) → IsAtomTable p.table → JudgesBy bad s p ts (Took t) → IsGood p t
by_good (Some line) s p ts t table h = absurd (clash _ t (sym h))
by_good None s p ts t table h = open_good (nat_lt MAX_OPEN (most_open 0 ts)) s p ts t table h

pub judges_good : (s : Source) (text : Text) (p : Position) (piece : Piece) (t : Taken) → IsAtomTable p.table → Judges s text p piece (Took t) → IsGood p t
judges_good s text p piece t table h = by_good piece.bad s p (tokens text piece) t table h

-- ---- clauses one after another

pub record AreGood (p : Position) (rules : List Rule) : Type 0 where
  pub table : IsAtomTable p.table
  pub formed : AllByRecursion IsRule rules
  pub away : AllByRecursion (Away (length p.table)) rules
  pub counted : p.counts.lifted ≡ predicates_in rules
  pub room : length p.table + p.counts.lifted ≤ capacity

away_later : (n m : ℕ) → n ≤ m → (rs : List Rule) → AllByRecursion (Away n) rs → AllByRecursion (Away m) rs
away_later n m le [] h = tt
away_later n m le (r ∷ rs) h = (λ a past. h.0 a (omega (arith, le, past)), away_later n m le rs h.1)

one_more : (p : Position) (rules : List Rule) (t : Taken) → AreGood p rules → IsGood p t → AreGood t.after (rules ++ t.rule ∷ [])
one_more p rules t h k =
    record {
      table = k.table;
      formed = AllByRecursion-append IsRule rules (t.rule ∷ []) h.formed (k.formed, tt);
      away = AllByRecursion-append (Away (length t.after.table)) rules (t.rule ∷ []) (away_later (length p.table) (length t.after.table) k.longer rules h.away) (k.away, tt);
      counted = k.counted ∙ ap (λ n. n + predicates_if t.rule.body) h.counted ∙ sym (predicates_in-push rules t.rule);
      room = k.room;
    }

pub whole-is : {rules rules' : List Rule} {p p' : Position} → Whole rules p ≡ Whole rules' p' → (rules ≡ rules') × (p ≡ p')
whole-is e = (cc, cc)

pub stopped-whole : (r : Refusal) (rules : List Rule) (p : Position) → Whole rules p ≡ Stopped r → ⊥
stopped-whole r rules p e = cc

pub reads_good : (text : Text) (ps : List Piece) (p q : Position) (rules all : List Rule) → Reads text ps p rules (Whole all q) → AreGood p rules → AreGood q all
reads_good text [] p q rules all h k = let e = whole-is h in subst (AreGood q) (sym e.0) (subst (λ u. AreGood u rules) (sym e.1) k)
reads_good text (piece ∷ ps) p q rules all h k = go h.0 h.1 h.2 (λ p' rules' g k'. reads_good text ps p' q rules' all g k')
  where
    go : (v : Verdict) → Judges source.Program text p piece v → Goes (Reads text ps) rules v (Whole all q) → ((p' : Position) (rules' : List Rule) → Reads text ps p' rules' (Whole all q) → AreGood p' rules' → AreGood q all) → AreGood q all
    go (Refused r) j g on = absurd (stopped-whole r all q g)
    go (Took t) j g on = on t.after (rules ++ t.rule ∷ []) g (one_more p rules t k (judges_good source.Program text p piece t k.table j))
