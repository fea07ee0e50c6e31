-- The names of lifted predicates are fresh beside the clauses of a text and of a query.
use Rattle.std.proofs.Common.{◌≡◌, ℕ, zero, suc, ◌+◌, ◌-◌, ◌<◌, ◌≤◌, false, cond, List, [], ◌∷◌, ◌++◌, map, length, refl, sym, ap, subst, ◌∙◌, append_assoc, append-nil, arith, length-append, inl, inr}
use Rattle.std.specs.Prelude.{◌⊎◌, slice_index}
use Rattle.std.specs.List.{AllByRecursion}
use Rattle.std.proofs.lemmas.Bool.{lt-ltb, le-ltb, cases_lt}
use Rattle.ap_lexer.specs.Lexeme.{Text}
use Rattle.ap_lexer.specs.Piece.{pieces}
use Rattle.ap_term.specs.declared.fixed.TheConstants.{QUERY, COUNT}
use Rattle.ap_term.specs.AtomTable.{fixed_names, capacity, IsAtomTable}
use Rattle.ap_term.specs.Tree.{atom}
use Rattle.ap_term.proofs.NameTable.{table-fixed, table-long, table-push}
use Rattle.ap_term.proofs.Zips.{AllByRecursion-append}
use Rattle.ap_term.proofs.Facts.{below-other}
use Rattle.ap_lifting.specs.Rule.{Rule, IsRule}
use Rattle.ap_lifting.specs.Sizes.{predicates_if, predicates_in}
use Rattle.ap_lifting.specs.LiftingLaws.{is_named, AvoidsIf, AreFresh, supply, KeepsMeaning, MeaningLaw}
use Rattle.ap_lifting.proofs.Filled.{predicates_in-push}
use Rattle.ap_clause.specs.declared.source.Source.TheVariants as source
use Rattle.ap_clause.specs.Fresh.{AreNext, lift_name, with_lifted, atoms_from, names_by}
use Rattle.ap_clause.specs.Reads.{start, beside}
use Rattle.ap_clause.specs.TextMeaning.{TextMeaningLaw}
use Rattle.ap_clause.proofs.Names.{length-with_lifted}
use Rattle.ap_clause.proofs.Taken.{query_taken, judges_taken}
use Rattle.ap_clause.proofs.RulesRead.{Away, judges_good, reads_good}

-- ---- names of lifted predicates

name_at : (at : ℕ) (ks : List ℕ) (i : ℕ) → i < length ks → slice_index (atoms_from at ks) i ≡ at + i
name_at at [] i h = absurd (omega arith)
name_at at (k ∷ ks) zero h = let same : at ≡ at + 0 = omega arith in same
name_at at (k ∷ ks) (suc i) h = let next : (at + 1) + i ≡ at + suc i = omega arith in name_at (at + 1) ks i (omega arith) ∙ next

lifted_table : (table : List Text) (from : ℕ) (ks : List ℕ) → IsAtomTable table → AreNext table from ks → length table + length ks ≤ capacity → IsAtomTable (with_lifted table ks)
lifted_table table from [] h next room = subst IsAtomTable (sym (append-nil table)) h
lifted_table table from (k ∷ ks) h next room =
    let pushed = table-push table (lift_name k) h next.0.new (omega (arith, room)) in
    subst IsAtomTable (append_assoc table (lift_name k ∷ []) (map lift_name ks)) (lifted_table (table ++ lift_name k ∷ []) (k + 1) ks pushed next.1 (omega (arith, room, length-append table (lift_name k ∷ []))))

-- ---- they are fresh

module _ (P Q table : List Text) (ks js : List ℕ) (rules : List Rule) (q : Rule) (fixed : COUNT ≤ length P) (behind : length P + length ks ≤ length Q) (size : length table ≡ length P + length ks)
    (program : length ks ≡ predicates_in rules) (own : length js ≡ predicates_if q.body) (away : AllByRecursion (Away (length P)) rules) (apart : Away (length Q) q) (head : q.head ≡ atom QUERY)
    (calls : (a : ℕ) → length P ≤ a → a < length table → AvoidsIf a q.body) where
  abbrev pub name_of : ℕ → ℕ
  name_of = supply (predicates_in rules) (names_by P ks) (names_by Q js)

  name_low : (i : ℕ) → i < predicates_in rules → name_of i ≡ length P + i
  name_low i h = ap (λ b. cond b (names_by P ks i) (names_by Q js (i - predicates_in rules))) (lt-ltb i (predicates_in rules) h) ∙ name_at (length P) ks i (omega (arith, program, h))

  name_high : (i : ℕ) → predicates_in rules ≤ i → i < predicates_in rules + predicates_if q.body → name_of i ≡ length Q + (i - predicates_in rules)
  name_high i le h =
      ap (λ b. cond b (names_by P ks i) (names_by Q js (i - predicates_in rules))) (le-ltb i (predicates_in rules) le) ∙ name_at (length Q) js (i - predicates_in rules) (omega (arith, own, le, h))

  name_behind : (i : ℕ) → i < predicates_in rules + predicates_if q.body → length P ≤ name_of i
  name_behind i h = of (cases_lt i (predicates_in rules))
    where
      of : (i < predicates_in rules) ⊎ (predicates_in rules ≤ i) → length P ≤ name_of i
      of (inl lt) = omega (arith, name_low i lt)
      of (inr le) = omega (arith, name_high i le h, behind)

  name_once : (i j : ℕ) → i < predicates_in rules + predicates_if q.body → j < predicates_in rules + predicates_if q.body → name_of i ≡ name_of j → i ≡ j
  name_once i j h k e = of (cases_lt i (predicates_in rules)) (cases_lt j (predicates_in rules))
    where
      of : (i < predicates_in rules) ⊎ (predicates_in rules ≤ i) → (j < predicates_in rules) ⊎ (predicates_in rules ≤ j) → i ≡ j
      of (inl a) (inl b) = omega (arith, name_low i a, name_low j b, e)
      of (inl a) (inr b) = omega (arith, name_low i a, name_high j b k, e, behind, program, a)
      of (inr a) (inl b) = omega (arith, name_high i a h, name_low j b, e, behind, program, b)
      of (inr a) (inr b) = omega (arith, name_high i a h, name_high j b k, e)

  heads_away : (a : ℕ) → length P ≤ a → (rs : List Rule) → AllByRecursion (Away (length P)) rs → AllByRecursion (λ r. is_named a r.head ≡ false) rs
  heads_away a le [] h = tt
  heads_away a le (r ∷ rs) h = ((h.0 a le).0, heads_away a le rs h.1)

  goals_away : (a : ℕ) → length P ≤ a → (rs : List Rule) → AllByRecursion (Away (length P)) rs → AllByRecursion (λ r. AvoidsIf a r.body) rs
  goals_away a le [] h = tt
  goals_away a le (r ∷ rs) h = ((h.0 a le).1, goals_away a le rs h.1)

  own_head : (a : ℕ) → length P ≤ a → is_named a q.head ≡ false
  own_head a le = subst (λ t. is_named a t ≡ false) (sym head) (below-other QUERY a (omega (arith, fixed, le)))

  own_goals : (i : ℕ) → i < predicates_in rules + predicates_if q.body → AvoidsIf (name_of i) q.body
  own_goals i h = of (cases_lt i (predicates_in rules))
    where
      of : (i < predicates_in rules) ⊎ (predicates_in rules ≤ i) → AvoidsIf (name_of i) q.body
      of (inl lt) = calls (name_of i) (name_behind i h) (omega (arith, name_low i lt, size, program, lt))
      of (inr le) = (apart (name_of i) (omega (arith, name_high i le h))).1

  pub are_fresh : AreFresh name_of (predicates_in rules + predicates_if q.body) (rules ++ q ∷ [])
  are_fresh = record {
    fixed = λ i h. let le = name_behind i h in omega (arith, fixed, le);
    apart = name_once;
    heads = λ i h. AllByRecursion-append (λ r. is_named (name_of i) r.head ≡ false) rules (q ∷ []) (heads_away (name_of i) (name_behind i h) rules away) (own_head (name_of i) (name_behind i h), tt);
    goals = λ i h. AllByRecursion-append (λ r. AvoidsIf (name_of i) r.body) rules (q ∷ []) (goals_away (name_of i) (name_behind i h) rules away) (own_goals i h, tt);
  }

-- ---- a text and a query

pub text_meaning : MeaningLaw → TextMeaningLaw
text_meaning law text asked piece program table new query h k =
    let rules = h.0 in
    let p = h.1 in
    let ks = h.2 in
    let t = k.0 in
    let js = k.1 in
    let small : length fixed_names ≡ 84 = refl in
    let known = reads_good text (pieces text) (start fixed_names) p [] rules h.3 (record { table = table-fixed; formed = tt; away = tt; counted = refl; room = omega (arith, small) }) in
    let long : length table ≡ length p.table + length ks = ap length h.7 ∙ length-with_lifted p.table ks in
    let grown : IsAtomTable table = subst IsAtomTable (sym h.7) (lifted_table p.table 1 ks known.table h.4 (omega (arith, h.5, known.room))) in
    let own = judges_good source.Query asked (beside program table) piece t grown k.2 in
    let head = query_taken t (judges_taken source.Query asked (beside program table) piece t k.2) in
    let count = predicates_in-push rules t.rule in
    record {
      rules = rules;
      position = p;
      question = t;
      read = h.3;
      judged = k.2;
      meaning = λ calls.
          let fresh = are_fresh p.table t.after.table table ks js rules t.rule (table-long p.table known.table) (omega (arith, long, own.longer)) long (h.5 ∙ known.counted) (omega (arith, k.4, own.counted)) known.away own.away head calls in
          subst (λ u. KeepsMeaning (rules ++ t.rule ∷ []) t.rule u query) (sym h.6)
          (law rules t.rule (names_by p.table ks) (names_by t.after.table js) (predicates_in rules + predicates_if t.rule.body) query (AllByRecursion-append IsRule rules (t.rule ∷ []) known.formed (own.formed, tt))
          fresh (omega (arith, count)) (ap (λ u. u.question) k.5) (ap (λ u. u.lifted) k.5));
    }
