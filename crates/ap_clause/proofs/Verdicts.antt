-- Verdicts on what the tokens of a piece spell.
use Rattle.std.proofs.Common.{◌≡◌, ℕ, ◌+◌, ◌≤◌, ◌<◌, Bool, true, List, [], map, length, Option, Some, None, Result, Ok, Err, sym, ap, subst, ◌∙◌, inl, inr, arith}
use Rattle.std.specs.Prelude.{nat_lt, not, ◌⊎◌}
use Rattle.std.proofs.lemmas.Bool.{lt-ltb, le-ltb}
use Rattle.ap_lexer.specs.Lexeme.{Text}
use Rattle.ap_lexer.specs.Token.{Placed}
use Rattle.ap_term.specs.AtomTable.{insert_names, capacity, IsAtomTable}
use Rattle.ap_term.specs.Tree as term
use Rattle.ap_term.specs.TermView.{tree_of}
use Rattle.ap_reader.specs.declared.written.WrittenTerm.{WrittenTerm}
use Rattle.ap_term.specs.declared.terms.Term.{Term}
use Rattle.ap_reader.specs.declared.written.TheConstants.{MAX_OPEN}
use Rattle.ap_reader.specs.declared.depth.TheConstants.{MAX_DEPTH}
use Rattle.ap_reader.specs.Bracket.{most_open}
use Rattle.ap_reader.specs.Grammar.{Tree}
use Rattle.ap_reader.specs.Step.{postfix}
use Rattle.ap_reader.specs.Written.{Written, leaves, leaf_of, variables, meaning}
use Rattle.ap_reader.specs.Depth.{depth}
use Rattle.ap_reader.specs.Build.{names, term_in}
use Rattle.ap_reader.specs.Reading.{StandsFor, Spells, BuiltTerm, term_of, first_line}
use Rattle.ap_reader.specs.Leaves.{texts}
use Rattle.ap_lifting.specs.Sizes.{predicates_if}
use Rattle.ap_clause.specs.declared.form.Form.{Form}
use Rattle.ap_clause.specs.declared.judge.Counts.{Counts}
use Rattle.ap_clause.specs.declared.judge.Read.{Read}
use Rattle.ap_clause.specs.declared.refusal.Refusal.{Refusal}
use Rattle.ap_clause.specs.declared.refusal.Refusal.TheVariants as refusal
use Rattle.ap_clause.specs.declared.source.Source.{Source}
use Rattle.ap_clause.specs.Shape.{form_of}
use Rattle.ap_clause.specs.Clause.{halves, rule_of}
use Rattle.ap_clause.specs.Outside.{first_outside}
use Rattle.ap_clause.specs.Limit.{passed}
use Rattle.ap_clause.specs.Reads.{Verdict, Refused, Took, Sentence, fits, refused_if, refused_outside, refused_past, judged_term, judged_sentence, Position, JudgesOpen, JudgesBy}
use Rattle.ap_clause.specs.Verdict.{CanBeRule, position, Gives}
use Rattle.ap_clause.proofs.Proper.{spelled_proper}
use Rattle.ap_clause.proofs.CanBe.{can_be_rule}

pub gives : (J K : Verdict → Type 0) (table : List Text) (r : Result Read Refusal) → ((v : Verdict) → J v → K v) → Gives J table r → Gives K table r
gives J K table (Ok r) f h = f _ h
gives J K table (Err e) f (inl h) = inl h
gives J K table (Err e) f (inr h) = inr (f _ h)

more_below : (m n k : ℕ) → m < n → nat_lt m (n + k) ≡ true
more_below m n k h = lt-ltb m (n + k) (omega arith)

module _ (source : Source) (before : Counts) (old : List Text) (front : List Placed) (t : Tree) (line : ℕ) where
  abbrev x : Written
  x = term_of front t

  abbrev s : Sentence
  s = record { front = front; tree = t }

  abbrev table : List Text
  table = insert_names old (names (leaves [] front) (postfix t))

  abbrev by_term : Verdict
  by_term = judged_term source before table (variables [] front) line (term_in table x)

  abbrev pub by_depth : Verdict
  by_depth = refused_if (nat_lt MAX_DEPTH (depth x)) (refusal.TooDeep line) by_term

  fitting : fits source x ≡ true → by_depth ≡ judged_sentence source (position old before) line s
  fitting e = sym (ap (λ b. refused_if (not b) (refusal.NotAClause line) by_depth) e)

  pub too_deep : fits source x ≡ true → MAX_DEPTH < depth x → Refused (refusal.TooDeep line) ≡ judged_sentence source (position old before) line s
  too_deep e h = sym (ap (λ b. refused_if b (refusal.TooDeep line) by_term) (lt-ltb MAX_DEPTH (depth x) h)) ∙ fitting e

  pub on_term : fits source x ≡ true → depth x ≤ MAX_DEPTH → by_term ≡ judged_sentence source (position old before) line s
  on_term e h = sym (ap (λ b. refused_if b (refusal.TooDeep line) by_term) (le-ltb MAX_DEPTH (depth x) h)) ∙ fitting e

  pub too_many : fits source x ≡ true → depth x ≤ MAX_DEPTH → capacity < length table → Refused (refusal.TooManyAtoms line) ≡ judged_sentence source (position old before) line s
  too_many e h k =
      let r = rule_of (halves source (term_in table x)) (length (variables [] front)) line in
      let lifted = before.lifted + predicates_if r.body in
      let rest = refused_outside (first_outside source (halves source (term_in table x))) line (refused_past (passed source (term_in table x) r before.clauses) line (Took (record { rule = r; names = variables [] front; after = record { table = table; counts = record { lifted = lifted; clauses = _ } } }))) in
      sym (ap (λ b. refused_if b (refusal.TooManyAtoms line) rest) (more_below capacity (length table) lifted k)) ∙ on_term e h

-- what stands for the tree, and its parts
module _ (source : Source) (before : Counts) (old new : List Text) (front : List Placed) (t : Tree) (w : WrittenTerm) (stands : StandsFor front t w) where
  abbrev ls : List Written
  ls = map leaf_of w.leaves.items

  pub fits_is : (f : Form) (b : Bool) → ((u : Tree) → w.steps.items ≡ postfix u → f ≡ form_of (meaning ls u)) → ((y : Written) → f ≡ form_of y → b ≡ fits source y) → fits source (term_of front t) ≡ b
  fits_is f b form same = sym (same (term_of front t) (form t stands.steps ∙ ap (λ xs. form_of (meaning xs t)) stands.leaves_are))

  pub built_rule : (r : Term) → IsAtomTable new → fits source (term_of front t) ≡ true → BuiltTerm ls t w.line old new (Ok r) → CanBeRule source (tree_of r) (length (texts w.names.items)) w.line
  built_rule r table e b =
      let there = subst (λ xs. BuiltTerm xs t w.line old new (Ok r)) stands.leaves_are b in
      let rule = can_be_rule new table (length (variables [] front)) source (term_of front t) w.line (spelled_proper front t) e in
      let P : term.Tree → Type 0 = λ u. CanBeRule source u (length (variables [] front)) w.line in
      let Q : List Text → Type 0 = λ vs. CanBeRule source (tree_of r) (length vs) w.line in
      subst Q (sym stands.variables_are) (subst P (sym there.3) rule)

-- what is judged of the tree that tokens spell is judged of the piece
pub judges_open : (source : Source) (p : Position) (ts front : List Placed) (t : Tree) (line : ℕ) → most_open 0 ts ≤ MAX_OPEN → line ≡ first_line ts → Spells ts front t → (v : Verdict) → v ≡ judged_sentence source p line (record { front = front; tree = t }) → JudgesOpen (nat_lt MAX_OPEN (most_open 0 ts)) source p ts v
judges_open source p ts front t line few first spells v e =
    let s : Sentence = record { front = front; tree = t } in
    subst (λ b. JudgesOpen b source p ts v) (sym (le-ltb MAX_OPEN (most_open 0 ts) few)) (Some s, spells, e ∙ ap (λ l. judged_sentence source p l s) first)

-- tokens that spell nothing are no clause
pub judges_none : (source : Source) (p : Position) (ts : List Placed) (line : ℕ) → most_open 0 ts ≤ MAX_OPEN → line ≡ first_line ts → ((front : List Placed) (t : Tree) → Spells ts front t → ⊥) → JudgesOpen (nat_lt MAX_OPEN (most_open 0 ts)) source p ts (Refused (refusal.NotAClause line))
judges_none source p ts line few first none =
    subst (λ b. JudgesOpen b source p ts (Refused (refusal.NotAClause line))) (sym (le-ltb MAX_OPEN (most_open 0 ts) few)) (None, none, ap (λ l. Refused (refusal.NotAClause l)) first)

-- so is what is judged of tokens none of which is bad
pub judges_by : (bad : Option ℕ) (source : Source) (p : Position) (us ts : List Placed) (v : Verdict) → bad ≡ None → us ≡ ts → JudgesBy None source p us v → JudgesBy bad source p ts v
judges_by bad source p us ts v none e h = subst (λ b. JudgesBy b source p ts v) (sym none) (subst (λ xs. JudgesBy None source p xs v) e h)

pub refused_by : (bad : Option ℕ) (source : Source) (p : Position) (us ts : List Placed) (r : Refusal) → bad ≡ None → us ≡ ts → (r ≡ refusal.NoMemory) ⊎ ((s : Source) (q : Position) → JudgesBy None s q us (Refused r)) → (r ≡ refusal.NoMemory) ⊎ JudgesBy bad source p ts (Refused r)
refused_by bad source p us ts r none e (inl h) = inl h
refused_by bad source p us ts r none e (inr h) = inr (judges_by bad source p us ts (Refused r) none e (h source p))
