-- A printed clause is read as the clause.
use Rattle.std.proofs.Common.{◌≡◌, ℕ, ◌+◌, ◌<◌, ◌^◌, not, Bool, true, false, List, [], ◌∷◌, ◌++◌, codes, map, length, drop, Option, Some, None, refl, ap, sym, subst, ◌∙◌, append_assoc, append-nil, arith}
use Rattle.std.specs.Prelude.{nat_lt, Contains}
use Rattle.std.specs.Str.{IsUtf8}
use Rattle.ap_lexer.specs.declared.cut.Piece as code
use Rattle.ap_lexer.specs.Lexeme.{Text, lexemes}
use Rattle.ap_lexer.specs.Piece.{pieces}
use Rattle.ap_lexer.specs.Token.{Placed, tokens}
use Rattle.ap_lexer.specs.Law.{Spelled, unplaced, spelled}
use Rattle.ap_lexer.proofs.Places.{reads_without_places}
use Rattle.ap_term.specs.AtomTable.{insert_names, capacity, IsAtomTable}
use Rattle.ap_term.specs.Substitution.{instance}
use Rattle.ap_term.specs.UpToNames.{place}
use Rattle.ap_term.specs.Blocks.{IsPrefix}
use Rattle.ap_term.specs.Goals.{Clause}
use Rattle.ap_term.proofs.Lists.{prefix-refl}
use Rattle.ap_writer.specs.Text as text
use Rattle.ap_writer.specs.Text.{numbered_by}
use Rattle.ap_reader.specs.declared.written.TheConstants.{MAX_OPEN}
use Rattle.ap_reader.specs.declared.depth.TheConstants.{MAX_DEPTH}
use Rattle.ap_reader.specs.Bracket.{most_open}
use Rattle.ap_reader.specs.Grammar as grammar
use Rattle.ap_reader.specs.Grammar.{Tree, IsWhole}
use Rattle.ap_reader.specs.Step.{postfix}
use Rattle.ap_reader.specs.Written.{leaves, variables, meaning}
use Rattle.ap_reader.specs.Depth.{depth}
use Rattle.ap_reader.specs.Build.{names as term_names, term_in}
use Rattle.ap_reader.specs.Reading.{first_line, Spells, term_of}
use Rattle.ap_reader.proofs.Complete.{one}
use Rattle.ap_reader.proofs.Tables.{insert_names-append}
use Rattle.ap_lifting.specs.Rule.{Rule}
use Rattle.ap_lifting.specs.Lifted.{lifted_rule}
use Rattle.ap_lifting.specs.Sizes.{predicates_if}
use Rattle.ap_clause.specs.Clause.{halves, Halves, rule_of}
use Rattle.ap_clause.specs.Outside.{first_outside}
use Rattle.ap_clause.specs.Limit.{passed}
use Rattle.ap_clause.specs.declared.refusal.What.{What}
use Rattle.ap_clause.specs.declared.refusal.Refusal.{Refusal}
use Rattle.ap_clause.specs.declared.refusal.Refusal.TheVariants as refusal
use Rattle.ap_clause.specs.declared.source.Source.TheVariants as source
use Rattle.ap_clause.specs.Reads.{Position, Taken, Verdict, Refused, Took, Sentence, IsSentence, fits, table_after, refused_if, refused_outside, refused_past, judged_sentence, judged, JudgesOpen, JudgesBy, Judges}
use Rattle.ap_clause.proofs.Taken.{took}
use Rattle.ap_cge.specs.Printed.{line_of}
use Rattle.ap_cge.proofs.Terms.{AreBytes}
use Rattle.ap_readback.specs.Unplaced.{words_of, leaves_of}
use Rattle.ap_readback.specs.Phrase.{Phrase, IsPhrase, phrase_text, phrase_tokens, phrase_vars, phrase_written}
use Rattle.ap_readback.specs.Readback.{read_part, line_vars, IsPrintable}
use Rattle.ap_readback.proofs.Unplaced.{words-front, leaves-front}
use Rattle.ap_readback.proofs.Variables.{names_of}
use Rattle.ap_readback.proofs.Phrases.{phrase-stands, phrase-seen, rank-few}
use Rattle.ap_readback.proofs.PhraseTexts.{end_token, sentence-spelled, stop-phrase}
use Rattle.ap_readback.proofs.Pieces.{clause_phrase, for-clause, line-text, line-vars}
use Rattle.ap_readback.proofs.Bodies.{only_parts, value_of}
use Rattle.ap_readback.proofs.Rules.{clause-value, lifted-clause, body_if}
use Rattle.ap_readback.proofs.Counts.{vars-counted}

-- ---- what the tokens of a phrase are read as

-- the term that a phrase's sentence is, and the names of its variables
record IsSentenceOf (names : List Text) (p : Phrase) (front : List Placed) (t : Tree) : Type 0 where
  term : term_of front t ≡ phrase_written names (phrase_vars names p []) p
  vars : variables [] front ≡ names_of (phrase_vars names p [])

sentence-of : (names : List Text) (p : Phrase) (ts front : List Placed) (t : Tree) → IsPhrase names p → unplaced ts ≡ phrase_tokens names p true ++ end_token ∷ [] → Spells ts front t → IsSentenceOf names p front t
sentence-of names p ts front t rules plain s =
    let later : List ℕ = phrase_vars names p [] in
    let xs : List Spelled = phrase_tokens names p true in
    let last : Placed = s.ends.0 in
    let here : unplaced (front ++ last ∷ []) ≡ xs ++ end_token ∷ [] = ap unplaced (sym s.ends.2) ∙ plain in
    let leaves_are = leaves-front front last xs end_token [] here in
    let stands = phrase-stands names later p [] rules tt (prefix-refl later) true None 0 [] refl in
    let spelling : grammar.spelled stands.tree ≡ words_of None 0 xs = sym (ap (words_of None 0) (sym (append-nil xs)) ∙ stands.spelling ∙ append-nil (grammar.spelled stands.tree)) in
    let whole : IsWhole stands.tree = (omega (arith, stands.small, rank-few p), stands.rules) in
    let same : t ≡ stands.tree = one t stands.tree s.rules whole (s.spelling ∙ words-front front last xs end_token None 0 here ∙ sym spelling) in
    record {
      term = ap (meaning (leaves [] front)) same ∙ stands.means (leaves [] front) [] (leaves_are.0 ∙ sym (append-nil (leaves_of [] xs)));
      vars = leaves_are.1 ∙ phrase-seen names later p [] true rules tt;
    }

-- ---- a sentence that was taken

clash : {t : Taken} {r : Refusal} → Took t ≡ Refused r → ⊥
clash e = cc

past_if : (b : Bool) (r : Refusal) (v : Verdict) (t : Taken) → Took t ≡ refused_if b r v → Took t ≡ v
past_if true r v t e = absurd (clash e)
past_if false r v t e = e

past_outside : (o : Option ℕ) (line : ℕ) (v : Verdict) (t : Taken) → Took t ≡ refused_outside o line v → Took t ≡ v
past_outside None line v t e = e
past_outside (Some a) line v t e = absurd (clash e)

past_size : (o : Option What) (line : ℕ) (v : Verdict) (t : Taken) → Took t ≡ refused_past o line v → Took t ≡ v
past_size None line v t e = e
past_size (Some a) line v t e = absurd (clash e)

-- the rule that was taken, and the table behind it
record IsTaken (position : Position) (s : Sentence) (t : Taken) : Type 0 where
  line : ℕ
  rule : t.rule ≡ rule_of (halves source.Program (term_in (table_after position s) (term_of s.front s.tree))) (length (variables [] s.front)) line
  table : t.after.table ≡ table_after position s

taken-sentence : (position : Position) (at : ℕ) (s : Sentence) (t : Taken) → Took t ≡ judged_sentence source.Program position at s → IsTaken position s t
taken-sentence position at s t e =
    let x = term_of s.front s.tree in
    let vs = variables [] s.front in
    let table = table_after position s in
    let tree = term_in table x in
    let h = halves source.Program tree in
    let r = rule_of h (length vs) at in
    let e1 = past_if (not (fits source.Program x)) (refusal.NotAClause at) _ t e in
    let e2 = past_if (nat_lt MAX_DEPTH (depth x)) (refusal.TooDeep at) _ t e1 in
    let e3 = past_if (nat_lt capacity (length table + (position.counts.lifted + predicates_if r.body))) (refusal.TooManyAtoms at) _ t e2 in
    let e4 = past_outside (first_outside source.Program h) at _ t e3 in
    let e5 = took (past_size (passed source.Program tree r position.counts.clauses) at _ t e4) in
    record { line = at; rule = ap (λ (u : Taken). u.rule) e5; table = ap (λ (u : Taken). u.after.table) e5 }

taken-open : (b : Bool) (position : Position) (ts : List Placed) (t : Taken) → JudgesOpen b source.Program position ts (Took t) → (s : Sentence) × Spells ts s.front s.tree × IsTaken position s t
taken-open true position ts t h = absurd (clash h)
taken-open false position ts t h = go h.0 h.1 h.2
  where
    go : (o : Option Sentence) → IsSentence ts o → Took t ≡ judged source.Program position (first_line ts) o → (s : Sentence) × Spells ts s.front s.tree × IsTaken position s t
    go None k e = absurd (clash e)
    go (Some s) k e = (s, k, taken-sentence position (first_line ts) s t e)

taken-by : (bad : Option ℕ) (position : Position) (ts : List Placed) (t : Taken) → JudgesBy bad source.Program position ts (Took t) → (bad ≡ None) × ((s : Sentence) × Spells ts s.front s.tree × IsTaken position s t)
taken-by None position ts t h = (refl, taken-open (nat_lt MAX_OPEN (most_open 0 ts)) position ts t h)
taken-by (Some line) position ts t h = absurd (clash h)

-- ---- a clause

-- The rule is the clause, its variables by first occurrence, and nothing is lifted from it; the table goes on from that
-- of the clause.
pub record IsReadAs (names : List Text) (c : Clause) (rule : Rule) (table : List Text) : Type 0 where
  pub head : rule.head ≡ instance (numbered_by (line_vars names c)) c.head
  pub vars : rule.vars ≡ c.vars
  pub body : (f : ℕ → ℕ) (k : ℕ) → lifted_rule f rule k ≡ only_parts (map (read_part (line_vars names c)) c.body) k
  pub added : List Text
  pub grown : table ≡ insert_names names added

length-map : (f : ℕ → Text) (xs : List ℕ) → length (map f xs) ≡ length xs
length-map f [] = refl
length-map f (x ∷ xs) = omega (arith, length-map f xs)

length-places : (f : ℕ → ℕ) (xs : List ℕ) → length (map f xs) ≡ length xs
length-places f [] = refl
length-places f (x ∷ xs) = omega (arith, length-places f xs)

rule-is : (names added : List Text) (is_table : IsAtomTable names) (c : Clause) (r : Rule) (table : List Text) (later : List ℕ) → IsPrintable names c → (few : length (line_vars names c) + 1 < 2 ^ 64)
    → (again : later ≡ map (place (line_vars names c)) (line_vars names c)) → table ≡ insert_names names added → (line : ℕ)
    → r ≡ rule_of (halves source.Program (value_of names added is_table later (clause_phrase names (line_vars names c) c))) c.vars line → IsReadAs names c r table
rule-is names added is_table c r table later h few again grown line e =
    let found : List ℕ = line_vars names c in
    let value = clause-value names added is_table found later few again c.vars h.all c h refl in
    let is : r ≡ rule_of (instance (numbered_by found) c.head, body_if names added is_table found later few again c.vars h.all c.body) c.vars line = e ∙ ap (λ (v : Halves). rule_of v c.vars line) value in
    record {
      head = ap (λ (x : Rule). x.head) is;
      vars = ap (λ (x : Rule). x.vars) is;
      body = λ f k. ap (λ (x : Rule). lifted_rule f x k) is ∙ lifted-clause names added is_table found later few again c.vars h.all f c.vars line k c.body h.parts;
      added = added;
      grown = grown;
    }

pub clause-read : (names before : List Text) (all : Text) (p : code.Piece) (position : Position) (t : Taken) (c : Clause) (rest : Text) → IsAtomTable names → ((a : ℕ) → IsUtf8 (text.name_at names a)) → IsPrintable names c
    → AreBytes (line_of names c ++ rest) → Contains (pieces all) p → drop p.from all ≡ line_of names c ++ rest → position.table ≡ insert_names names before
    → Judges source.Program all position p (Took t) → IsReadAs names c t.rule t.after.table
clause-read names before all p position t c rest is_table are_text h bytes member here grows judges =
    let found : List ℕ = line_vars names c in
    let phrase : Phrase = clause_phrase names found c in
    let counted : length found ≡ c.vars = vars-counted names c h.clause h.all in
    let few : length found + 1 < 2 ^ 64 = omega (arith, counted, h.clause.few) in
    let is = for-clause names found is_table few c h in
    let line : line_of names c ≡ phrase_text names phrase ++ codes ".\n" = line-text names c phrase is in
    let whole : line_of names c ++ rest ≡ phrase_text names phrase ++ (codes ".\n" ++ rest) = ap (λ l. l ++ rest) line ∙ append_assoc (phrase_text names phrase) (codes ".\n") rest in
    let taken = taken-by p.bad position (tokens all p) t judges in
    let s = taken.1.0 in
    let tokens_are : unplaced (tokens all p) ≡ phrase_tokens names phrase true ++ end_token ∷ [] =
    reads_without_places all p member taken.0 ∙ ap (λ l. spelled l (lexemes l)) (here ∙ whole)
    ∙ sentence-spelled (phrase_text names phrase) (phrase_tokens names phrase) rest (stop-phrase names are_text phrase is.rules) (subst AreBytes whole bytes) in
    let sentence = sentence-of names phrase (tokens all p) s.front s.tree is.rules tokens_are taken.1.1 in
    let later : List ℕ = phrase_vars names phrase [] in
    let front_vars = line-vars names c in
    let again : later ≡ map (place found) found =
    is.vars [] (subst (λ l. IsPrefix l found) front_vars (prefix-refl found)) ∙ ap (map (place found)) (sym front_vars) in
    let more : List Text = term_names (leaves [] s.front) (postfix s.tree) in
    let table : table_after position s ≡ insert_names names (before ++ more) = ap (λ l. insert_names l more) grows ∙ sym (insert_names-append names before more) in
    let many : length (variables [] s.front) ≡ c.vars = ap length sentence.vars ∙ length-map _ later ∙ ap length again ∙ length-places (place found) found ∙ counted in
    let rule : t.rule ≡ rule_of (halves source.Program (value_of names (before ++ more) is_table later phrase)) c.vars taken.1.2.line =
    taken.1.2.rule ∙ ap (λ l. rule_of (halves source.Program (term_in l (term_of s.front s.tree))) (length (variables [] s.front)) taken.1.2.line) table
    ∙ ap (λ x. rule_of (halves source.Program (term_in (insert_names names (before ++ more)) x)) (length (variables [] s.front)) taken.1.2.line) sentence.term
    ∙ ap (λ n. rule_of (halves source.Program (value_of names (before ++ more) is_table later phrase)) n taken.1.2.line) many in
    rule-is names (before ++ more) is_table c t.rule t.after.table later h few again (taken.1.2.table ∙ table) taken.1.2.line rule
