-- A printed program is read as the program.
use Rattle.std.proofs.Common.{◌≡◌, ℕ, ◌+◌, ◌<◌, ◌^◌, true, List, [], ◌∷◌, ◌++◌, codes, map, length, length-append, drop, None, refl, ap, sym, subst, ◌∙◌, append_assoc, append-nil, arith}
use Rattle.std.specs.Prelude.{Contains}
use Rattle.std.specs.List.{AllByRecursion}
use Rattle.std.specs.Str.{IsUtf8}
use Rattle.std.proofs.Math.Seq.{drop-append_seam}
use Rattle.std.proofs.lemmas.List.{drop-drop}
use Rattle.std.proofs.lemmas.List.Elements.{Contains-append_right}
use Rattle.ap_lexer.specs.declared.cut.Piece as code
use Rattle.ap_lexer.specs.Lexeme.{Text, lexemes}
use Rattle.ap_lexer.specs.Piece.{piece, pieces, pieces_from}
use Rattle.ap_lexer.proofs.Lexemes.{lexemes-nil}
use Rattle.ap_term.specs.AtomTable.{insert_names, IsAtomTable}
use Rattle.ap_term.specs.Goals.{Clause, Program}
use Rattle.ap_writer.specs.Text as text
use Rattle.ap_lifting.specs.Rule.{Rule}
use Rattle.ap_lifting.specs.Lifted.{Lifted, LiftedRules, with_rule, lifted_rules, lifted_program}
use Rattle.ap_clause.specs.declared.refusal.Refusal.{Refusal}
use Rattle.ap_clause.specs.declared.source.Source.TheVariants as source
use Rattle.ap_clause.specs.Reads.{Position, Taken, Verdict, Refused, Took, Judges, Stopped, Whole, Goes, Reads, start, AcceptsProgram}
use Rattle.ap_clause.specs.Fresh.{names_by}
use Rattle.ap_cge.specs.Printed.{line_of}
use Rattle.ap_cge.proofs.Terms.{AreBytes, bytes-behind}
use Rattle.ap_readback.specs.Phrase.{Phrase, phrase_text, phrase_tokens}
use Rattle.ap_readback.specs.Readback.{read_part, read_clause, line_vars, IsPrintable, program_text, IsReadBack}
use Rattle.ap_readback.proofs.PhraseTexts.{sentence-piece, stop-phrase}
use Rattle.ap_readback.proofs.Pieces.{clause_phrase, for-clause, line-text}
use Rattle.ap_readback.proofs.Bodies.{only_parts}
use Rattle.ap_readback.proofs.Counts.{vars-counted}
use Rattle.ap_readback.proofs.Clauses.{IsReadAs, clause-read}

-- ---- one line

module _ (names : List Text) (is_table : IsAtomTable names) (are_text : (a : ℕ) → IsUtf8 (text.name_at names a)) where
  -- a clause's line is one piece, and the next one begins behind it
  line-piece : (whole : Text) (at : ℕ) (c : Clause) (rest : Text) → IsPrintable names c → AreBytes (line_of names c ++ rest)
      → (q : code.Piece) × (q.from ≡ at) × (pieces_from whole at None (lexemes (line_of names c ++ rest)) ≡ q ∷ pieces_from whole (at + length (line_of names c)) None (lexemes rest))
  line-piece whole at c rest h bytes =
      let found : List ℕ = line_vars names c in
      let phrase : Phrase = clause_phrase names found c in
      let few : length found + 1 < 2 ^ 64 = omega (arith, vars-counted names c h.clause h.all, h.clause.few) in
      let is = for-clause names found is_table few c h in
      let line : line_of names c ≡ phrase_text names phrase ++ codes ".\n" = line-text names c phrase is in
      let all : line_of names c ++ rest ≡ phrase_text names phrase ++ (codes ".\n" ++ rest) = ap (λ l. l ++ rest) line ∙ append_assoc (phrase_text names phrase) (codes ".\n") rest in
      let n : ℕ = length (phrase_text names phrase) in
      let place : ((at + n) + 1) + 1 ≡ at + length (line_of names c) = omega (arith, ap length line, length-append (phrase_text names phrase) (codes ".\n")) in (
        piece whole at ((at + n) + 1) true None,
        refl,
        ap (λ l. pieces_from whole at None (lexemes l)) all
            ∙ sentence-piece whole at (phrase_text names phrase) (phrase_tokens names phrase) rest (stop-phrase names are_text phrase is.rules) (subst AreBytes all bytes)
            ∙ ap (λ m. piece whole at ((at + n) + 1) true None ∷ pieces_from whole m None (lexemes rest)) place,
      )

  -- ---- one clause after another

  abbrev AreReadAs : Program → List Rule → Type 0
  AreReadAs [] [] = Unit {0}
  AreReadAs [] (r ∷ rs) = ⊥
  AreReadAs (c ∷ cs) [] = ⊥
  AreReadAs (c ∷ cs) (r ∷ rs) = ((table : List Text) × IsReadAs names c r table) × AreReadAs cs rs

  whole-rules : {rs ss : List Rule} {p q : Position} → Whole rs p ≡ Whole ss q → rs ≡ ss
  whole-rules e = cc

  no_stop : {rs : List Rule} {p : Position} {r : Refusal} → Whole rs p ≡ Stopped r → ⊥
  no_stop e = cc

  clauses-read : (a : Program) (whole : Text) (done : List code.Piece) (at : ℕ) (before : List Text) (position : Position) (old rules : List Rule) (p : Position) → AllByRecursion (IsPrintable names) a → AreBytes (program_text names a)
      → drop at whole ≡ program_text names a → pieces whole ≡ done ++ pieces_from whole at None (lexemes (program_text names a)) → position.table ≡ insert_names names before
      → Reads whole (pieces_from whole at None (lexemes (program_text names a))) position old (Whole rules p) → (new : List Rule) × (rules ≡ old ++ new) × AreReadAs a new
  clauses-read [] whole done at before position old rules p h bytes here known grows reads =
      ([], whole-rules (subst (λ l. Reads whole (pieces_from whole at None l) position old (Whole rules p)) lexemes-nil reads) ∙ sym (append-nil old), tt)
  clauses-read (c ∷ a) whole done at before position old rules p h bytes here known grows reads =
      let line : Text = line_of names c in
      let rest : Text = program_text names a in
      let one = line-piece whole at c rest h.0 bytes in
      let q : code.Piece = one.0 in
      let later : List code.Piece = pieces_from whole (at + length line) None (lexemes rest) in
      let all : pieces whole ≡ done ++ q ∷ later = known ∙ ap (λ l. done ++ l) one.2 in
      let member : Contains (pieces whole) q = subst (λ l. Contains l q) (sym all) (Contains-append_right done (q ∷ later) q (0, omega arith, refl)) in
      let behind : drop (at + length line) whole ≡ rest = sym (drop-drop (length line) at whole) ∙ ap (drop (length line)) here ∙ drop-append_seam line rest in
      let moved : pieces whole ≡ (done ++ q ∷ []) ++ later = all ∙ sym (append_assoc done (q ∷ []) later) in
      let there : drop q.from whole ≡ line ++ rest = ap (λ n. drop n whole) one.1 ∙ here in
      let judged = subst (λ l. Reads whole l position old (Whole rules p)) one.2 reads in
      go later q judged.0 (λ t j. clause-read names before whole q position t c rest is_table are_text h.0 bytes member there grows j)
      (λ t table grown r. clauses-read a whole (done ++ q ∷ []) (at + length line) table t.after (old ++ t.rule ∷ []) rules p h.1 (bytes-behind line rest bytes) behind moved grown r) judged.1 judged.2
    where
      go : (later : List code.Piece) (q : code.Piece) (v : Verdict) → ((t : Taken) → Judges source.Program whole position q (Took t) → IsReadAs names c t.rule t.after.table)
          → ((t : Taken) (table : List Text) → t.after.table ≡ insert_names names table → Reads whole later t.after (old ++ t.rule ∷ []) (Whole rules p) → (new : List Rule) × (rules ≡ (old ++ t.rule ∷ []) ++ new) × AreReadAs a new)
          → Judges source.Program whole position q v → Goes (Reads whole later) old v (Whole rules p) → (new : List Rule) × (rules ≡ old ++ new) × AreReadAs (c ∷ a) new
      go later q (Refused r) first next judges goes = absurd (no_stop goes)
      go later q (Took t) first next judges goes =
          let is = first t judges in
          let others = next t is.added is.grown goes in
          (t.rule ∷ others.0, others.1 ∙ append_assoc old (t.rule ∷ []) others.0, ((t.after.table, is), others.2))

  -- ---- nothing is lifted

  abbrev of_clause : Clause → Rule → Clause
  of_clause c r = read_clause names r.line c

  abbrev read_clauses : Program → List Rule → List Clause
  read_clauses [] rs = []
  read_clauses (c ∷ cs) [] = []
  read_clauses (c ∷ cs) (r ∷ rs) = of_clause c r ∷ read_clauses cs rs

  lifted-none : (f : ℕ → ℕ) (a : Program) (rs : List Rule) (n : ℕ) → AreReadAs a rs → lifted_rules f rs n ≡ record { clauses = read_clauses a rs; lifted = [] }
  lifted-none f [] [] n h = refl
  lifted-none f [] (r ∷ rs) n h = absurd h
  lifted-none f (c ∷ cs) [] n h = absurd h
  lifted-none f (c ∷ cs) (r ∷ rs) n h =
      let is = h.0.1 in
      let made : List Clause = read_clauses cs rs in
      ap (λ (x : Lifted). with_rule r x (lifted_rules f rs x.next)) (is.body f n)
      ∙ ap (with_rule r (only_parts (map (read_part (line_vars names c)) c.body) n)) (lifted-none f cs rs n h.1)
      ∙ ap (λ t. record { clauses = record { head = t; body = map (read_part (line_vars names c)) c.body; vars = r.vars; line = r.line } ∷ made; lifted = [] }) is.head
      ∙ ap (λ v. record { clauses = record { head = (of_clause c r).head; body = map (read_part (line_vars names c)) c.body; vars = v; line = r.line } ∷ made; lifted = [] }) is.vars

  are-back : (a : Program) (rs : List Rule) → AreReadAs a rs → IsReadBack names a (read_clauses a rs)
  are-back [] [] h = tt
  are-back [] (r ∷ rs) h = absurd h
  are-back (c ∷ cs) [] h = absurd h
  are-back (c ∷ cs) (r ∷ rs) h = ((r.line, refl), are-back cs rs h.1)

  pub program-read : (a program : Program) (new : List Text) → AllByRecursion (IsPrintable names) a → AreBytes (program_text names a) → AcceptsProgram (program_text names a) names program new → IsReadBack names a program
  program-read a program new h bytes accepts =
      let whole : Text = program_text names a in
      let rules = accepts.0 in
      let read = clauses-read a whole [] 0 [] (start names) [] rules accepts.1 h bytes refl refl refl accepts.3 in
      let same : rules ≡ read.0 = read.1 in
      let f : ℕ → ℕ = names_by accepts.1.table accepts.2 in
      let is : program ≡ read_clauses a read.0 =
      accepts.6 ∙ ap (lifted_program f) same ∙ ap (λ (x : LiftedRules). x.clauses ++ x.lifted) (lifted-none f a read.0 0 read.2) ∙ append-nil (read_clauses a read.0) in
      subst (IsReadBack names a) (sym is) (are-back a read.0 read.2)
