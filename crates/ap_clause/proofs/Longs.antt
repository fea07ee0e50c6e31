-- Verdicts on the tokens of a long piece.
use Rattle.std.proofs.Common.{◌≡◌, ℕ, ◌<◌, true, false, List, [], ◌∷◌, ◌++◌, length, take, Ok, sym, ap, subst, ◌∙◌, refl}
use Rattle.std.specs.Prelude.{nat_lt, not}
use Rattle.std.proofs.lemmas.Bool.{ltb-true, ltb-false}
use Rattle.std.specs.declared.alloc.Global.{Global}
use Rattle.std.specs.declared.vec.Vec.{Vec}
use Rattle.std.specs.Borrow.{Bor}
use Rattle.ap_lexer.specs.Lexeme.{Text}
use Rattle.ap_lexer.specs.Token.{Placed}
use Rattle.ap_term.specs.AtomTable.{insert_names, capacity, IsAtomTable}
use Rattle.ap_term.specs.Tree as term
use Rattle.ap_term.specs.TermView.{tree_of}
use Rattle.ap_term.specs.declared.terms.Term.{Term}
use Rattle.ap_reader.specs.declared.written.TheConstants.{MAX_OPEN}
use Rattle.ap_reader.specs.declared.depth.TheConstants.{MAX_DEPTH}
use Rattle.ap_reader.specs.Bracket.{most_open}
use Rattle.ap_reader.specs.Grammar.{Tree}
use Rattle.ap_reader.specs.Step.{postfix}
use Rattle.ap_reader.specs.Written.{leaves, variables}
use Rattle.ap_reader.specs.Depth.{depth}
use Rattle.ap_reader.specs.Build.{names, term_in, Extends}
use Rattle.ap_reader.specs.Leaves.{texts}
use Rattle.ap_reader.specs.Long.{IsBuilt}
use Rattle.ap_reader.specs.Reading.{Spells, term_of, first_line}
use Rattle.ap_clause.specs.declared.judge.Counts.{Counts}
use Rattle.ap_clause.specs.declared.refusal.Refusal.TheVariants as refusal
use Rattle.ap_clause.specs.declared.source.Source.{Source}
use Rattle.ap_clause.specs.Reads.{Verdict, Refused, Position, fits, refused_if, judged_term, JudgesOpen}
use Rattle.ap_clause.specs.Verdict.{CanBeRule, IsSound, position}
use Rattle.ap_clause.proofs.Proper.{spelled_proper}
use Rattle.ap_clause.proofs.CanBe.{can_be_rule}
use Rattle.ap_clause.proofs.Verdicts.{by_depth, too_deep, on_term, too_many, judges_open}

-- no clause by its form
pub unfit : (source : Source) (p : Position) (ts front : List Placed) (t : Tree) (line : ℕ) → nat_lt MAX_OPEN (most_open 0 ts) ≡ false → line ≡ first_line ts → Spells ts front t → fits source (term_of front t) ≡ false → JudgesOpen (nat_lt MAX_OPEN (most_open 0 ts)) source p ts (Refused (refusal.NotAClause line))
unfit source p ts front t line closed first spells e =
    judges_open source p ts front t line (ltb-false MAX_OPEN (most_open 0 ts) closed) first spells (Refused (refusal.NotAClause line))
    (sym (ap (λ b. refused_if (not b) (refusal.NotAClause line) (by_depth source p.counts p.table front t line)) e))

pub deep : (source : Source) (p : Position) (ts front : List Placed) (t : Tree) (line : ℕ) → nat_lt MAX_OPEN (most_open 0 ts) ≡ false → line ≡ first_line ts → Spells ts front t → fits source (term_of front t) ≡ true → nat_lt MAX_DEPTH (depth (term_of front t)) ≡ true → JudgesOpen (nat_lt MAX_OPEN (most_open 0 ts)) source p ts (Refused (refusal.TooDeep line))
deep source p ts front t line closed first spells e d =
    judges_open source p ts front t line (ltb-false MAX_OPEN (most_open 0 ts) closed) first spells (Refused (refusal.TooDeep line))
    (too_deep source p.counts p.table front t line e (ltb-true MAX_DEPTH (depth (term_of front t)) d))

-- what is judged by the term is judged of the tokens
pub by_tokens : (source : Source) (before : Counts) (old new : List Text) (ts : List Placed) (line : ℕ) (s : IsSound source ts) (r : Term) (vs : Vec (Bor (List ℕ)) Global) → line ≡ first_line ts → IsBuilt (leaves [] s.front) s.tree (variables [] s.front) old new (Ok (r, vs)) → (v : Verdict) → v ≡ judged_term source before new (texts vs.items) line (tree_of r) → JudgesOpen (nat_lt MAX_OPEN (most_open 0 ts)) source (position old before) ts v
by_tokens source before old new ts line s r vs first b v e =
    let x = term_of s.front s.tree in
    let table = insert_names old (names (leaves [] s.front) (postfix s.tree)) in
    judges_open source (position old before) ts s.front s.tree line (ltb-false MAX_OPEN (most_open 0 ts) s.closed) first s.spells v
    (e ∙ ap (judged_term source before new (texts vs.items) line) b.0 ∙ ap (λ ns. judged_term source before new ns line (term_in new x)) b.2 ∙ ap (λ n. judged_term source before n (variables [] s.front) line (term_in n x)) b.1
    ∙ on_term source before old s.front s.tree line s.fitting (ltb-false MAX_DEPTH (depth x) s.shallow))

pub too_many_names : (source : Source) (before : Counts) (old : List Text) (ts : List Placed) (line : ℕ) (s : IsSound source ts) → line ≡ first_line ts → capacity < length (insert_names old (names (leaves [] s.front) (postfix s.tree))) → JudgesOpen (nat_lt MAX_OPEN (most_open 0 ts)) source (position old before) ts (Refused (refusal.TooManyAtoms line))
too_many_names source before old ts line s first h =
    judges_open source (position old before) ts s.front s.tree line (ltb-false MAX_OPEN (most_open 0 ts) s.closed) first s.spells (Refused (refusal.TooManyAtoms line))
    (too_many source before old s.front s.tree line s.fitting (ltb-false MAX_DEPTH (depth (term_of s.front s.tree)) s.shallow) h)

pub cut_back : (old new : List Text) (mark : ℕ) → Extends old new → mark ≡ length old → take mark new ≡ old
cut_back old new mark g e = ap (λ n. take n new) e ∙ ap (take (length old)) g.1 ∙ front old g.0
  where
    front : (xs ys : List Text) → take (length xs) (xs ++ ys) ≡ xs
    front [] ys = refl
    front (x ∷ xs) ys = ap (λ l. x ∷ l) (front xs ys)

-- the term can be a rule's
pub can_be : (source : Source) (old new : List Text) (ts : List Placed) (line : ℕ) (s : IsSound source ts) (r : Term) (vs : Vec (Bor (List ℕ)) Global) → IsAtomTable new → IsBuilt (leaves [] s.front) s.tree (variables [] s.front) old new (Ok (r, vs)) → CanBeRule source (tree_of r) (length (texts vs.items)) line
can_be source old new ts line s r vs table b =
    let rule = can_be_rule new table (length (variables [] s.front)) source (term_of s.front s.tree) line (spelled_proper s.front s.tree) s.fitting in
    let P : term.Tree → Type 0 = λ u. CanBeRule source u (length (variables [] s.front)) line in
    let Q : List Text → Type 0 = λ ns. CanBeRule source (tree_of r) (length ns) line in
    subst Q (sym b.2) (subst P (sym b.0) rule)
