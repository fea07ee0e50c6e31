-- The pieces of a clause's line are those of a phrase.
use Rattle.std.proofs.Common.{◌≡◌, ℕ, ◌+◌, ◌<◌, ◌≤◌, ◌^◌, ◌&&◌, Bool, true, false, if◌then◌else◌, List, [], ◌∷◌, ◌++◌, codes, map, length, refl, ap, sym, subst, ◌∙◌, append_assoc, append-nil, arith}
use Rattle.std.specs.Prelude.{nat_le}
use Rattle.std.specs.List.{AllByRecursion, list_all}
use Rattle.std.proofs.lemmas.Bool.{false≢true}
use Rattle.std.proofs.lemmas.Grind.{flat_map-append}
use Rattle.ap_lexer.specs.Lexeme.{Text}
use Rattle.ap_term.specs.declared.clauses.Check.{Check}
use Rattle.ap_term.specs.declared.clauses.Check.TheVariants.{Ground, Indep}
use Rattle.ap_term.specs.declared.fixed.TheConstants.{GROUND, INDEP}
use Rattle.ap_term.specs.AtomTable.{IsAtomTable}
use Rattle.ap_term.specs.Tree as term
use Rattle.ap_term.specs.Tree.{Trees, var, node, none, more, count_trees}
use Rattle.ap_term.specs.Substitution.{instance}
use Rattle.ap_term.specs.UpToNames.{place}
use Rattle.ap_term.specs.Blocks.{IsPrefix}
use Rattle.ap_term.specs.Goals.{Part, call, group, Clause}
use Rattle.ap_term.specs.WellFormed.{callable, all_callable, numbered, numbered_all, numbered_check, well_formed_part}
use Rattle.ap_term.proofs.NameTable.{table-long}
use Rattle.ap_term.proofs.Lists.{prefix-refl, prefix-trans}
use Rattle.ap_writer.specs.Text.{name_at, numbered_by, or_empty, shown_node, all_shown}
use Rattle.ap_writer.specs.Writable.{IsWritable}
use Rattle.ap_writer.proofs.Lines.{place-le}
use Rattle.ap_clause.proofs.CanBe.{fixed_at}
use Rattle.ap_cge.specs.Printed.{Piece, word, term as a_term, is_enclosed, goal_pieces, check_pieces, parted, condition_pieces, list_of, part_pieces, body_pieces, add_piece_vars, add_pieces_vars, piece_text, pieces_text, line_of}
use Rattle.ap_cge.proofs.Writing.{add_piece_vars-prefix}
use Rattle.ap_readback.specs.Printable.{is_functor, has_functors}
use Rattle.ap_readback.specs.Phrase.{Sign, Neck, Comma, Par, Cond, Phrase, Simple, InParens, Enclosed, Joined, sign_text, sign_rank, left_room, right_room, rank, IsPhrase, phrase_text, phrase_vars}
use Rattle.ap_readback.specs.Readback.{AreGoals, IsPart, IsPrintable, line_vars}
use Rattle.ap_readback.proofs.Renaming.{vars-again, writable-again, functors-again, enclosed-again, callable-again}

-- ---- lists of pieces

pub vars-append : (ps qs : List Piece) (xs : List ℕ) → add_pieces_vars (ps ++ qs) xs ≡ add_pieces_vars qs (add_pieces_vars ps xs)
vars-append [] qs xs = refl
vars-append (p ∷ ps) qs xs = vars-append ps qs (add_piece_vars p xs)

pub pieces-prefix : (ps : List Piece) (xs : List ℕ) → IsPrefix xs (add_pieces_vars ps xs)
pieces-prefix [] xs = prefix-refl xs
pieces-prefix (p ∷ ps) xs = prefix-trans xs (add_piece_vars p xs) (add_pieces_vars ps (add_piece_vars p xs)) (add_piece_vars-prefix p xs) (pieces-prefix ps (add_piece_vars p xs))

-- ---- what a phrase is made from

-- the check as the term that its text is
abbrev pub check_term : Check → term.Tree
check_term (Ground x) = node GROUND (more (var x) none)
check_term (Indep x y) = node INDEP (more (var x) (more (var y) none))

abbrev pub joined_list : {A : Type 0} → Sign → (A → Phrase) → A → List A → Phrase
joined_list s g x [] = g x
joined_list s g x (y ∷ ys) = Joined (g x) s (joined_list s g y ys)

module _ (names : List Text) (found : List ℕ) where
  abbrev pub goal_phrase : term.Tree → Phrase
  goal_phrase t = if is_enclosed names t then InParens (instance (numbered_by found) t) else Simple (instance (numbered_by found) t)

  abbrev pub check_phrase : Check → Phrase
  check_phrase c = Simple (instance (numbered_by found) (check_term c))

  abbrev pub goals_phrase : term.Tree → List term.Tree → Phrase
  goals_phrase t ts = joined_list Par goal_phrase t ts

  abbrev pub conditional_phrase : List Check → Phrase → Phrase
  conditional_phrase [] p = p
  conditional_phrase (c ∷ []) p = Joined (check_phrase c) Cond p
  conditional_phrase (c ∷ d ∷ cs) p = Joined (Enclosed (joined_list Comma check_phrase c (d ∷ cs))) Cond p

  -- a group without goals is none
  abbrev pub group_phrase : List Check → List term.Tree → Phrase
  group_phrase cs [] = Enclosed (Simple (var 0))
  group_phrase cs (t ∷ ts) = conditional_phrase cs (goals_phrase t ts)

  abbrev pub part_phrase : Part → Phrase
  part_phrase (call t) = goal_phrase t
  part_phrase (group cs ts) = group_phrase cs (list_of ts)

  abbrev pub with_body : Phrase → List Part → Phrase
  with_body h [] = h
  with_body h (p ∷ ps) = Joined h Neck (joined_list Comma part_phrase p ps)

  abbrev pub clause_phrase : Clause → Phrase
  clause_phrase c = with_body (goal_phrase c.head) c.body

-- ---- a phrase for pieces

module _ (names : List Text) (found : List ℕ) where
  pub record ForPieces (ps : List Piece) (p : Phrase) : Type 0 where
    pub text : phrase_text names p ≡ pieces_text names found ps
    pub vars : (xs : List ℕ) → IsPrefix (add_pieces_vars ps xs) found → phrase_vars names p (map (place found) xs) ≡ map (place found) (add_pieces_vars ps xs)
    pub rules : IsPhrase names p

  for-joined : (s : Sign) (ps qs : List Piece) (p q : Phrase) → rank p ≤ left_room s → rank q ≤ right_room s → ForPieces ps p → ForPieces qs q → ForPieces (ps ++ word (sign_text s) ∷ qs) (Joined p s q)
  for-joined s ps qs p q low_p low_q h k = record {
    text = ap (λ l. l ++ (sign_text s ++ phrase_text names q)) h.text ∙ ap (λ l. pieces_text names found ps ++ (sign_text s ++ l)) k.text ∙ sym (flat_map-append (piece_text names found) ps (word (sign_text s) ∷ qs));
    vars = λ xs x.
        let both = vars-append ps (word (sign_text s) ∷ qs) xs in
        let middle : List ℕ = add_pieces_vars ps xs in
        let whole : IsPrefix (add_pieces_vars qs middle) found = subst (λ l. IsPrefix l found) both x in
        ap (phrase_vars names q) (h.vars xs (prefix-trans middle (add_pieces_vars qs middle) found (pieces-prefix qs middle) whole)) ∙ k.vars middle whole ∙ ap (map (place found)) (sym both);
    rules = (low_p, low_q, h.rules, k.rules);
  }

  -- what stands in parentheses before `=>`
  for-enclosed : (ps qs : List Piece) (p q : Phrase) → rank q ≤ 974 → ForPieces ps p → ForPieces qs q → ForPieces (word (codes "(") ∷ (ps ++ word (codes ") => ") ∷ []) ++ qs) (Joined (Enclosed p) Cond q)
  for-enclosed ps qs p q low h k = record {
    text = ap (λ l. codes "(" ++ l) (append_assoc (phrase_text names p) (codes ")") (codes " => " ++ phrase_text names q)
        ∙ ap (λ l. l ++ (codes ") => " ++ phrase_text names q)) h.text ∙ ap (λ l. pieces_text names found ps ++ (codes ") => " ++ l)) k.text
        ∙ sym (ap (pieces_text names found) (append_assoc ps (word (codes ") => ") ∷ []) qs) ∙ flat_map-append (piece_text names found) ps (word (codes ") => ") ∷ qs)));
    vars = λ xs x.
        let both : add_pieces_vars ((ps ++ word (codes ") => ") ∷ []) ++ qs) xs ≡ add_pieces_vars qs (add_pieces_vars ps xs) =
        ap (λ l. add_pieces_vars l xs) (append_assoc ps (word (codes ") => ") ∷ []) qs) ∙ vars-append ps (word (codes ") => ") ∷ qs) xs in
        let middle : List ℕ = add_pieces_vars ps xs in
        let whole : IsPrefix (add_pieces_vars qs middle) found = subst (λ l. IsPrefix l found) both x in
        ap (phrase_vars names q) (h.vars xs (prefix-trans middle (add_pieces_vars qs middle) found (pieces-prefix qs middle) whole)) ∙ k.vars middle whole ∙ ap (map (place found)) (sym both);
    rules = (omega arith, low, h.rules, k.rules);
  }

  abbrev pub ForEach : {A : Type 0} → Sign → (A → List Piece) → (A → Phrase) → List A → Type 0
  ForEach s f g xs = AllByRecursion (λ x. ForPieces (f x) (g x) × (rank (g x) ≤ left_room s)) xs

  abbrev Right : Sign → Type 0
  Right s = (left_room s ≤ right_room s) × (sign_rank s ≤ right_room s)

  list-rank : {A : Type 0} (s : Sign) (f : A → List Piece) (g : A → Phrase) (x : A) (ys : List A) → Right s → ForEach s f g (x ∷ ys) → rank (joined_list s g x ys) ≤ right_room s
  list-rank s f g x [] r h = omega (arith, r.0, h.0.1)
  list-rank s f g x (y ∷ ys) r h = r.1

  for-list : {A : Type 0} (s : Sign) (f : A → List Piece) (g : A → Phrase) (x : A) (ys : List A) → Right s → ForEach s f g (x ∷ ys) → ForPieces (parted (sign_text s) f (x ∷ ys)) (joined_list s g x ys)
  for-list s f g x [] r h = subst (λ l. ForPieces l (g x)) (sym (append-nil (f x))) h.0.0
  for-list s f g x (y ∷ ys) r h = for-joined s (f x) (parted (sign_text s) f (y ∷ ys)) (g x) (joined_list s g y ys) h.0.1 (list-rank s f g y ys r h.1) h.0.0 (for-list s f g y ys r h.1)

  module _ (table : IsAtomTable names) (few : length found + 1 < 2 ^ 64) where
    for-goal : (t : term.Tree) → IsWritable names t → has_functors names t ≡ true → callable t ≡ true → ForPieces (goal_pieces names t) (goal_phrase names found t)
    for-goal t h f c = go (is_enclosed names t) refl
      where
        r : term.Tree
        r = instance (numbered_by found) t

        go : (b : Bool) → is_enclosed names t ≡ b → ForPieces (if b then word (codes "(") ∷ a_term t ∷ word (codes ")") ∷ [] else a_term t ∷ []) (if b then InParens r else Simple r)
        go true e = record { text = refl; vars = λ xs x. vars-again found t xs x; rules = (writable-again found names t few h, functors-again found names t ∙ f) }
        go false e = record {
          text = sym (append-nil _);
          vars = λ xs x. vars-again found t xs x;
          rules = (writable-again found names t few h, functors-again found names t ∙ f, callable-again found t c, enclosed-again found names t c ∙ e);
        }

    goal-rank : (t : term.Tree) → rank (goal_phrase names found t) ≡ 0
    goal-rank t = go (is_enclosed names t)
      where
        go : (b : Bool) → rank (if b then InParens (instance (numbered_by found) t) else Simple (instance (numbered_by found) t)) ≡ 0
        go true = refl
        go false = refl

    ground-name : name_at names GROUND ≡ codes "ground"
    ground-name = ap or_empty (fixed_at names GROUND (codes "ground") table (λ _. refl))

    indep-name : name_at names INDEP ≡ codes "indep"
    indep-name = ap or_empty (fixed_at names INDEP (codes "indep") table (λ _. refl))

    pub for-check : (c : Check) → ForPieces (check_pieces c) (check_phrase names found c)
    for-check (Ground x) = record {
      text = ap (λ n. (shown_node n (all_shown names (more (var (place found x)) none))).own) ground-name;
      vars = λ xs p. vars-again found (check_term (Ground x)) xs p;
      rules = ((omega (arith, table-long names table), (omega (arith, place-le found x), tt)), ap (λ n. is_functor n && true) ground-name, refl, refl);
    }
    for-check (Indep x y) = record {
      text = ap (λ n. (shown_node n (all_shown names (more (var (place found x)) (more (var (place found y)) none)))).own) indep-name;
      vars = λ xs p. vars-again found (check_term (Indep x y)) xs p;
      rules = ((omega (arith, table-long names table), (omega (arith, place-le found x), (omega (arith, place-le found y), tt))), ap (λ n. is_functor n && true) indep-name, refl, refl);
    }

    each-check : (cs : List Check) → ForEach Comma check_pieces (check_phrase names found) cs
    each-check [] = tt
    each-check (c ∷ cs) = ((for-check c, omega arith), each-check cs)

    each-goal : (ts : Trees) → AreGoals names ts → all_callable ts ≡ true → ForEach Par (goal_pieces names) (goal_phrase names found) (list_of ts)
    each-goal none h c = tt
    each-goal (more t ts) h c =
        let both = and-both (callable t) (all_callable ts) c in
        ((for-goal t h.0.writable h.0.functors both.0, omega (arith, goal-rank t)), each-goal ts h.1 both.1)
      where
        and-both : (a b : Bool) → (a && b) ≡ true → (a ≡ true) × (b ≡ true)
        and-both true b e = (refl, e)
        and-both false b e = absurd (false≢true e)

    for-condition : (cs : List Check) (qs : List Piece) (q : Phrase) → rank q ≤ 974 → ForPieces qs q → ForPieces (condition_pieces cs ++ qs) (conditional_phrase names found cs q)
    for-condition [] qs q low h = h
    for-condition (c ∷ []) qs q low h =
        subst (λ l. ForPieces l (Joined (check_phrase names found c) Cond q)) (sym (append_assoc (check_pieces c) (word (codes " => ") ∷ []) qs))
        (for-joined Cond (check_pieces c) qs (check_phrase names found c) q (omega arith) low (for-check c) h)
    for-condition (c ∷ d ∷ cs) qs q low h =
        for-enclosed (parted (codes ", ") check_pieces (c ∷ d ∷ cs)) qs (joined_list Comma (check_phrase names found) c (d ∷ cs)) q low
        (for-list Comma check_pieces (check_phrase names found) c (d ∷ cs) (omega arith, omega arith) (each-check (c ∷ d ∷ cs))) h

    condition-rank : (cs : List Check) (q : Phrase) → rank q ≤ 974 → rank (conditional_phrase names found cs q) ≤ 999
    condition-rank [] q low = omega (arith, low)
    condition-rank (c ∷ []) q low = omega arith
    condition-rank (c ∷ d ∷ cs) q low = omega arith

    two-both : (a b : Bool) → (a && b) ≡ true → (a ≡ true) × (b ≡ true)
    two-both true b e = (refl, e)
    two-both false b e = absurd (false≢true e)

    for-group : (cs : List Check) (ts : Trees) → 2 ≤ count_trees ts → AreGoals names ts → all_callable ts ≡ true
        → ForPieces (part_pieces names (group cs ts)) (part_phrase names found (group cs ts)) × (rank (part_phrase names found (group cs ts)) ≤ 999)
    for-group cs none m h c = absurd (omega arith)
    for-group cs (more t ts) m h c =
        let p : Phrase = goals_phrase names found t (list_of ts) in
        let each = each-goal (more t ts) h c in
        let low : rank p ≤ 950 = list-rank Par (goal_pieces names) (goal_phrase names found) t (list_of ts) (omega arith, omega arith) each in
        let less : rank p ≤ 974 = omega (arith, low) in
        let goals : List Piece = parted (codes " & ") (goal_pieces names) (list_of (more t ts)) in (
          for-condition cs goals p less (for-list Par (goal_pieces names) (goal_phrase names found) t (list_of ts) (omega arith, omega arith) each),
          condition-rank cs p less,
        )

    for-part : (n : ℕ) (p : Part) → IsPart names p → well_formed_part n p ≡ true → ForPieces (part_pieces names p) (part_phrase names found p) × (rank (part_phrase names found p) ≤ 999)
    for-part n (call t) h c = (for-goal t h.writable h.functors (two-both (callable t) (numbered n t) c).0, omega (arith, goal-rank t))
    for-part n (group cs ts) h c =
        let rest = (two-both (list_all (numbered_check n) cs) (nat_le 1 (count_trees ts) && (all_callable ts && numbered_all n ts)) c).1 in
        let callables = (two-both (nat_le 1 (count_trees ts)) (all_callable ts && numbered_all n ts) rest).1 in
        for-group cs ts h.0 h.1 (two-both (all_callable ts) (numbered_all n ts) callables).0

    each-part : (n : ℕ) (ps : List Part) → AllByRecursion (IsPart names) ps → list_all (well_formed_part n) ps ≡ true → ForEach Comma (part_pieces names) (part_phrase names found) ps
    each-part n [] h c = tt
    each-part n (p ∷ ps) h c = let both = two-both (well_formed_part n p) (list_all (well_formed_part n) ps) c in (for-part n p h.0 both.0, each-part n ps h.1 both.1)

    with-body : (hs : List Piece) (p : Phrase) (n : ℕ) (ps : List Part) → rank p ≡ 0 → ForPieces hs p → AllByRecursion (IsPart names) ps → list_all (well_formed_part n) ps ≡ true
        → ForPieces (hs ++ body_pieces names ps) (with_body names found p ps)
    with-body hs p n [] low h parts c = subst (λ l. ForPieces l p) (sym (append-nil hs)) h
    with-body hs p n (q ∷ qs) low h parts c =
        let each = each-part n (q ∷ qs) parts c in
        let low_body : rank (joined_list Comma (part_phrase names found) q qs) ≤ 1000 = list-rank Comma (part_pieces names) (part_phrase names found) q qs (omega arith, omega arith) each in
        for-joined Neck hs (parted (codes ", ") (part_pieces names) (q ∷ qs)) p (joined_list Comma (part_phrase names found) q qs) (omega (arith, low)) (omega (arith, low_body)) h
        (for-list Comma (part_pieces names) (part_phrase names found) q qs (omega arith, omega arith) each)

    pub for-clause : (c : Clause) → IsPrintable names c → ForPieces (goal_pieces names c.head ++ body_pieces names c.body) (clause_phrase names found c)
    for-clause c h =
        with-body (goal_pieces names c.head) (goal_phrase names found c.head) c.vars c.body (goal-rank c.head)
        (for-goal c.head h.head h.head_functors (two-both (callable c.head) (numbered c.vars c.head) h.clause.head).0) h.parts h.clause.body

-- the line of a clause is the text of its phrase, and a full stop
pub line-text : (names : List Text) (c : Clause) (p : Phrase) → ForPieces names (line_vars names c) (goal_pieces names c.head ++ body_pieces names c.body) p → line_of names c ≡ phrase_text names p ++ codes ".\n"
line-text names c p h =
    let found : List ℕ = line_vars names c in
    ap (pieces_text names found) (sym (append_assoc (goal_pieces names c.head) (body_pieces names c.body) (word (codes ".\n") ∷ [])))
    ∙ flat_map-append (piece_text names found) (goal_pieces names c.head ++ body_pieces names c.body) (word (codes ".\n") ∷ [])
    ∙ ap (λ l. l ++ codes ".\n") (sym h.text)

-- the variables of a line, without its full stop
pub line-vars : (names : List Text) (c : Clause) → line_vars names c ≡ add_pieces_vars (goal_pieces names c.head ++ body_pieces names c.body) []
line-vars names c =
    ap (λ l. add_pieces_vars l []) (sym (append_assoc (goal_pieces names c.head) (body_pieces names c.body) (word (codes ".\n") ∷ [])))
    ∙ vars-append (goal_pieces names c.head ++ body_pieces names c.body) (word (codes ".\n") ∷ []) []
