-- The tokens of a printed term spell a tree, and it means the term.
use Rattle.std.proofs.Common.{◌≡◌, ℕ, ◌+◌, ◌≤◌, Bool, true, false, List, [], ◌∷◌, ◌++◌, length, length-append, drop, codes, Option, Some, refl, sym, ap, subst, ◌∙◌, append_assoc, arith}
use Rattle.ap_lexer.specs.declared.kind.TokenKind.{TokenKind}
use Rattle.ap_lexer.specs.declared.kind.TokenKind.TheVariants as token
use Rattle.ap_lexer.specs.Lexeme.{Text}
use Rattle.ap_lexer.specs.Law.{Spelled}
use Rattle.ap_reader.specs.declared.word.Word.{Word}
use Rattle.ap_reader.specs.declared.word.Word.TheVariants as w
use Rattle.ap_reader.specs.Grammar.{Tree, Compound, Listed, Tailed, Items, Begin, Then, spelled, each, priority, IsTerm, AreItems}
use Rattle.ap_reader.specs.Word.{starts, stops}
use Rattle.ap_reader.specs.Written.{Written, Atom, Node, Writtens, Nil, Cons, cell, leaf_at, name_at, name_of, seen_by, meaning, arguments, listed}
use Rattle.ap_cge.specs.Again.{one_token, name_tokens}
use Rattle.ap_cge.specs.TermTokens.{Told, told_alone, told_later, told_arguments, told_compound, told_cell}
use Rattle.ap_readback.specs.Unplaced.{next_is, first_kind, comma_of, words_of, leaves_of, variables_of}
use Rattle.ap_readback.proofs.Unplaced.{variables-append, leaves_there, get-drop, drop-one}
use Rattle.ap_readback.proofs.Atoms.{IsFunctorToken}

-- Tokens at a place, behind one and before others, are a tree of at most a priority, which means a term.
pub record Stands (most : ℕ) (seen : List Text) (tokens : List Spelled) (x : Written) (before : Option TokenKind) (at : ℕ) (after : List Spelled) : Type 0 where
  pub tree : Tree
  pub rules : IsTerm tree
  pub small : priority tree ≤ most
  pub last : TokenKind
  pub quiet : starts (Some last) ≡ false
  pub spelling : words_of before at (tokens ++ after) ≡ spelled tree ++ words_of (Some last) (at + length tokens) after
  pub means : (all behind : List Written) → drop at all ≡ leaves_of seen tokens ++ behind → meaning all tree ≡ x

-- The same of what begins with words that stand before items, and ends with a closing token.
pub record Closed (words : List Word) (close : TokenKind) (value : List Written → Written) (seen : List Text) (tokens : List Spelled) (before : Option TokenKind) (at : ℕ) (after : List Spelled) : Type 0 where
  pub tree : Tree
  pub rules : IsTerm tree
  pub simple : priority tree ≡ 0
  pub spelling : words ++ words_of before at (tokens ++ after) ≡ spelled tree ++ words_of (Some close) (at + length tokens) after
  pub means : (all behind : List Written) → drop at all ≡ leaves_of seen tokens ++ behind → meaning all tree ≡ value all

-- what follows an item, to the closing token
pub record Row (words : List Word) (close : TokenKind) (value : List Written → Items → Written → Written) (seen : List Text) (tokens : List Spelled) (after : List Spelled) : Type 0 where
  pub parts : next_is stops (first_kind (tokens ++ after)) ≡ true
  pub closes : (items : Items) (t : Tree) (kind : TokenKind) (at : ℕ) → AreItems items → IsTerm t → priority t ≤ 999 → starts (Some kind) ≡ false
      → Closed (words ++ (each items ++ spelled t)) close (λ all. value all items (meaning all t)) seen tokens (Some kind) at after

-- a term's tokens, by itself and behind the elements of a list; and the variables that were seen behind them
pub record IsParsed (seen later : List Text) (d : Told) (x : Written) : Type 0 where
  pub own : (touches : Bool) (before : Option TokenKind) (at : ℕ) (after : List Spelled) → starts before ≡ true → next_is stops (first_kind after) ≡ true → Stands 0 seen (d.own touches) x before at after
  pub own_seen : (touches : Bool) → variables_of seen (d.own touches) ≡ later
  pub tail : (touches : Bool) (after : List Spelled) → Row (w.OpenList ∷ []) token.CloseList (λ all items y. listed all items (cell y x)) seen (d.tail touches) after
  pub tail_seen : (touches : Bool) → variables_of seen (d.tail touches) ≡ later

abbrev pub AreParsed : List Text → List Text → List Told → Writtens → Type 0
AreParsed seen later [] Nil = seen ≡ later
AreParsed seen later [] (Cons x xs) = ⊥
AreParsed seen later (d ∷ ds) Nil = ⊥
AreParsed seen later (d ∷ ds) (Cons x xs) = (between : List Text) × IsParsed seen between d x × AreParsed between later ds xs

words-at : (before : Option TokenKind) (ts : List Spelled) (n m : ℕ) → n ≡ m → words_of before n ts ≡ words_of before m ts
words-at before ts n m e = ap (λ k. words_of before k ts) e

-- an item and what follows it
front : (words : List Word) (close : TokenKind) (value : List Written → Items → Written → Written) (seen between : List Text) (d : Told) (x : Written) (tokens after : List Spelled) (items : Items) (before : Option TokenKind) (at : ℕ)
    → IsParsed seen between d x → Row words close value between tokens after → AreItems items → starts before ≡ true
    → Closed (words ++ each items) close (λ all. value all items x) seen (d.own true ++ tokens) before at after
front words close value seen between d x tokens after items before at parsed row are begins =
    let own : List Spelled = d.own true in
    let item = parsed.own true before at (tokens ++ after) begins row.parts in
    let low : priority item.tree ≤ 999 = omega (arith, item.small) in
    let c = row.closes items item.tree item.last (at + length own) are item.rules low item.quiet in
    let place : (at + length own) + length tokens ≡ at + length (own ++ tokens) = omega (arith, length-append own tokens) in
    record {
      tree = c.tree;
      rules = c.rules;
      simple = c.simple;
      spelling = ap (λ l. (words ++ each items) ++ words_of before at l) (append_assoc own tokens after)
          ∙ ap (λ l. (words ++ each items) ++ l) item.spelling
          ∙ sym (append_assoc (words ++ each items) (spelled item.tree) (words_of (Some item.last) (at + length own) (tokens ++ after)))
          ∙ ap (λ l. l ++ words_of (Some item.last) (at + length own) (tokens ++ after)) (append_assoc words (each items) (spelled item.tree))
          ∙ c.spelling
          ∙ ap (λ l. spelled c.tree ++ l) (words-at (Some close) after _ _ place);
      means = λ all behind h.
          let both = leaves_there all at seen own tokens behind h in
          c.means all behind (subst (λ s. drop (at + length own) all ≡ leaves_of s tokens ++ behind) (parsed.own_seen true) both.1)
          ∙ ap (value all items) (item.means all (leaves_of (variables_of seen own) tokens ++ behind) both.0);
    }

comma-is : (at : ℕ) (kind : TokenKind) (after : Option TokenKind) → starts (Some kind) ≡ false → comma_of at (Some kind) after ≡ w.Comma at
comma-is at kind after quiet = rw quiet refl

-- a comma, an item and what follows it
row-comma : (words : List Word) (close : TokenKind) (value later : List Written → Items → Written → Written) (seen between : List Text) (d : Told) (x : Written) (tokens after : List Spelled)
    → IsParsed seen between d x → Row words close later between tokens after
    → ((all : List Written) (items : Items) (t : Tree) (at : ℕ) → later all (Then items t at) x ≡ value all items (meaning all t))
    → Row words close value seen (one_token token.Comma (codes ",") true ++ (d.own true ++ tokens)) after
row-comma words close value later seen between d x tokens after parsed row same = record {
  parts = refl;
  closes = λ items t kind at are rules low quiet.
      let f = front words close later seen between d x tokens after (Then items t at) (Some token.Comma) (at + 1) parsed row (are, low, rules) refl in
      let rest : List Spelled = d.own true ++ tokens in
      let place : (at + 1) + length rest ≡ at + length (one_token token.Comma (codes ",") true ++ rest) = omega arith in
      let more : List Word = words_of (Some token.Comma) (at + 1) (rest ++ after) in
      let opened : List Word = words ++ (each items ++ spelled t) in
      record {
        tree = f.tree;
        rules = f.rules;
        simple = f.simple;
        spelling = ap (λ o. opened ++ o ∷ more) (comma-is at kind (first_kind (rest ++ after)) quiet)
            ∙ sym (append_assoc opened (w.Comma at ∷ []) more)
            ∙ ap (λ l. l ++ more) (append_assoc words (each items ++ spelled t) (w.Comma at ∷ []) ∙ ap (λ l. words ++ l) (append_assoc (each items) (spelled t) (w.Comma at ∷ [])))
            ∙ f.spelling
            ∙ ap (λ l. spelled f.tree ++ l) (words-at (Some close) after _ _ place);
        means = λ all behind h. f.means all behind (drop-one all at _ _ h) ∙ same all items t at;
      };
}

-- the closing bracket of a list
pub row-end : (seen : List Text) (touches : Bool) (after : List Spelled) → Row (w.OpenList ∷ []) token.CloseList (λ all items y. listed all items (cell y (Atom (codes "[]")))) seen (one_token token.CloseList (codes "]") touches) after
row-end seen touches after = record {
  parts = refl;
  closes = λ items t kind at are rules low quiet. record {
    tree = Listed items t;
    rules = (are, low, rules);
    simple = refl;
    spelling = let more : List Word = words_of (Some token.CloseList) (at + 1) after in
        ap (λ l. w.OpenList ∷ l) (sym (append_assoc (each items ++ spelled t) (w.CloseList ∷ []) more) ∙ ap (λ l. l ++ more) (append_assoc (each items) (spelled t) (w.CloseList ∷ [])));
    means = λ all behind h. refl;
  };
}

-- the closing parenthesis of a compound
row-close : (at : ℕ) (rank : ℕ) (seen : List Text) (touches : Bool) (after : List Spelled)
    → Row (w.Functor at rank ∷ w.Open ∷ []) token.Close (λ all items y. Node (name_at all at) (arguments all items (Cons y Nil))) seen (one_token token.Close (codes ")") touches) after
row-close at rank seen touches after = record {
  parts = refl;
  closes = λ items t kind place are rules low quiet. record {
    tree = Compound at rank items t;
    rules = (are, low, rules);
    simple = refl;
    spelling = let more : List Word = words_of (Some token.Close) (place + 1) after in
        ap (λ l. w.Functor at rank ∷ w.Open ∷ l) (sym (append_assoc (each items ++ spelled t) (w.Close ∷ []) more) ∙ ap (λ l. l ++ more) (append_assoc (each items) (spelled t) (w.Close ∷ [])));
    means = λ all behind h. refl;
  };
}

-- a bar, a term and the closing bracket
row-bar : (seen later : List Text) (tokens : Bool → List Spelled) (x : Written)
    → ((touches : Bool) (before : Option TokenKind) (at : ℕ) (after : List Spelled) → starts before ≡ true → next_is stops (first_kind after) ≡ true → Stands 0 seen (tokens touches) x before at after)
    → (touches : Bool) (after : List Spelled) → Row (w.OpenList ∷ []) token.CloseList (λ all items y. listed all items (cell y x)) seen ((told_alone tokens).tail touches) after
row-bar seen later tokens x own touches after = record {
  parts = refl;
  closes = λ items t kind at are rules low quiet.
      let inner : List Spelled = tokens true in
      let close : List Spelled = one_token token.CloseList (codes "]") touches in
      let u = own true (Some token.Bar) (at + 1) (close ++ after) refl refl in
      let low_u : priority u.tree ≤ 999 = omega (arith, u.small) in
      let place : ((at + 1) + length inner) + 1 ≡ at + length ((told_alone tokens).tail touches) = omega (arith, length-append inner close) in
      let more : List Word = words_of (Some token.CloseList) (((at + 1) + length inner) + 1) after in
      record {
        tree = Tailed items t u.tree;
        rules = (are, low, rules, low_u, u.rules);
        simple = refl;
        spelling = ap (λ l. w.OpenList ∷ ((each items ++ spelled t) ++ w.Bar ∷ words_of (Some token.Bar) (at + 1) l)) (append_assoc inner close after)
            ∙ ap (λ l. w.OpenList ∷ ((each items ++ spelled t) ++ w.Bar ∷ l)) u.spelling
            ∙ ap (λ l. w.OpenList ∷ l) (append_assoc (each items) (spelled t) (w.Bar ∷ (spelled u.tree ++ w.CloseList ∷ more)))
            ∙ sym (ap (λ l. w.OpenList ∷ l) (append_assoc (each items) (spelled t ++ w.Bar ∷ (spelled u.tree ++ w.CloseList ∷ [])) more
            ∙ ap (λ l. each items ++ l) (append_assoc (spelled t) (w.Bar ∷ (spelled u.tree ++ w.CloseList ∷ [])) more
            ∙ ap (λ l. spelled t ++ w.Bar ∷ l) (append_assoc (spelled u.tree) (w.CloseList ∷ []) more))))
            ∙ ap (λ l. spelled (Tailed items t u.tree) ++ l) (words-at (Some token.CloseList) after _ _ place);
        means = λ all behind h.
            ap (λ y. listed all items (cell (meaning all t) y)) (u.means all (leaves_of (variables_of seen inner) close ++ behind) (leaves_there all (at + 1) seen inner close behind (drop-one all at _ _ h)).0);
      };
}

pub parsed-alone : (seen later : List Text) (tokens : Bool → List Spelled) (x : Written)
    → ((touches : Bool) (before : Option TokenKind) (at : ℕ) (after : List Spelled) → starts before ≡ true → next_is stops (first_kind after) ≡ true → Stands 0 seen (tokens touches) x before at after)
    → ((touches : Bool) → variables_of seen (tokens touches) ≡ later) → IsParsed seen later (told_alone tokens) x
parsed-alone seen later tokens x own own_seen = record {
  own = own;
  own_seen = own_seen;
  tail = row-bar seen later tokens x own;
  tail_seen = λ touches. variables-append seen (tokens true) (one_token token.CloseList (codes "]") touches) ∙ own_seen true;
}

-- ---- compounds and lists

row-later : (at rank : ℕ) (seen later : List Text) (ds : List Told) (xs : Writtens) (touches : Bool) (after : List Spelled) → AreParsed seen later ds xs
    → Row (w.Functor at rank ∷ w.Open ∷ []) token.Close (λ all items y. Node (name_at all at) (arguments all items (Cons y xs))) seen (told_later ds touches) after
row-later at rank seen later [] Nil touches after h = row-close at rank seen touches after
row-later at rank seen later [] (Cons x xs) touches after h = absurd h
row-later at rank seen later (d ∷ ds) Nil touches after h = absurd h
row-later at rank seen later (d ∷ ds) (Cons x xs) touches after h =
    row-comma (w.Functor at rank ∷ w.Open ∷ []) token.Close (λ all items y. Node (name_at all at) (arguments all items (Cons y (Cons x xs)))) (λ all items y. Node (name_at all at) (arguments all items (Cons y xs))) seen h.0 d x (told_later ds touches) after
    h.1 (row-later at rank h.0 later ds xs touches after h.2) (λ all items t place. refl)

later-seen : (seen later : List Text) (ds : List Told) (xs : Writtens) (touches : Bool) → AreParsed seen later ds xs → variables_of seen (told_later ds touches) ≡ later
later-seen seen later [] Nil touches h = h
later-seen seen later [] (Cons x xs) touches h = absurd h
later-seen seen later (d ∷ ds) Nil touches h = absurd h
later-seen seen later (d ∷ ds) (Cons x xs) touches h =
    variables-append seen (d.own true) (told_later ds touches) ∙ ap (λ s. variables_of s (told_later ds touches)) (h.1.own_seen true) ∙ later-seen h.0 later ds xs touches h.2

leaf-name : (all : List Written) (at : ℕ) (name : Text) (behind : List Written) → drop at all ≡ Atom name ∷ behind → name_at all at ≡ name
leaf-name all at name behind h = ap (λ o. name_of (leaf_at o)) (get-drop all at (Atom name) behind h)

pub compound-own : (name : Text) (seen later : List Text) (d : Told) (ds : List Told) (x : Written) (xs : Writtens) → IsFunctorToken name → AreParsed seen later (d ∷ ds) (Cons x xs)
    → (touches : Bool) (before : Option TokenKind) (at : ℕ) (after : List Spelled)
    → Stands 0 seen (name_tokens name true ++ (one_token token.Open (codes "(") true ++ told_arguments (d ∷ ds) touches)) (Node name (Cons x xs)) before at after
compound-own name seen later d ds x xs tok h touches before at after =
    let value : List Written → Items → Written → Written = λ all items y. Node (name_at all at) (arguments all items (Cons y xs)) in
    let row = row-later at tok.rank h.0 later ds xs touches after h.2 in
    let f = front (w.Functor at tok.rank ∷ w.Open ∷ []) token.Close value seen h.0 d x (told_later ds touches) after Begin (Some token.Open) (at + 2) h.1 row tt refl in
    let rest : List Spelled = told_arguments (d ∷ ds) touches in
    let functor : Spelled = record { kind = tok.kind; text = tok.text; touches = true } in
    let paren : List Spelled = one_token token.Open (codes "(") true in
    let place : (at + 2) + length rest ≡ at + length (functor ∷ (paren ++ rest)) = omega arith in
    let low : priority f.tree ≤ 0 = omega (arith, f.simple) in
    let next : (at + 1) + 1 ≡ at + 2 = omega arith in
    subst (λ l. Stands 0 seen (l ++ (paren ++ rest)) (Node name (Cons x xs)) before at after) (sym tok.tokens) (record {
      tree = f.tree;
      rules = f.rules;
      small = low;
      last = token.Close;
      quiet = refl;
      spelling = ap (λ o. o ∷ w.Open ∷ words_of (Some token.Open) ((at + 1) + 1) (rest ++ after)) (tok.functor at before)
          ∙ ap (λ l. w.Functor at tok.rank ∷ w.Open ∷ l) (words-at (Some token.Open) (rest ++ after) _ _ next)
          ∙ f.spelling
          ∙ ap (λ l. spelled f.tree ++ l) (words-at (Some token.Close) after _ _ place);
      means = λ all behind g.
          let there : drop at all ≡ Atom name ∷ Atom [] ∷ (leaves_of seen rest ++ behind) = g ∙ ap (λ y. y ∷ Atom [] ∷ (leaves_of (seen_by tok.kind seen tok.text) rest ++ behind)) (tok.leaf seen) ∙ ap (λ s. Atom name ∷ Atom [] ∷ (leaves_of s rest ++ behind)) (tok.seen seen) in
          let inside : drop ((at + 1) + 1) all ≡ leaves_of seen rest ++ behind = drop-one all (at + 1) _ _ (drop-one all at _ _ there) in
          f.means all behind (subst (λ n. drop n all ≡ leaves_of seen rest ++ behind) next inside) ∙ ap (λ n. Node n (Cons x xs)) (leaf-name all at name _ there);
    })

pub parsed-compound : (name : Text) (seen later : List Text) (d : Told) (ds : List Told) (x : Written) (xs : Writtens) → IsFunctorToken name → AreParsed seen later (d ∷ ds) (Cons x xs)
    → IsParsed seen later (told_compound name (d ∷ ds)) (Node name (Cons x xs))
parsed-compound name seen later d ds x xs tok h =
    parsed-alone seen later (λ touches. name_tokens name true ++ (one_token token.Open (codes "(") true ++ told_arguments (d ∷ ds) touches)) (Node name (Cons x xs))
    (λ touches before at after begins ends. compound-own name seen later d ds x xs tok h touches before at after)
    (λ touches. ap (λ l. variables_of seen (l ++ (one_token token.Open (codes "(") true ++ told_arguments (d ∷ ds) touches))) tok.tokens
    ∙ ap (λ s. variables_of s (told_arguments (d ∷ ds) touches)) (tok.seen seen)
    ∙ later-seen seen later (d ∷ ds) (Cons x xs) touches h)

pub cell-own : (seen between later : List Text) (d e : Told) (x y : Written) → IsParsed seen between d x → IsParsed between later e y
    → (touches : Bool) (before : Option TokenKind) (at : ℕ) (after : List Spelled) → Stands 0 seen ((told_cell d e).own touches) (cell x y) before at after
cell-own seen between later d e x y h k touches before at after =
    let f = front (w.OpenList ∷ []) token.CloseList (λ all items z. listed all items (cell z y)) seen between d x (e.tail touches) after Begin (Some token.OpenList) (at + 1) h (k.tail touches after) tt refl in
    let rest : List Spelled = d.own true ++ e.tail touches in
    let place : (at + 1) + length rest ≡ at + length (one_token token.OpenList (codes "[") true ++ rest) = omega arith in
    let low : priority f.tree ≤ 0 = omega (arith, f.simple) in
    record {
      tree = f.tree;
      rules = f.rules;
      small = low;
      last = token.CloseList;
      quiet = refl;
      spelling = f.spelling ∙ ap (λ l. spelled f.tree ++ l) (words-at (Some token.CloseList) after _ _ place);
      means = λ all behind g. f.means all behind (drop-one all at _ _ g);
    }

pub parsed-cell : (seen between later : List Text) (d e : Told) (x y : Written) → IsParsed seen between d x → IsParsed between later e y → IsParsed seen later (told_cell d e) (cell x y)
parsed-cell seen between later d e x y h k = record {
  own = λ touches before at after begins ends. cell-own seen between later d e x y h k touches before at after;
  own_seen = both;
  tail = λ touches after.
      row-comma (w.OpenList ∷ []) token.CloseList (λ all items z. listed all items (cell z (cell x y))) (λ all items z. listed all items (cell z y)) seen between d x (e.tail touches) after
      h (k.tail touches after) (λ all items t place. refl);
  tail_seen = both;
}
  where
    both : (touches : Bool) → variables_of seen (d.own true ++ e.tail touches) ≡ later
    both touches = variables-append seen (d.own true) (e.tail touches) ∙ ap (λ s. variables_of s (e.tail touches)) (h.own_seen true) ∙ k.tail_seen touches
