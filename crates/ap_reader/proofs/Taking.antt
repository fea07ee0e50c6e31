-- One token more of a long term.
use Rattle.std.proofs.Common.{◌≡◌, ℕ, ◌+◌, ◌<◌, ◌&&◌, ◌||◌, ◌==◌, cond, Bool, true, false, List, [], ◌∷◌, ◌++◌, length, map, zero, suc, Option, Some, None, refl, sym, ap, subst, ◌∙◌, arith, length-append, append_assoc}
use Rattle.std.specs.Prelude.{All, codes, bytes_eq}
use Rattle.std.proofs.lemmas.List.Elements.{All-head, All-tail, All-weaker}
use Rattle.ap_lexer.specs.declared.kind.TokenKind.{TokenKind}
use Rattle.ap_lexer.specs.declared.kind.TokenKind.TheVariants as token
use Rattle.ap_lexer.specs.declared.split.Token.{Token}
use Rattle.ap_lexer.specs.declared.stream.Tokens.{Tokens}
use Rattle.ap_lexer.specs.Token.{Placed}
use Rattle.ap_lexer.specs.Stream as stream
use Rattle.ap_reader.specs.declared.kept.Kept.{Kept}
use Rattle.ap_reader.specs.declared.long.Steps.{Steps}
use Rattle.ap_reader.specs.declared.word.Word.{Word}
use Rattle.ap_reader.specs.declared.word.Word.TheVariants as word
use Rattle.ap_reader.specs.Machine.{State, Wants, over, next}
use Rattle.ap_reader.specs.Operator.{priority_of}
use Rattle.ap_reader.specs.Word.{starts, stops, is_open, is_integer, touches, bare_word, named_word, word_by, words, words_from, first}
use Rattle.ap_reader.specs.Written.{Written, AreText, IsTextBy, leaf_by, seen_by, leaves, variables}
use Rattle.ap_reader.specs.Leaves.{texts}
use Rattle.ap_reader.specs.Reading.{EndsAs}
use Rattle.ap_reader.specs.Long.{Left, Goes, Keeps, look}

pub left_next : (old new : Tokens) (r : Option Token) (ts : List Placed) → stream.Follows old r new → stream.Gives old ts → Left r new ts
left_next old new None ts f g = f ts g
left_next old new (Some t) ts f g = f ts g

-- what an end token is to the one before it: no more than the end of the tokens
abbrev bare_by : ℕ → Option TokenKind → Placed → Bool → Bool → Word
bare_by at before t s i =
    cond (priority_of false t.text == 0 && priority_of true t.text == 0 || starts before && s) (word.Operand at)
    (cond (bytes_eq t.text (codes "-") && i) (word.Sign at (priority_of false t.text)) (word.Operator at (priority_of false t.text) (priority_of true t.text)))

bare_end : (at : ℕ) (before : Option TokenKind) (t z : Placed) → z.kind ≡ token.End → bare_word at before t None ≡ bare_word at before t (Some z)
bare_end at before t z e =
    let s : stops z.kind ≡ false = ap stops e in
    let i : touches is_integer t (Some z) ≡ false = ap (λ k. is_integer k && t.to == z.from) e in
    ap (λ b. bare_by at before t b false) (sym s) ∙ ap (λ b. bare_by at before t (stops z.kind) b) (sym i)

named_end : (at : ℕ) (before : Option TokenKind) (t z : Placed) → z.kind ≡ token.End → named_word at before t None ≡ named_word at before t (Some z)
named_end at before t z e =
    let o : touches is_open t (Some z) ≡ false = ap (λ k. is_open k && t.to == z.from) e in
    bare_end at before t z e ∙ ap (λ b. cond b (word.Functor at (priority_of false t.text)) (bare_word at before t (Some z))) (sym o)

word_end : (k : TokenKind) (at : ℕ) (before : Option TokenKind) (t z : Placed) → z.kind ≡ token.End → word_by k at before t None ≡ word_by k at before t (Some z)
word_end token.Name at before t z e = named_end at before t z e
word_end token.Symbol at before t z e = named_end at before t z e
word_end token.Semicolon at before t z e = bare_end at before t z e
word_end token.Quoted at before t z e =
    let o : touches is_open t (Some z) ≡ false = ap (λ k. is_open k && t.to == z.from) e in
    ap (λ b. cond b (word.Functor at 0) (word.Operand at)) (sym o)
word_end token.Comma at before t z e =
    let s : stops z.kind ≡ false = ap stops e in
    ap (λ b. cond (starts before && b) (word.Operand at) (word.Comma at)) (sym s)
word_end token.Cut at before t z e = refl
word_end token.Variable at before t z e = refl
word_end token.Integer at before t z e = refl
word_end token.Bar at before t z e = refl
word_end token.Open at before t z e = refl
word_end token.Close at before t z e = refl
word_end token.OpenList at before t z e = refl
word_end token.CloseList at before t z e = refl
word_end token.End at before t z e = refl

head_same : {A : Type 0} (x y : A) (xs ys : List A) → x ∷ xs ≡ y ∷ ys → x ≡ y
head_same x y xs ys e = cc

tail_same : {A : Type 0} (x y : A) (xs ys : List A) → x ∷ xs ≡ y ∷ ys → xs ≡ ys
tail_same x y xs ys e = cc

-- the tokens before an end token that is the last, without the first
ends_next : (t z : Placed) (more rest : List Placed) → EndsAs (t ∷ z ∷ more) rest → (r : List Placed) × (rest ≡ t ∷ r) × EndsAs (z ∷ more) r
ends_next t z more [] e = absurd (omega (arith, ap length e.2))
ends_next t z more (u ∷ r) e = (r, ap (λ v. v ∷ r) (sym (head_same t u (z ∷ more) (r ++ e.0 ∷ []) e.2)), (e.0, e.1, tail_same t u (z ∷ more) (r ++ e.0 ∷ []) e.2))

pub ends_last : (t : Placed) (rest : List Placed) → EndsAs (t ∷ []) rest → (rest ≡ []) × (t.kind ≡ token.End)
ends_last t [] e = (refl, ap (λ p. p.kind) (head_same t e.0 [] [] e.2) ∙ e.1)
ends_last t (u ∷ r) e = absurd (omega (arith, ap length e.2, length-append r (e.0 ∷ [])))

word_same : (k : TokenKind) (at : ℕ) (before : Option TokenKind) (t z : Placed) (more r : List Placed) → EndsAs (z ∷ more) r → word_by k at before t (first r) ≡ word_by k at before t (Some z)
word_same k at before t z more [] e = word_end k at before t z (ap (λ p. p.kind) (head_same z e.0 more [] e.2) ∙ e.1)
word_same k at before t z more (u ∷ r) e = ap (λ y. word_by k at before t (Some y)) (sym (head_same z u more (r ++ e.0 ∷ []) e.2))

-- the words before an end token from a token on
pub word_first : (ts more front : List Placed) (t z : Placed) (x : State) (passed : List Written) (s : Steps) (g : Goes ts (t ∷ z ∷ more) front x passed s) → (r : List Placed) × EndsAs (z ∷ more) r × (g.rest ≡ t ∷ r) × (over (Wants []) (words front) ≡ over x (word_by t.kind s.at s.before t (Some z) ∷ words_from (Some t.kind) (s.at + 1) r))
word_first ts more front t z x passed s g =
    let tail = ends_next t z more g.rest g.ends in
    let r = tail.0 in
    (r, tail.2, tail.1, g.words_are ∙ ap (λ q. over x (words_from s.before s.at q)) tail.1 ∙ ap (λ w. over x (w ∷ words_from (Some t.kind) (s.at + 1) r)) (word_same t.kind s.at s.before t z more r tail.2))

pub goes_on : (ts more front : List Placed) (t z : Placed) (x : State) (passed : List Written) (old new : Steps) (l : Written) → Goes ts (t ∷ z ∷ more) front x passed old → new.before ≡ Some t.kind → new.at ≡ old.at + 1 → l ≡ leaf_by t.kind (texts old.variables.names.items) t.text → texts new.variables.names.items ≡ seen_by t.kind (texts old.variables.names.items) t.text → IsTextBy t.kind t.text → Goes ts (z ∷ more) front (next x (word_by t.kind old.at old.before t (Some z))) (passed ++ l ∷ []) new
goes_on ts more front t z x passed old new l g b a le se text =
    let w = word_first ts more front t z x passed old g in
    let r = w.0 in
    let y = next x (word_by t.kind old.at old.before t (Some z)) in
    let seen = texts old.variables.names.items in
    record {
      rest = r;
      ends = w.1;
      words_are = w.3 ∙ ap (λ k. over y (words_from k (old.at + 1) r)) (sym b) ∙ ap (λ n. over y (words_from new.before n r)) (sym a);
      leaves_are = g.leaves_are ∙ ap (λ q. passed ++ leaves seen q) w.2 ∙ ap (λ v. passed ++ v ∷ leaves (seen_by t.kind seen t.text) r) (sym le) ∙ ap (λ ns. passed ++ l ∷ leaves ns r) (sym se) ∙ sym (append_assoc passed (l ∷ []) (leaves (texts new.variables.names.items) r));
      variables_are = g.variables_are ∙ ap (variables seen) w.2 ∙ ap (λ ns. variables ns r) (sym se);
      text = (λ h. g.text.0 (subst AreText (sym w.2) (text, h)), λ h. (subst AreText w.2 (g.text.1 h)).1);
    }

pub is_text : (ts more front : List Placed) (t z : Placed) (x : State) (passed : List Written) (s : Steps) → Goes ts (t ∷ z ∷ more) front x passed s → AreText front → IsTextBy t.kind t.text
is_text ts more front t z x passed s g h = (subst AreText (word_first ts more front t z x passed s g).2 (g.text.1 h)).0

look_front : (xs ys : List Written) (at : ℕ) → at < length xs → look (xs ++ ys) at ≡ look xs at
look_front [] ys at h = absurd (omega (arith, h))
look_front (x ∷ xs) ys zero h = refl
look_front (x ∷ xs) ys (suc at) h = look_front xs ys at (omega (arith, h))

pub look_more : (xs ys : List Written) (at : ℕ) → at < length xs → look (xs ++ ys) at ≡ look xs at
look_more = look_front

looks : (passed : List Written) (x : Written) (ps : List ℕ) → All (λ at. at < length passed) ps → map (look passed) ps ≡ map (look (passed ++ x ∷ [])) ps
looks passed x [] h = refl
looks passed x (p ∷ ps) h =
    ap (λ y. y ∷ map (look passed) ps) (sym (look_front passed (x ∷ []) p (All-head (λ at. at < length passed) p ps h)))
    ∙ ap (λ l. look (passed ++ x ∷ []) p ∷ l) (looks passed x ps (All-tail (λ at. at < length passed) p ps h))

-- what is kept stays so when more tokens were taken
pub keeps_more : (passed : List Written) (x : Written) (k : Kept) → Keeps passed k → Keeps (passed ++ x ∷ []) k
keeps_more passed x k h = record {
  leaves_are = h.leaves_are ∙ looks passed x k.places.items h.within;
  within = All-weaker (λ at. at < length passed) (λ at. at < length (passed ++ x ∷ [])) (λ at l. omega (arith, l, length-append passed (x ∷ []))) k.places.items h.within;
}
