-- Each text has a result.
use Rattle.std.proofs.Common.{◌≡◌, ℕ, zero, suc, ◌+◌, ◌-◌, ◌*◌, ◌^◌, ◌≤◌, ◌<◌, Bool, true, false, ◌||◌, cond, List, [], ◌∷◌, ◌++◌, length, Option, Some, None, refl, sym, ap, subst, ◌∙◌, inl, inr, arith, length-append}
use Rattle.std.specs.Prelude.{nat_lt, ◌⊎◌, bytes_eq, codes}
use Rattle.std.specs.Str.{IsUtf8, is_utf8}
use Rattle.std.proofs.lemmas.Bool.{false≢true, ltb-true, ltb-false}
use Rattle.std.proofs.lemmas.Fmt.{decimal_injective}
use Rattle.std.proofs.lemmas.Slice.Eq.{bytes_eq-Decides}
use Rattle.std.proofs.lemmas.Str.{is_utf8-from_IsUtf8, IsUtf8-from_is_utf8}
use Rattle.std.proofs.lemmas.List.{same_from_push}
use Rattle.ap_lexer.specs.declared.kind.TokenKind.{TokenKind}
use Rattle.ap_lexer.specs.declared.kind.TokenKind.TheVariants as token
use Rattle.ap_lexer.specs.Lexeme.{Text}
use Rattle.ap_lexer.specs.declared.cut.Piece.{Piece}
use Rattle.ap_lexer.specs.Piece.{pieces}
use Rattle.ap_lexer.specs.Token.{Placed, tokens}
use Rattle.ap_term.specs.AtomTable.{is_held, capacity, IsAtomTable}
use Rattle.ap_term.specs.Goals.{Program, Query}
use Rattle.ap_reader.specs.declared.written.TheConstants.{MAX_OPEN}
use Rattle.ap_reader.specs.Bracket.{most_open}
use Rattle.ap_reader.specs.Grammar.{Tree, spelled, IsWhole}
use Rattle.ap_reader.specs.Machine.{parsed}
use Rattle.ap_reader.specs.Word.{words}
use Rattle.ap_reader.specs.Written.{IsTextBy, AreText}
use Rattle.ap_reader.specs.Reading.{first_line, EndsAs}
use Rattle.ap_reader.proofs.Complete.{complete}
use Rattle.ap_reader.proofs.Sound.{sound}
use Rattle.ap_lifting.specs.Rule.{Rule}
use Rattle.ap_clause.specs.declared.refusal.Refusal.{Refusal}
use Rattle.ap_clause.specs.declared.source.Source.{Source}
use Rattle.ap_clause.specs.declared.source.Source.TheVariants as source
use Rattle.ap_clause.specs.Fresh.{IsNext, AreNext, lift_name}
use Rattle.ap_clause.specs.Reads.{Position, Verdict, Refused, Took, Sentence, IsSentence, judged, JudgesOpen, JudgesBy, Judges, Outcome, Stopped, Whole, Goes, Reads, start, beside, AcceptsProgram, RefusesProgram, AcceptsQuery, RefusesQuery}
use Rattle.ap_clause.proofs.Taken.{judges_taken}

-- ---- what tokens spell, if anything

last_or_none : (ts : List Placed) → (ts ≡ []) ⊎ ((front : List Placed) × ((last : Placed) × (ts ≡ front ++ last ∷ [])))
last_or_none [] = inl refl
last_or_none (t ∷ ts) = of (last_or_none ts)
  where
    of : ((ts ≡ []) ⊎ ((front : List Placed) × ((last : Placed) × (ts ≡ front ++ last ∷ [])))) → ((t ∷ ts ≡ []) ⊎ ((front : List Placed) × ((last : Placed) × (t ∷ ts ≡ front ++ last ∷ []))))
    of (inl e) = inr ([], (t, ap (λ l. t ∷ l) e))
    of (inr h) = inr (t ∷ h.0, (h.1.0, ap (λ l. t ∷ l) h.1.1))

ends_or_not : (k : TokenKind) → (k ≡ token.End) ⊎ (k ≡ token.End → ⊥)
ends_or_not token.End = inl refl
ends_or_not _ = inr (λ e. cc)

no_end : (f : List Placed) (last : Placed) (ts : List Placed) → ts ≡ [] → ts ≡ f ++ last ∷ [] → ⊥
no_end f last ts e h = omega (arith, ap length e, ap length h, length-append f (last ∷ []))

front_or_none : (ts : List Placed) → ((front : List Placed) × EndsAs ts front) ⊎ ((front : List Placed) → EndsAs ts front → ⊥)
front_or_none ts = of (last_or_none ts)
  where
    by : (front : List Placed) (last : Placed) → ts ≡ front ++ last ∷ [] → ((last.kind ≡ token.End) ⊎ (last.kind ≡ token.End → ⊥)) → ((front : List Placed) × EndsAs ts front) ⊎ ((front : List Placed) → EndsAs ts front → ⊥)
    by front last e (inl k) = inl (front, (last, k, e))
    by front last e (inr n) = inr (λ f h. n (ap (λ t. t.kind) (same_from_push front f last h.0 (sym e ∙ h.2)).1 ∙ h.1))

    of : ((ts ≡ []) ⊎ ((front : List Placed) × ((last : Placed) × (ts ≡ front ++ last ∷ [])))) → ((front : List Placed) × EndsAs ts front) ⊎ ((front : List Placed) → EndsAs ts front → ⊥)
    of (inl e) = inr (λ f h. no_end f h.0 ts e h.2)
    of (inr h) = by h.0 h.1.0 h.1.1 (ends_or_not h.1.0.kind)

utf8_or_not : (text : Text) → IsUtf8 text ⊎ (IsUtf8 text → ⊥)
utf8_or_not text = of (is_utf8 text) refl
  where
    of : (b : Bool) → is_utf8 text ≡ b → IsUtf8 text ⊎ (IsUtf8 text → ⊥)
    of true e = inl (IsUtf8-from_is_utf8 text e)
    of false e = inr (λ u. false≢true (sym e ∙ is_utf8-from_IsUtf8 text u))

text_by : (k : TokenKind) (text : Text) → IsTextBy k text ⊎ (IsTextBy k text → ⊥)
text_by token.Name text = utf8_or_not text
text_by token.Symbol text = utf8_or_not text
text_by token.Variable text = utf8_or_not text
text_by token.Cut text = utf8_or_not text
text_by token.Semicolon text = utf8_or_not text
text_by token.Comma text = utf8_or_not text
text_by token.Quoted text = utf8_or_not _
text_by _ text = inl tt

text_or_not : (ts : List Placed) → AreText ts ⊎ (AreText ts → ⊥)
text_or_not [] = inl tt
text_or_not (t ∷ ts) = of (text_by t.kind t.text) (text_or_not ts)
  where
    of : (IsTextBy t.kind t.text ⊎ (IsTextBy t.kind t.text → ⊥)) → (AreText ts ⊎ (AreText ts → ⊥)) → AreText (t ∷ ts) ⊎ (AreText (t ∷ ts) → ⊥)
    of (inl h) (inl k) = inl (h, k)
    of (inl h) (inr n) = inr (λ k. n k.1)
    of (inr n) rest = inr (λ k. n k.0)

abbrev IsTreeOf : List Placed → Tree → Type 0
IsTreeOf ts t = IsWhole t × (spelled t ≡ words ts)

tree_or_none : (ts : List Placed) → ((t : Tree) × IsTreeOf ts t) ⊎ ((t : Tree) → IsTreeOf ts t → ⊥)
tree_or_none ts = of (parsed (words ts)) refl
  where
    clash : (t : Tree) → None ≡ Some t → ⊥
    clash t k = cc

    of : (u : Option Tree) → parsed (words ts) ≡ u → ((t : Tree) × IsTreeOf ts t) ⊎ ((t : Tree) → IsTreeOf ts t → ⊥)
    of (Some t) e = inl (t, sound (words ts) t e)
    of None e = inr (λ t h. clash t (sym e ∙ ap parsed (sym h.1) ∙ complete t h.0))

sentence_some : (ts : List Placed) → (s : Option Sentence) × IsSentence ts s
sentence_some ts = of (front_or_none ts)
  where
    same_front : (f g : List Placed) → EndsAs ts f → EndsAs ts g → f ≡ g
    same_front f g h k = (same_from_push f g h.0 k.0 (sym h.2 ∙ k.2)).0

    by : (f : List Placed) → EndsAs ts f → (AreText f ⊎ (AreText f → ⊥)) → (((t : Tree) × IsTreeOf f t) ⊎ ((t : Tree) → IsTreeOf f t → ⊥)) → (s : Option Sentence) × IsSentence ts s
    by f e (inl text) (inl h) = (Some (record { front = f; tree = h.0 }), record { ends = e; text = text; rules = h.1.0; spelling = h.1.1 })
    by f e (inl text) (inr n) = (None, λ g t h. n t (h.rules, h.spelling ∙ ap words (same_front g f h.ends e)))
    by f e (inr n) rest = (None, λ g t h. n (subst AreText (same_front g f h.ends e) h.text))

    of : (((front : List Placed) × EndsAs ts front) ⊎ ((front : List Placed) → EndsAs ts front → ⊥)) → (s : Option Sentence) × IsSentence ts s
    of (inl h) = by h.0 h.1 (text_or_not h.0) (tree_or_none h.0)
    of (inr n) = (None, λ f t h. n f h.ends)

-- ---- verdicts and outcomes

open_some : (full : Bool) (source : Source) (p : Position) (ts : List Placed) → (v : Verdict) × JudgesOpen full source p ts v
open_some true source p ts = (_, refl)
open_some false source p ts = let s = sentence_some ts in (judged source p (first_line ts) s.0, (s.0, s.1, refl))

by_some : (bad : Option ℕ) (source : Source) (p : Position) (ts : List Placed) → (v : Verdict) × JudgesBy bad source p ts v
by_some (Some line) source p ts = (_, refl)
by_some None source p ts = open_some (nat_lt MAX_OPEN (most_open 0 ts)) source p ts

-- a piece has a verdict
pub judges_some : (source : Source) (text : Text) (p : Position) (piece : Piece) → (v : Verdict) × Judges source text p piece v
judges_some source text p piece = by_some piece.bad source p (tokens text piece)

-- pieces have an outcome
pub reads_some : (text : Text) (ps : List Piece) (p : Position) (rules : List Rule) → (out : Outcome) × Reads text ps p rules out
reads_some text [] p rules = (Whole rules p, refl)
reads_some text (piece ∷ ps) p rules = goes (λ q rs. reads_some text ps q rs) (judges_some source.Program text p piece).0 (judges_some source.Program text p piece).1
  where
    goes : ((q : Position) (rs : List Rule) → (out : Outcome) × Reads text ps q rs out) → (v : Verdict) → Judges source.Program text p piece v → (out : Outcome) × Reads text (piece ∷ ps) p rules out
    goes rest (Refused r) j = (Stopped r, (Refused r, j, refl))
    goes rest (Took t) j = let after = rest t.after (rules ++ t.rule ∷ []) in (after.0, (Took t, j, after.1))

-- ---- room for names

abbrev HasRoom : Position → Type 0
HasRoom p = length p.table + p.counts.lifted ≤ capacity

reads_room : (text : Text) (ps : List Piece) (p : Position) (rules all : List Rule) (q : Position) → HasRoom p → Reads text ps p rules (Whole all q) → HasRoom q
reads_room text [] p rules all q room h = subst HasRoom (sym (whole h)) room
  where
    whole : Whole all q ≡ Whole rules p → q ≡ p
    whole e = cc
reads_room text (piece ∷ ps) p rules all q room h = goes (λ r rs. reads_room text ps r rs all q) h.0 h.1 h.2
  where
    goes : ((r : Position) (rs : List Rule) → HasRoom r → Reads text ps r rs (Whole all q) → HasRoom q) → (v : Verdict) → Judges source.Program text p piece v → Goes (Reads text ps) rules v (Whole all q) → HasRoom q
    goes rest (Refused r) j e = absurd (clash e)
      where
        clash : Whole all q ≡ Stopped r → ⊥
        clash k = cc
    goes rest (Took t) j k = rest t.after (rules ++ t.rule ∷ []) (judges_taken source.Program text p piece t j).room k

-- ---- new names

removed : Text → List Text → List Text
removed name [] = []
removed name (x ∷ xs) = cond (bytes_eq name x) xs (x ∷ removed name xs)

or_true : (a b : Bool) → a ≡ false → (a || b) ≡ true → b ≡ true
or_true true b h k = absurd (false≢true (sym h))
or_true false b h k = k

length-removed : (name : Text) (xs : List Text) → is_held xs name ≡ true → length (removed name xs) + 1 ≡ length xs
unfolding removed
length-removed name [] h = absurd (false≢true h)
length-removed name (x ∷ xs) h = of (bytes_eq name x) (length-removed name xs) h
  where
    of : (b : Bool) → (is_held xs name ≡ true → length (removed name xs) + 1 ≡ length xs) → (b || is_held xs name) ≡ true → length (cond b xs (x ∷ removed name xs)) + 1 ≡ length (x ∷ xs)
    of true rest k = omega arith
    of false rest k = omega (arith, rest k)

held-removed : (name q : Text) (xs : List Text) → bytes_eq q name ≡ false → is_held xs q ≡ true → is_held (removed name xs) q ≡ true
unfolding removed
held-removed name q [] differs h = absurd (false≢true h)
held-removed name q (x ∷ xs) differs h = of (bytes_eq name x) refl (held-removed name q xs differs)
  where
    later : (b : Bool) → (is_held xs q ≡ true → is_held (removed name xs) q ≡ true) → (b || is_held xs q) ≡ true → (b || is_held (removed name xs) q) ≡ true
    later true rest k = refl
    later false rest k = rest k

    of : (b : Bool) → bytes_eq name x ≡ b → (is_held xs q ≡ true → is_held (removed name xs) q ≡ true) → is_held (cond b xs (x ∷ removed name xs)) q ≡ true
    of true e rest = or_true (bytes_eq q x) (is_held xs q) (ap (bytes_eq q) (sym ((bytes_eq-Decides name x).0 e)) ∙ differs) h
    of false e rest = later (bytes_eq q x) rest h

lift_name-injective : (j k : ℕ) → j < 2 ^ 64 → k < 2 ^ 64 → lift_name j ≡ lift_name k → j ≡ k
lift_name-injective j k h l e = decimal_injective j k h l (tail e)
  where
    tail : {x y : Text} → codes "lift_" ++ x ≡ codes "lift_" ++ y → x ≡ y
    tail q = cc

differs : (j k : ℕ) → j < 2 ^ 64 → k < 2 ^ 64 → (j ≡ k → ⊥) → bytes_eq (lift_name j) (lift_name k) ≡ false
differs j k h l n = of (bytes_eq (lift_name j) (lift_name k)) refl
  where
    of : (b : Bool) → bytes_eq (lift_name j) (lift_name k) ≡ b → bytes_eq (lift_name j) (lift_name k) ≡ false
    of true e = absurd (n (lift_name-injective j k h l ((bytes_eq-Decides (lift_name j) (lift_name k)).0 e)))
    of false e = e

abbrev Free : List Text → ℕ → ℕ → Type 0
Free table from n = (k : ℕ) × (from ≤ k) × (k ≤ from + n) × (is_held table (lift_name k) ≡ false)

-- of one more number than there are names, one is free
free : (n : ℕ) (table : List Text) (from : ℕ) → length table ≡ n → from + n < 2 ^ 64 → Free table from n
free zero [] from e h = (from, omega arith, omega arith, refl)
free zero (x ∷ xs) from e h = absurd (omega arith)
free (suc n) table from e h = of (is_held table (lift_name from)) refl (λ q. free n (removed (lift_name from) table) (from + 1) (omega (arith, length-removed (lift_name from) table q)) (omega arith))
  where
    still : (k : ℕ) → from + 1 ≤ k → k ≤ (from + 1) + n → is_held (removed (lift_name from) table) (lift_name k) ≡ false → (b : Bool) → is_held table (lift_name k) ≡ b → is_held table (lift_name k) ≡ false
    still k lo hi f true q = absurd (false≢true (sym f ∙ held-removed (lift_name from) (lift_name k) table (differs k from (omega arith) (omega arith) (λ p. omega arith)) q))
    still k lo hi f false q = q

    of : (b : Bool) → is_held table (lift_name from) ≡ b → (is_held table (lift_name from) ≡ true → Free (removed (lift_name from) table) (from + 1) n) → Free table from (suc n)
    of false q rest = (from, omega arith, omega arith, q)
    of true q rest = let r = rest q in (r.0, omega (arith, r.1), omega (arith, r.2), still r.0 r.1 r.2 r.3 (is_held table (lift_name r.0)) refl)

-- the least free number
next_some : (d : ℕ) (table : List Text) (from k : ℕ) → k ≡ from + d → is_held table (lift_name k) ≡ false → (j : ℕ) × IsNext table from j × (j ≤ k)
next_some zero table from k e h = (k, record { from_there = omega arith; new = h; least = λ i lo hi. absurd (omega arith) }, omega arith)
next_some (suc d) table from k e h = of (is_held table (lift_name from)) refl (next_some d table (from + 1) k (omega arith) h)
  where
    at : (i : ℕ) → is_held table (lift_name from) ≡ true → from ≡ i → is_held table (lift_name i) ≡ true
    at i q p = subst (λ n. is_held table (lift_name n) ≡ true) p q

    least : (j : ℕ) → is_held table (lift_name from) ≡ true → IsNext table (from + 1) j → (i : ℕ) → from ≤ i → i < j → (b : Bool) → nat_lt from i ≡ b → is_held table (lift_name i) ≡ true
    least j q r i lo hi true t = r.least i (omega (arith, ltb-true from i t)) hi
    least j q r i lo hi false t = at i q (omega (arith, lo, ltb-false from i t))

    of : (b : Bool) → is_held table (lift_name from) ≡ b → ((j : ℕ) × IsNext table (from + 1) j × (j ≤ k)) → (j : ℕ) × IsNext table from j × (j ≤ k)
    of false q rest = (from, record { from_there = omega arith; new = q; least = λ i lo hi. absurd (omega arith) }, omega arith)
    of true q rest = (rest.0, record { from_there = omega (arith, rest.1.from_there); new = rest.1.new; least = λ i lo hi. least rest.0 q rest.1 i lo hi (nat_lt from i) refl }, rest.2)

step_next : (table : List Text) (from : ℕ) → from + length table < 2 ^ 64 → (j : ℕ) × IsNext table from j × (j ≤ from + length table)
step_next table from h =
    let r = free (length table) table from refl h in
    let found = next_some (r.0 - from) table from r.0 (omega (arith, r.1)) r.3 in
    (found.0, found.1, omega (arith, found.2, r.2))

pub are_next_some : (m : ℕ) (table : List Text) (from : ℕ) → length table + m ≤ capacity → from + m * 2 ^ 22 < 2 ^ 63 → (ks : List ℕ) × AreNext table from ks × (length ks ≡ m)
are_next_some zero table from room h = ([], tt, refl)
are_next_some (suc m) table from room h =
    let r = step_next table from (omega arith) in
    let rest = are_next_some m (table ++ lift_name r.0 ∷ []) (r.0 + 1) (omega (arith, length-append table (lift_name r.0 ∷ []))) (omega (arith, r.2)) in
    (r.0 ∷ rest.0, (r.1, rest.1), omega (arith, rest.2))

-- a text is a program or is refused
pub some_result : (text : Text) (table : List Text) → IsAtomTable table → ((program : Program) × ((new : List Text) × AcceptsProgram text table program new)) ⊎ ((r : Refusal) × RefusesProgram text table r)
some_result text table ok = let found = reads_some text (pieces text) (start table) [] in of found.0 found.1
  where
    whole : (rules : List Rule) (p : Position) → Reads text (pieces text) (start table) [] (Whole rules p) → (program : Program) × ((new : List Text) × AcceptsProgram text table program new)
    whole rules p h =
        let room = reads_room text (pieces text) (start table) [] rules p (omega (arith, ok.room)) h in
        let ks = are_next_some p.counts.lifted p.table 1 room (omega (arith, room)) in
        (_, (_, (rules, p, ks.0, h, ks.1, ks.2, refl, refl)))

    of : (out : Outcome) → Reads text (pieces text) (start table) [] out → ((program : Program) × ((new : List Text) × AcceptsProgram text table program new)) ⊎ ((r : Refusal) × RefusesProgram text table r)
    of (Stopped r) h = inr (r, h)
    of (Whole rules p) h = inl (whole rules p h)

-- a piece is a query or is refused
pub some_query : (text : Text) (piece : Piece) (program : Program) (table : List Text) → ((query : Query) × ((new : List Text) × AcceptsQuery text piece program table query new)) ⊎ ((r : Refusal) × RefusesQuery text piece program table r)
some_query text piece program table = let found = judges_some source.Query text (beside program table) piece in of found.0 found.1
  where
    of : (v : Verdict) → Judges source.Query text (beside program table) piece v → ((query : Query) × ((new : List Text) × AcceptsQuery text piece program table query new)) ⊎ ((r : Refusal) × RefusesQuery text piece program table r)
    of (Refused r) h = inr (r, h)
    of (Took t) h =
        let room = (judges_taken source.Query text (beside program table) piece t h).room in
        let ks = are_next_some t.after.counts.lifted t.after.table 1 room (omega (arith, room)) in
        inl (_, (_, (t, ks.0, h, ks.1, ks.2, refl, refl)))
