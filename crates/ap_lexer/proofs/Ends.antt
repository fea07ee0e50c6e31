-- Where comments, quoted tokens and lines end, seen from different places.
use Rattle.std.proofs.Common.{◌≡◌, ℕ, zero, suc, ◌+◌, ◌-◌, ◌<◌, ◌≤◌, ◌==◌, ◌&&◌, ◌||◌, Bool, true, false, cond, List, [], ◌∷◌, length, drop, Option, Some, None, refl, sym, ap, subst, ◌∙◌, arith}
use Rattle.std.specs.Prelude.{option_map, IfSome, MatchOption, ⊤}
use Rattle.std.specs.List.{prefix_len}
use Rattle.ap_lexer.specs.declared.ahead.Quote.{Quote}
use Rattle.ap_lexer.specs.declared.ahead.Quote.TheVariants as quote
use Rattle.std.specs.Prelude.{slice_index}
use Rattle.std.specs.Str.Lossy.{utf8_valid_len}
use Rattle.std.proofs.Common.{length-drop}
use Rattle.std.proofs.lemmas.List.{drop-drop, get_or-drop}
use Rattle.ap_lexer.specs.declared.bytes.Class.TheVariants as class
use Rattle.ap_lexer.specs.declared.ahead.Characters.{Characters}
use Rattle.ap_lexer.specs.declared.ahead.Line.{Line}
use Rattle.ap_lexer.specs.declared.ahead.Comment.{Comment}
use Rattle.ap_lexer.specs.Lexeme.{Text, comment_end, closing, line_len, is_in}
use Rattle.ap_lexer.specs.Ahead.{KnowsCharacters, KnowsLine, KnowsComment}
use Rattle.ap_lexer.proofs.Valid.{valid_later, valid_some}

less_first : (t : Bool) (k n m : ℕ) → suc k ≤ cond t (1 + n) 0 → (k ≤ n → m ≡ n - k) → m ≡ cond t (1 + n) 0 - suc k
less_first true k n m h rest = omega (arith, rest (omega arith))
less_first false k n m h rest = absurd (omega arith)

-- a line that goes on n bytes goes on n - k behind the first k
pub prefix_len-drop : (p : ℕ → Bool) (k : ℕ) (text : List ℕ) → k ≤ prefix_len p text → prefix_len p (drop k text) ≡ prefix_len p text - k
prefix_len-drop p zero text h = omega arith
prefix_len-drop p (suc k) [] h = omega arith
prefix_len-drop p (suc k) (b ∷ text) h = less_first (p b) k (prefix_len p text) (prefix_len p (drop k text)) h (prefix_len-drop p k text)

cond_map : (b : Bool) (k : ℕ) (x y v w : Option ℕ) → v ≡ option_map (λ e. k + e) x → w ≡ option_map (λ e. k + e) y → cond b v w ≡ option_map (λ e. k + e) (cond b x y)
cond_map true k x y v w p q = p
cond_map false k x y v w p q = q

some_more : (k a : ℕ) → Some (k + a + 1) ≡ option_map (λ e. k + e) (Some (a + 1))
some_more k a = ap Some (omega arith)

-- the same end, counted from k places before
pub comment_end-shift : (star : Bool) (k a : ℕ) (text : Text) → comment_end star (k + a) text ≡ option_map (λ e. k + e) (comment_end star a text)
comment_end-shift star k a [] = refl
comment_end-shift star k a (b ∷ text) =
    cond_map (star && b == 47) k (Some (a + 1)) (comment_end (b == 42) (a + 1) text) (Some (k + a + 1)) (comment_end (b == 42) (k + a + 1) text) (some_more k a)
    (ap (λ n. comment_end (b == 42) n text) (omega arith) ∙ comment_end-shift (b == 42) k (a + 1) text)

pub closing-shift : (q : Quote) (k a : ℕ) (text : Text) → closing q (k + a) text ≡ option_map (λ e. k + e) (closing q a text)
closing-shift quote.Plain k a [] = refl
closing-shift quote.Quote k a [] = refl
closing-shift quote.Escape k a [] = refl
closing-shift quote.Plain k a (b ∷ text) =
    let next : (q : Quote) → closing q (k + a + 1) text ≡ option_map (λ e. k + e) (closing q (a + 1) text) = λ q. ap (λ n. closing q n text) (omega arith) ∙ closing-shift q k (a + 1) text in
    cond_map (b == 39) k (closing quote.Quote (a + 1) text) (cond (b == 92) (closing quote.Escape (a + 1) text) (cond (b == 10) None (closing quote.Plain (a + 1) text))) (closing quote.Quote (k + a + 1) text) (cond (b == 92) (closing quote.Escape (k + a + 1) text) (cond (b == 10) None (closing quote.Plain (k + a + 1) text))) (next quote.Quote)
    (cond_map (b == 92) k (closing quote.Escape (a + 1) text) (cond (b == 10) None (closing quote.Plain (a + 1) text)) (closing quote.Escape (k + a + 1) text) (cond (b == 10) None (closing quote.Plain (k + a + 1) text)) (next quote.Escape)
    (cond_map (b == 10) k None (closing quote.Plain (a + 1) text) None (closing quote.Plain (k + a + 1) text) refl (next quote.Plain)))
closing-shift quote.Quote k a (b ∷ text) =
    cond_map (b == 39) k (closing quote.Plain (a + 1) text) (Some a) (closing quote.Plain (k + a + 1) text) (Some (k + a)) (ap (λ n. closing quote.Plain n text) (omega arith) ∙ closing-shift quote.Plain k (a + 1) text) refl
closing-shift quote.Escape k a (b ∷ text) =
    cond_map (b == 39 || b == 92 || b == 110 || b == 116) k (closing quote.Plain (a + 1) text) None (closing quote.Plain (k + a + 1) text) None (ap (λ n. closing quote.Plain n text) (omega arith) ∙ closing-shift quote.Plain k (a + 1) text) refl

-- what is behind a place, taken from there
pub unshift : (k : ℕ) (end there : Option ℕ) → end ≡ option_map (λ e. k + e) there → option_map (λ e. e - k) end ≡ there
unshift k end None e = ap (option_map (λ e. e - k)) e
unshift k end (Some n) e = ap (option_map (λ e. e - k)) e ∙ ap Some (omega arith)

within_cond : (lo hi : ℕ) (b : Bool) (x y : Option ℕ) → IfSome x (λ e. (lo ≤ e) × (e ≤ hi)) → IfSome y (λ e. (lo ≤ e) × (e ≤ hi)) → IfSome (cond b x y) (λ e. (lo ≤ e) × (e ≤ hi))
within_cond lo hi true x y p q = p
within_cond lo hi false x y p q = q

wider : (lo hi lo' hi' : ℕ) (x : Option ℕ) → lo' ≤ lo → hi ≤ hi' → IfSome x (λ e. (lo ≤ e) × (e ≤ hi)) → IfSome x (λ e. (lo' ≤ e) × (e ≤ hi'))
wider lo hi lo' hi' None h k p = p
wider lo hi lo' hi' (Some e) h k p = (omega (arith, p.0), omega (arith, p.1))

pub comment_end_within : (star : Bool) (a : ℕ) (text : Text) → IfSome (comment_end star a text) (λ e. (a ≤ e) × (e ≤ a + length text))
comment_end_within star a [] = tt
comment_end_within star a (b ∷ text) =
    within_cond a (a + suc (length text)) (star && b == 47) (Some (a + 1)) (comment_end (b == 42) (a + 1) text) (omega arith, omega arith)
    (wider (a + 1) (a + 1 + length text) a (a + suc (length text)) (comment_end (b == 42) (a + 1) text) (omega arith) (omega arith) (comment_end_within (b == 42) (a + 1) text))

pub closing_within : (q : Quote) (a : ℕ) (text : Text) → IfSome (closing q a text) (λ e. (a ≤ e) × (e ≤ a + length text))
closing_within quote.Plain a [] = tt
closing_within quote.Quote a [] = (omega arith, omega arith)
closing_within quote.Escape a [] = tt
closing_within quote.Plain a (b ∷ text) =
    let next : (q : Quote) → IfSome (closing q (a + 1) text) (λ e. (a ≤ e) × (e ≤ a + suc (length text))) = λ q. wider (a + 1) (a + 1 + length text) a (a + suc (length text)) (closing q (a + 1) text) (omega arith) (omega arith) (closing_within q (a + 1) text) in
    within_cond a (a + suc (length text)) (b == 39) (closing quote.Quote (a + 1) text) (cond (b == 92) (closing quote.Escape (a + 1) text) (cond (b == 10) None (closing quote.Plain (a + 1) text))) (next quote.Quote)
    (within_cond a (a + suc (length text)) (b == 92) (closing quote.Escape (a + 1) text) (cond (b == 10) None (closing quote.Plain (a + 1) text)) (next quote.Escape)
    (within_cond a (a + suc (length text)) (b == 10) None (closing quote.Plain (a + 1) text) tt (next quote.Plain)))
closing_within quote.Quote a (b ∷ text) =
    within_cond a (a + suc (length text)) (b == 39) (closing quote.Plain (a + 1) text) (Some a) (wider (a + 1) (a + 1 + length text) a (a + suc (length text)) (closing quote.Plain (a + 1) text) (omega arith) (omega arith) (closing_within quote.Plain (a + 1) text)) (omega arith, omega arith)
closing_within quote.Escape a (b ∷ text) =
    within_cond a (a + suc (length text)) (b == 39 || b == 92 || b == 110 || b == 116) (closing quote.Plain (a + 1) text) None (wider (a + 1) (a + 1 + length text) a (a + suc (length text)) (closing quote.Plain (a + 1) text) (omega arith) (omega arith) (closing_within quote.Plain (a + 1) text)) tt

-- no end, or one two places behind or more
abbrev pub IsFar : ℕ → Option ℕ → Type 0
IsFar at end = MatchOption end ⊤ (λ e. at + 2 ≤ e)

nearer : (a d : ℕ) (end : Option ℕ) → a ≤ d → IsFar d end → IsFar a end
nearer a d None h far = far
nearer a d (Some e) h far = omega (arith, far)

not_near : {P : Type 0} (a : ℕ) (end : Option ℕ) → IsFar a end → Some (a + 1) ≡ end → P
not_near a end far e = absurd (near a (subst (IsFar a) (sym e) far))
  where
    near : (a : ℕ) → a + 2 ≤ a + 1 → ⊥
    near a h = omega arith

past_slash : (t : Bool) (a : ℕ) (end next : Option ℕ) → IsFar a end → cond t (Some (a + 1)) next ≡ end → next ≡ end
past_slash true a end next far e = not_near a end far e
past_slash false a end next far e = e

star_off : (star : Bool) (a : ℕ) (text : Text) (end : Option ℕ) → IsFar a end → comment_end star a text ≡ end → comment_end false a text ≡ end
star_off false a text end far e = e
star_off true a [] end far e = e
star_off true a (b ∷ text) end far e = past_slash (b == 47) a end (comment_end (b == 42) (a + 1) text) far e

-- a comment that goes on at a later place ends where it did, unless its end begins before
pub comment_end_later : (k a : ℕ) (star : Bool) (text : Text) (end : Option ℕ) → IsFar (a + k) end → comment_end star a text ≡ end → comment_end false (a + k) (drop k text) ≡ end
comment_end_later zero a star text end far e =
    let here : a + 0 ≡ a = omega arith in
    ap (λ n. comment_end false n text) here ∙ star_off star a text end (subst (λ n. IsFar n end) here far) e
comment_end_later (suc k) a star [] end far e = e
comment_end_later (suc k) a star (b ∷ text) end far e =
    let there : a + suc k ≡ a + 1 + k = omega arith in
    let next = past_slash (star && b == 47) a end (comment_end (b == 42) (a + 1) text) (nearer a (a + suc k) end (omega arith) far) e in
    ap (λ n. comment_end false n (drop k text)) there ∙ comment_end_later k (a + 1) (b == 42) text end (subst (λ n. IsFar n end) there far) next

-- the length of a comment that begins with `/*`, from where it ends
pub comment_from_here : (text : Text) (at : ℕ) (end : Option ℕ) → end ≡ comment_end false (at + 2) (drop (at + 2) text) → option_map (λ e. e - at) end ≡ comment_end false 2 (drop 2 (drop at text))
comment_from_here text at end is = unshift at end (comment_end false 2 (drop 2 (drop at text)))
    (is ∙ ap (comment_end false (at + 2)) (sym (drop-drop 2 at text)) ∙ comment_end-shift false at 2 (drop 2 (drop at text)))

pub comment_bounds : (text : Text) (from : ℕ) (end : Option ℕ) → from ≤ length text → end ≡ comment_end false from (drop from text) → IfSome end (λ e. (from ≤ e) × (e ≤ length text))
comment_bounds text from end h is = wider from (from + length (drop from text)) from (length text) end (omega arith) (omega (arith, length-drop from text, h))
    (subst (λ x. IfSome x (λ e. (from ≤ e) × (e ≤ from + length (drop from text)))) (sym is) (comment_end_within false from (drop from text)))

-- the length of a quoted token, from where it ends
pub quoted_from_here : (text : Text) (at : ℕ) (end : Option ℕ) → end ≡ closing quote.Plain (at + 1) (drop (at + 1) text) → option_map (λ e. e - at) end ≡ closing quote.Plain 1 (drop 1 (drop at text))
quoted_from_here text at end is = unshift at end (closing quote.Plain 1 (drop 1 (drop at text)))
    (is ∙ ap (closing quote.Plain (at + 1)) (sym (drop-drop 1 at text)) ∙ closing-shift quote.Plain at 1 (drop 1 (drop at text)))

pub quoted_bounds : (text : Text) (from : ℕ) (end : Option ℕ) → from ≤ length text → end ≡ closing quote.Plain from (drop from text) → IfSome end (λ e. (from ≤ e) × (e ≤ length text))
quoted_bounds text from end h is = wider from (from + length (drop from text)) from (length text) end (omega arith) (omega (arith, length-drop from text, h))
    (subst (λ x. IfSome x (λ e. (from ≤ e) × (e ≤ from + length (drop from text)))) (sym is) (closing_within quote.Plain from (drop from text)))

-- an end as a distance
pub at_least : (at n hi : ℕ) (end : Option ℕ) → IfSome end (λ e. (at + n ≤ e) × (e ≤ hi)) → IfSome end (λ e. at ≤ e)
at_least at n hi None h = h
at_least at n hi (Some e) h = omega (arith, h.0)

pub as_distance : (at n hi : ℕ) (end : Option ℕ) → IfSome end (λ e. (at + n ≤ e) × (e ≤ hi)) → IfSome (option_map (λ e. e - at) end) (λ len. (n ≤ len) × (at + len ≤ hi))
as_distance at n hi None h = h
as_distance at n hi (Some e) h = (omega (arith, h.0), omega (arith, h.0, h.1))

-- what is known of a comment at an earlier place
pub comment_known : (text : Text) (known : Option Comment) (seen : Comment) (from : ℕ) → known ≡ Some seen → KnowsComment text known → seen.from ≤ from → MatchOption seen.end ⊤ (λ e. from + 2 ≤ e) → seen.end ≡ comment_end false from (drop from text)
comment_known text known seen from is knows h far =
    let known_end : seen.end ≡ comment_end false seen.from (drop seen.from text) = subst (KnowsComment text) is knows in
    let there : seen.from + (from - seen.from) ≡ from = omega (arith, h) in
    let later = comment_end_later (from - seen.from) seen.from false (drop seen.from text) seen.end (subst (λ n. IsFar n seen.end) (sym there) far) (sym known_end) in
    sym later ∙ ap (λ t. comment_end false (seen.from + (from - seen.from)) t) (drop-drop (from - seen.from) seen.from text) ∙ ap (λ n. comment_end false n (drop n text)) there

-- what is known of a line at an earlier place
pub line_known : (text : Text) (known : Option Line) (seen : Line) (at : ℕ) → known ≡ Some seen → KnowsLine text known → seen.from ≤ at → at ≤ seen.to → seen.to - at ≡ line_len (drop at text)
line_known text known seen at is knows h within =
    let facts = subst (KnowsLine text) is knows in
    let there : seen.from + (at - seen.from) ≡ at = omega (arith, h) in
    let later = prefix_len-drop (is_in class.Line) (at - seen.from) (drop seen.from text) (omega (arith, facts.0, within)) in
    omega (arith, h, facts.0, later, ap line_len (drop-drop (at - seen.from) seen.from text ∙ ap (λ n. drop n text) there))

-- what is known of characters at an earlier place
pub characters_known : (text : Text) (known : Option Characters) (seen : Characters) (at : ℕ) → known ≡ Some seen → KnowsCharacters text known → seen.from ≤ at → at ≤ seen.to → slice_index text at < 128 → seen.to - at ≡ utf8_valid_len (drop at text)
characters_known text known seen at is knows h within ascii =
    let facts = subst (KnowsCharacters text) is knows in
    let there : seen.from + (at - seen.from) ≡ at = omega (arith, h) in
    let there_too = drop-drop (at - seen.from) seen.from text ∙ ap (λ n. drop n text) there in
    let byte : slice_index (drop seen.from text) (at - seen.from) < 128 = subst (λ b. b < 128) (sym (get_or-drop seen.from text (at - seen.from) 0 ∙ ap (slice_index text) there)) ascii in
    omega (arith, h, facts.0, valid_later (drop seen.from text) (at - seen.from) (omega (arith, facts.0, within)) byte, ap utf8_valid_len there_too)

pub ascii_there : (text : Text) (at : ℕ) → at < length text → slice_index text at < 128 → 0 < utf8_valid_len (drop at text)
ascii_there text at h ascii = valid_some (drop at text) (omega (arith, h, length-drop at text)) (subst (λ b. b < 128) (sym (get_or-drop at text 0 0 ∙ ap (slice_index text) (omega arith))) ascii)
