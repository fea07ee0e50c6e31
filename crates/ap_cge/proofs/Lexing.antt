-- A printed name or number is read as one token.
use Rattle.std.proofs.Common.{◌≡◌, ℕ, zero, suc, ◌+◌, ◌<◌, ◌≤◌, ◌^◌, ◌==◌, ◌&&◌, ◌||◌, not, cond, nat_le, le-leb, Bool, true, false, if◌then◌else◌, List, [], ◌∷◌, ◌++◌, codes, flat_map, map, length, length-append, take, drop, get_or, bytes_eq, refl, ap, sym, subst, ◌∙◌, append_assoc, arith}
use Rattle.std.specs.Prelude.{slice_index, nat_lt, All}
use Rattle.std.specs.Char.{is_ascii_digit, is_ascii_lowercase, is_ascii_uppercase}
use Rattle.std.specs.List.{list_all, prefix_len, AllByRecursion}
use Rattle.std.specs.Str.{IsUtf8, IsAscii, IsCharBoundary}
use Rattle.std.proofs.lemmas.Bool.{false≢true, and_parts, not-true}
use Rattle.std.proofs.lemmas.Bool.Decides.{nat_tests}
use Rattle.std.proofs.lemmas.Str.{IsUtf8-append, IsUtf8-take, IsUtf8-drop, IsUtf8-from_ascii, IsCharBoundary-after_ascii}
use Rattle.std.proofs.Math.Bool.{and-false}
use Rattle.std.proofs.lemmas.List.{take_at, get_or_at}
use Rattle.ap_lexer.specs.declared.kind.TokenKind.TheVariants as token
use Rattle.ap_lexer.specs.declared.kind.LexemeKind.TheVariants as kind
use Rattle.ap_lexer.specs.Lexeme.{is_layout, is_symbol, is_word, ends, number, integer, symbols, lexeme}
use Rattle.ap_lexer.specs.Row.{Item, Plain, Escape, IsItem, item_text, begins}
use Rattle.ap_lexer.proofs.Again.{again}
use Rattle.ap_lexer.proofs.Valid.{valid_least}
use Rattle.ap_writer.specs.Quoted.{is_name, is_symbols, begins_comment, escaped}
use Rattle.ap_writer.proofs.Fronts.{stops}

stopped : (p : ℕ → Bool) (rest : List ℕ) → stops p rest ≡ true → prefix_len p rest ≡ 0
stopped p [] h = refl
stopped p (b ∷ rest) h = ap (λ c. cond c (1 + prefix_len p rest) 0) (not-true (p b) h)

run : (p : ℕ → Bool) (bs rest : List ℕ) → list_all p bs ≡ true → stops p rest ≡ true → prefix_len p (bs ++ rest) ≡ length bs
run p [] rest h k = stopped p rest k
run p (b ∷ bs) rest h k =
    let two = and_parts (p b) (list_all p bs) h in
    let inner = run p bs rest two.1 k in
    let more : 1 + prefix_len p (bs ++ rest) ≡ suc (length bs) = omega arith in
    ap (λ c. cond c (1 + prefix_len p (bs ++ rest)) 0) two.0 ∙ more

-- ---- names of letters, and variables

lower : (b : ℕ) → is_ascii_lowercase b ≡ true → ((b == 37) ≡ false) × ((b == 47) ≡ false) × ((b == 39) ≡ false) × (is_layout b ≡ false)
lower b h = (grind (arith, nat_tests), grind (arith, nat_tests), grind (arith, nat_tests), grind (arith, nat_tests))

pub word_again : (name rest : List ℕ) → is_name name ≡ true → stops is_word rest ≡ true → lexeme (name ++ rest) ≡ (kind.Token token.Name, length name)
unfolding lexeme
word_again [] rest h k = absurd (false≢true h)
word_again (b ∷ bs) rest h k =
    let two = and_parts (is_ascii_lowercase b) (list_all is_word bs) h in
    let l = lower b two.0 in
    let long : 1 + prefix_len is_word (bs ++ rest) ≡ suc (length bs) = omega (arith, run is_word bs rest two.1 k) in
    rw (l.0, l.1, l.2, l.3, two.0) (ap (λ n. (kind.Token token.Name, n)) long)

pub variable_again : (bs rest : List ℕ) → list_all is_word bs ≡ true → stops is_word rest ≡ true → lexeme (95 ∷ (bs ++ rest)) ≡ (kind.Token token.Variable, suc (length bs))
unfolding lexeme
variable_again bs rest h k =
    let long : 1 + prefix_len is_word (bs ++ rest) ≡ suc (length bs) = omega (arith, run is_word bs rest h k) in
    ap (λ n. (kind.Token token.Variable, n)) long

-- ---- integers

digit : (b : ℕ) → is_ascii_digit b ≡ true → ((b == 37) ≡ false) × ((b == 47) ≡ false) × ((b == 39) ≡ false) × (is_layout b ≡ false) × (is_ascii_lowercase b ≡ false) × ((is_ascii_uppercase b || b == 95) ≡ false)
digit b h = (grind (arith, nat_tests), grind (arith, nat_tests), grind (arith, nat_tests), grind (arith, nat_tests), grind (arith, nat_tests), grind (arith, nat_tests))

integer_at : (d : ℕ) (ds rest : List ℕ) → list_all is_ascii_digit ds ≡ true → number (d ∷ ds) ≤ 2 ^ 63 → stops is_ascii_digit rest ≡ true → integer (d ∷ (ds ++ rest)) ≡ (kind.Token token.Integer, suc (length ds))
integer_at d ds rest h small k =
    let long : 1 + prefix_len is_ascii_digit (ds ++ rest) ≡ suc (length ds) = omega (arith, run is_ascii_digit ds rest h k) in
    let front : take (suc (length ds)) (d ∷ (ds ++ rest)) ≡ d ∷ ds = ap (λ l. d ∷ l) (take-length-append ds rest) in
    let fits : nat_le (number (take (1 + prefix_len is_ascii_digit (ds ++ rest)) (d ∷ (ds ++ rest)))) (2 ^ 63) ≡ true =
    ap (λ n. nat_le (number (take n (d ∷ (ds ++ rest)))) (2 ^ 63)) long ∙ ap (λ l. nat_le (number l) (2 ^ 63)) front ∙ le-leb (number (d ∷ ds)) (2 ^ 63) small in
    rw fits (ap (λ n. (kind.Token token.Integer, n)) long)
  where
    take-length-append : (xs ys : List ℕ) → take (length xs) (xs ++ ys) ≡ xs
    take-length-append [] ys = refl
    take-length-append (x ∷ xs) ys = ap (λ l. x ∷ l) (take-length-append xs ys)

pub integer_again : (d : ℕ) (ds rest : List ℕ) → list_all is_ascii_digit (d ∷ ds) ≡ true → number (d ∷ ds) ≤ 2 ^ 63 → stops is_ascii_digit rest ≡ true → lexeme (d ∷ (ds ++ rest)) ≡ (kind.Token token.Integer, suc (length ds))
unfolding lexeme
integer_again d ds rest h small k =
    let two = and_parts (is_ascii_digit d) (list_all is_ascii_digit ds) h in
    let l = digit d two.0 in
    rw (l.0, l.1, l.2, l.3, l.4, l.5, two.0) (integer_at d ds rest two.1 small k)

-- ---- runs of symbol characters

symbol : (b : ℕ) → is_symbol b ≡ true → ((b == 37) ≡ false) × ((b == 39) ≡ false) × (is_layout b ≡ false) × (is_ascii_lowercase b ≡ false) × ((is_ascii_uppercase b || b == 95) ≡ false) × (is_ascii_digit b ≡ false)
symbol b h = (grind (arith, nat_tests), grind (arith, nat_tests), grind (arith, nat_tests), grind (arith, nat_tests), grind (arith, nat_tests), grind (arith, nat_tests))

no_star : (c : ℕ) → not (is_symbol c) ≡ true → (c == 42) ≡ false
no_star c h = grind (arith, nat_tests)

opens_no_comment : (b : ℕ) (bs rest : List ℕ) → begins_comment (b ∷ bs) ≡ false → stops is_symbol rest ≡ true → (b == 47 && slice_index (b ∷ (bs ++ rest)) 1 == 42) ≡ false
opens_no_comment b [] [] h k = and-false (b == 47)
opens_no_comment b [] (c ∷ rest) h k = ap (λ x. b == 47 && x) (no_star c k) ∙ and-false (b == 47)
opens_no_comment b (c ∷ bs) rest h k = h

not_one : (n m : ℕ) → n ≡ suc (suc m) → (n == 1) ≡ false
not_one n m e = grind (arith, nat_tests)

not_dot : (b : ℕ) → not (bytes_eq (b ∷ []) (codes ".")) ≡ true → (b == 46) ≡ false
not_dot b h = go (b == 46) refl
  where
    go : (e : Bool) → (b == 46) ≡ e → e ≡ false
    go false p = refl
    go true p = absurd (false≢true (sym (ap (λ x. not (x && true)) p) ∙ h))

symbols_at : (b : ℕ) (bs rest : List ℕ) → not (bytes_eq (b ∷ bs) (codes ".")) ≡ true → list_all is_symbol bs ≡ true → stops is_symbol rest ≡ true → symbols (b ∷ (bs ++ rest)) ≡ (kind.Token token.Symbol, suc (length bs))
symbols_at b [] rest h e k =
    let end = 1 + prefix_len is_symbol rest in
    let long : end ≡ 1 = omega (arith, stopped is_symbol rest k) in
    let stop = ends (b ∷ rest) 1 || slice_index (b ∷ rest) 1 == 37 in
    let test = ap (λ x. (end == 1 && x) && stop) (not_dot b h) ∙ ap (λ x. x && stop) (and-false (end == 1)) in
    ap (λ c. cond c (kind.Token token.End, 1) (kind.Token token.Symbol, end)) test ∙ ap (λ n. (kind.Token token.Symbol, n)) long
symbols_at b (c ∷ bs) rest h e k =
    let end = 1 + prefix_len is_symbol (c ∷ (bs ++ rest)) in
    let long : end ≡ suc (suc (length bs)) = omega (arith, run is_symbol (c ∷ bs) rest e k) in
    let stop = ends (b ∷ c ∷ (bs ++ rest)) 1 || slice_index (b ∷ c ∷ (bs ++ rest)) 1 == 37 in
    let test = ap (λ x. (x && b == 46) && stop) (not_one end (length bs) long) in
    ap (λ c. cond c (kind.Token token.End, 1) (kind.Token token.Symbol, end)) test ∙ ap (λ n. (kind.Token token.Symbol, n)) long

pub symbols_again : (name rest : List ℕ) → is_symbols name ≡ true → stops is_symbol rest ≡ true → lexeme (name ++ rest) ≡ (kind.Token token.Symbol, length name)
unfolding lexeme
symbols_again [] rest h k = absurd (false≢true h)
symbols_again (b ∷ bs) rest h k =
    let outer = and_parts (list_all is_symbol (b ∷ bs) && not (bytes_eq (b ∷ bs) (codes "."))) (not (begins_comment (b ∷ bs))) h in
    let inner = and_parts (list_all is_symbol (b ∷ bs)) (not (bytes_eq (b ∷ bs) (codes "."))) outer.0 in
    let two = and_parts (is_symbol b) (list_all is_symbol bs) inner.0 in
    let l = symbol b two.0 in
    let start = opens_no_comment b bs rest (not-true (begins_comment (b ∷ bs)) outer.1) k in
    rw (l.0, start, l.1, l.2, l.3, l.4, l.5, two.0) (symbols_at b bs rest inner.1 two.1 k)

-- ---- names between quotes

-- a character between quotes, as it is printed
abbrev item_of : ℕ → Item
item_of b = if b == 39 then Escape 39 else (if b == 92 then Escape 92 else (if b == 10 then Escape 110 else (if b == 9 then Escape 116 else Plain b)))

item-text : (b : ℕ) → item_text (item_of b) ≡ escaped b
item-text b = go (b == 39) (b == 92) (b == 10) (b == 9)
  where
    go : (p q r s : Bool) → item_text (if p then Escape 39 else (if q then Escape 92 else (if r then Escape 110 else (if s then Escape 116 else Plain b))))
        ≡ (if p then codes "\\'" else (if q then codes "\\\\" else (if r then codes "\\n" else (if s then codes "\\t" else b ∷ []))))
    go true q r s = refl
    go false true r s = refl
    go false false true s = refl
    go false false false true = refl
    go false false false false = refl

item-is : (b : ℕ) → IsItem (item_of b)
item-is b = go (b == 39) refl (b == 92) refl (b == 10) refl (b == 9)
  where
    go : (p : Bool) → (b == 39) ≡ p → (q : Bool) → (b == 92) ≡ q → (r : Bool) → (b == 10) ≡ r → (s : Bool)
        → IsItem (if p then Escape 39 else (if q then Escape 92 else (if r then Escape 110 else (if s then Escape 116 else Plain b))))
    go true e q f r g s = refl
    go false e true f r g s = refl
    go false e false f true g s = refl
    go false e false f false g true = refl
    go false e false f false g false = rw (e, f, g) refl

items-text : (name : List ℕ) → flat_map item_text (map item_of name) ≡ flat_map escaped name
items-text [] = refl
items-text (b ∷ bs) = ap (λ l. l ++ flat_map item_text (map item_of bs)) (item-text b) ∙ ap (λ l. escaped b ++ l) (items-text bs)

items-are : (name : List ℕ) → AllByRecursion IsItem (map item_of name)
items-are [] = tt
items-are (b ∷ bs) = (item-is b, items-are bs)

closes : (rest : List ℕ) → stops (λ b. b == 39) rest ≡ true → begins 39 rest ≡ false
closes [] h = refl
closes (b ∷ rest) h = not-true (b == 39) h

-- the bytes between quotes are characters where those of the name are

escaped_high : (b : ℕ) → 128 ≤ b → escaped b ≡ b ∷ []
escaped_high b h =
    let p : (b == 39) ≡ false = grind (arith, nat_tests) in
    let q : (b == 92) ≡ false = grind (arith, nat_tests) in
    let r : (b == 10) ≡ false = grind (arith, nat_tests) in
    let s : (b == 9) ≡ false = grind (arith, nat_tests) in
    rw (p, q, r, s) refl

pub one_ascii : (b : ℕ) → b < 128 → IsUtf8 (b ∷ [])
one_ascii b h = IsUtf8-from_ascii (b ∷ []) ascii
  where
    ascii : IsAscii (b ∷ [])
    ascii zero = h
    ascii (suc i) = omega arith

escaped_ascii : (b : ℕ) → b < 128 → IsUtf8 (escaped b)
escaped_ascii b h = go (b == 39) (b == 92) (b == 10) (b == 9)
  where
    go : (p q r s : Bool) → IsUtf8 (if p then codes "\\'" else (if q then codes "\\\\" else (if r then codes "\\n" else (if s then codes "\\t" else b ∷ []))))
    go true q r s = IsUtf8-append (92 ∷ []) (39 ∷ []) (one_ascii 92 (omega arith)) (one_ascii 39 (omega arith))
    go false true r s = IsUtf8-append (92 ∷ []) (92 ∷ []) (one_ascii 92 (omega arith)) (one_ascii 92 (omega arith))
    go false false true s = IsUtf8-append (92 ∷ []) (110 ∷ []) (one_ascii 92 (omega arith)) (one_ascii 110 (omega arith))
    go false false false true = IsUtf8-append (92 ∷ []) (116 ∷ []) (one_ascii 92 (omega arith)) (one_ascii 116 (omega arith))
    go false false false false = one_ascii b h

drop-one_more : (xs ys : List ℕ) (b : ℕ) → drop (length xs + 1) (xs ++ b ∷ ys) ≡ ys
drop-one_more [] ys b = refl
drop-one_more (x ∷ xs) ys b = let e : length (x ∷ xs) + 1 ≡ suc (length xs + 1) = omega arith in rw e (drop-one_more xs ys b)

-- before and behind an ASCII byte
split_at_ascii : (xs ys : List ℕ) (b : ℕ) → b < 128 → IsUtf8 (xs ++ b ∷ ys) → IsUtf8 xs × IsUtf8 ys
split_at_ascii xs ys b h u =
    let all = xs ++ b ∷ ys in
    let within : length xs < length all = omega (arith, length-append xs (b ∷ ys)) in
    let low : get_or all (length xs) 0 < 128 = subst (λ c. c < 128) (sym (get_or_at xs b ys 0 (length xs) refl)) h in
    let here : IsCharBoundary all (length xs) = (omega arith, λ inside lead. absurd (omega (arith, low, lead))) in (
      subst IsUtf8 (take_at xs (b ∷ ys) (length xs) refl) (IsUtf8-take all (length xs) u here),
      subst IsUtf8 (drop-one_more xs ys b) (IsUtf8-drop all (length xs + 1) u (IsCharBoundary-after_ascii all (length xs) u within low)),
    )

escaped_utf8 : (before name : List ℕ) → IsUtf8 (before ++ name) → IsUtf8 (before ++ flat_map escaped name)
escaped_utf8 before [] u = u
escaped_utf8 before (b ∷ name) u = go (nat_lt b 128) refl (escaped_utf8 [] name) (escaped_utf8 (before ++ b ∷ []) name)
  where
    go : (t : Bool) → nat_lt b 128 ≡ t → (IsUtf8 name → IsUtf8 (flat_map escaped name)) → (IsUtf8 ((before ++ b ∷ []) ++ name) → IsUtf8 ((before ++ b ∷ []) ++ flat_map escaped name))
        → IsUtf8 (before ++ (escaped b ++ flat_map escaped name))
    go true e alone behind =
        let low : b < 128 = grind (arith, nat_tests) in
        let parts = split_at_ascii before name b low u in
        IsUtf8-append before (escaped b ++ flat_map escaped name) parts.0 (IsUtf8-append (escaped b) (flat_map escaped name) (escaped_ascii b low) (alone parts.1))
    go false e alone behind =
        let high : 128 ≤ b = grind (arith, nat_tests) in
        subst IsUtf8 (append_assoc before (b ∷ []) (flat_map escaped name) ∙ ap (λ l. before ++ (l ++ flat_map escaped name)) (sym (escaped_high b high)))
        (behind (subst IsUtf8 (sym (append_assoc before (b ∷ []) name)) u))

-- a quote, the characters of a name, and a quote
quoted_utf8 : (name : List ℕ) → IsUtf8 name → IsUtf8 (39 ∷ (flat_map escaped name ++ 39 ∷ []))
quoted_utf8 name u =
    IsUtf8-append (39 ∷ []) (flat_map escaped name ++ 39 ∷ []) (one_ascii 39 (omega arith)) (IsUtf8-append (flat_map escaped name) (39 ∷ []) (escaped_utf8 [] name u) (one_ascii 39 (omega arith)))

pub quoted_again : (name rest : List ℕ) → IsUtf8 name → stops (λ b. b == 39) rest ≡ true → All (λ b. b < 256) (39 ∷ (flat_map escaped name ++ 39 ∷ []) ++ rest)
    → lexeme (39 ∷ (flat_map escaped name ++ 39 ∷ []) ++ rest) ≡ (kind.Token token.Quoted, length (39 ∷ (flat_map escaped name ++ 39 ∷ [])))
quoted_again name rest u k bytes =
    let whole : List ℕ = 39 ∷ (flat_map escaped name ++ 39 ∷ []) in
    again token.Quoted (whole ++ rest) (length whole) bytes (omega arith) (record {
      items = map item_of name;
      rest = rest;
      are_items = items-are name;
      spelled = ap (λ l. 39 ∷ l) (append_assoc (flat_map escaped name) (39 ∷ []) rest ∙ ap (λ l. l ++ 39 ∷ rest) (sym (items-text name)));
      closes = closes rest k;
      len = omega (arith, length-append (flat_map escaped name) (39 ∷ []), ap length (items-text name));
      characters = valid_least (whole ++ rest) (length whole) (omega (arith, length-append whole rest)) (subst IsUtf8 (sym (take_at whole rest (length whole) refl)) (quoted_utf8 name u));
    })
