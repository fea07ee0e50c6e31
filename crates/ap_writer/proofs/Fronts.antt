-- The first mark of a text: what marks spell tells which marks they are.
use Rattle.std.proofs.Common.{◌≡◌, ℕ, ℤ, pos, negsuc, zero, suc, ◌+◌, ◌%◌, ◌<◌, ◌^◌, ◌==◌, ◌&&◌, ◌||◌, not, Bool, true, false, if◌then◌else◌, List, [], ◌∷◌, ◌++◌, codes, flat_map, bytes_eq, refl, ap, sym, subst, ◌∙◌, append_assoc, arith}
use Rattle.std.specs.Char.{is_ascii_digit, is_ascii_lowercase}
use Rattle.std.specs.List.{list_all}
use Rattle.std.specs.Fmt.{decimal, signed_decimal}
use Rattle.std.specs.Str.Parse.{digits_value}
use Rattle.std.proofs.lemmas.Bool.{false≢true, and_parts, ltb-true}
use Rattle.std.proofs.lemmas.Bool.Decides.{nat_tests, Decides-eqb}
use Rattle.std.proofs.lemmas.Fmt.{decimal_is_IsNumeral, decimal_by_steps}
use Rattle.std.proofs.lemmas.List.{append_cancel_left}
use Rattle.std.proofs.lemmas.List.Folds.{list_all-append}
use Rattle.std.proofs.lemmas.Slice.Eq.{bytes_eq-Decides}
use Rattle.ap_term.specs.Arithmetic.{fits}
use Rattle.ap_writer.specs.Quoted.{is_word, is_symbol, is_name, is_symbols, is_bare, escaped, name_text}
use Rattle.ap_writer.proofs.Marks.{Mark, Variable, Integer, Name, Call, OpenList, CloseList, Comma, Bar, Close, spelling, spelled}

-- ---- runs of bytes

-- what is taken from the front of a text, and what follows it
record Cut : Type 0 where
  taken : List ℕ
  rest : List ℕ

abbrev longer : ℕ → Cut → Cut
longer b c = record { taken = b ∷ c.taken; rest = c.rest }

-- the bytes that pass a test, up to the first that doesn't
abbrev run : (ℕ → Bool) → List ℕ → Cut
run p [] = record { taken = []; rest = [] }
run p (b ∷ bs) = if p b then longer b (run p bs) else record { taken = []; rest = b ∷ bs }

abbrev pub stops : (ℕ → Bool) → List ℕ → Bool
stops p [] = true
stops p (b ∷ bs) = not (p b)

run-is : (p : ℕ → Bool) (xs rest : List ℕ) → list_all p xs ≡ true → stops p rest ≡ true → run p (xs ++ rest) ≡ record { taken = xs; rest = rest }
run-is p [] [] h s = refl
run-is p [] (b ∷ bs) h s = go (p b) s
  where
    go : (t : Bool) → not t ≡ true → (if t then longer b (run p bs) else record { taken = []; rest = b ∷ bs }) ≡ record { taken = []; rest = b ∷ bs }
    go true s = absurd (false≢true s)
    go false s = refl
run-is p (x ∷ xs) rest h s =
    let w = and_parts (p x) (list_all p xs) h in
    ap (λ t. if t then longer x (run p (xs ++ rest)) else record { taken = []; rest = x ∷ (xs ++ rest) }) w.0 ∙ ap (longer x) (run-is p xs rest w.1 s)

-- ---- what parts a name or a number from what follows it

-- a comma, a bar, a closing bracket, a parenthesis or the end
abbrev parts : List ℕ → Bool
parts [] = true
parts (b ∷ bs) = b == 44 || (b == 124 || (b == 93 || (b == 41 || b == 40)))

parts-digit : (rest : List ℕ) → parts rest ≡ true → stops is_ascii_digit rest ≡ true
parts-digit [] h = refl
parts-digit (b ∷ bs) h = grind (arith, nat_tests)

parts-word : (rest : List ℕ) → parts rest ≡ true → stops is_word rest ≡ true
parts-word [] h = refl
parts-word (b ∷ bs) h = grind (arith, nat_tests)

parts-symbol : (rest : List ℕ) → parts rest ≡ true → stops is_symbol rest ≡ true
parts-symbol [] h = refl
parts-symbol (b ∷ bs) h = grind (arith, nat_tests)

-- ---- names

-- a name between quotes, up to the quote that closes it; after a backslash where it says so
abbrev unquoted : Bool → List ℕ → Cut
unquoted e [] = record { taken = []; rest = [] }
unquoted true (b ∷ bs) = longer (if b == 110 then 10 else (if b == 116 then 9 else b)) (unquoted false bs)
unquoted false (b ∷ bs) = if b == 39 then record { taken = []; rest = bs } else (if b == 92 then unquoted true bs else longer b (unquoted false bs))

unquoted-is : (name rest : List ℕ) → unquoted false (flat_map escaped name ++ 39 ∷ rest) ≡ record { taken = name; rest = rest }
unquoted-is [] rest = refl
unquoted-is (b ∷ bs) rest = ap (unquoted false) (append_assoc (escaped b) (flat_map escaped bs) (39 ∷ rest)) ∙ go (b == 39) refl (b == 92) refl (b == 10) refl (b == 9) refl (unquoted-is bs rest)
  where
    go : (p : Bool) → (b == 39) ≡ p → (q : Bool) → (b == 92) ≡ q → (r : Bool) → (b == 10) ≡ r → (s : Bool) → (b == 9) ≡ s
        → unquoted false (flat_map escaped bs ++ 39 ∷ rest) ≡ record { taken = bs; rest = rest }
        → unquoted false ((if p then codes "\\'" else (if q then codes "\\\\" else (if r then codes "\\n" else (if s then codes "\\t" else b ∷ [])))) ++ (flat_map escaped bs ++ 39 ∷ rest)) ≡ record { taken = b ∷ bs; rest = rest }
    go true e q f r g s h ih = ap (longer 39) ih ∙ ap (λ c. record { taken = c ∷ bs; rest = rest }) (sym ((Decides-eqb b 39).0 e))
    go false e true f r g s h ih = ap (longer 92) ih ∙ ap (λ c. record { taken = c ∷ bs; rest = rest }) (sym ((Decides-eqb b 92).0 f))
    go false e false f true g s h ih = ap (longer 10) ih ∙ ap (λ c. record { taken = c ∷ bs; rest = rest }) (sym ((Decides-eqb b 10).0 g))
    go false e false f false g true h ih = ap (longer 9) ih ∙ ap (λ c. record { taken = c ∷ bs; rest = rest }) (sym ((Decides-eqb b 9).0 h))
    go false e false f false g false h ih = rw (e, f) (ap (longer b) ih)

abbrev behind : List ℕ → List ℕ
behind [] = []
behind (b ∷ bs) = bs

-- a name at the front of a text
abbrev name_front : List ℕ → Cut
name_front [] = record { taken = []; rest = [] }
name_front (b ∷ bs) =
    if b == 39 then unquoted false bs
    else (if is_symbol b then longer b (run is_symbol bs)
    else (if is_ascii_lowercase b then longer b (run is_word bs)
    else (if b == 91 then record { taken = codes "[]"; rest = behind bs }
    else record { taken = b ∷ []; rest = bs })))

abbrev begins : ℕ → List ℕ → Bool
begins c [] = false
begins c (b ∷ bs) = b == c

abbrev begins_digit : List ℕ → Bool
begins_digit [] = false
begins_digit (b ∷ bs) = is_ascii_digit b

-- what a name's text begins with: no minus before a digit, and no bracket but that of `[]`
abbrev begins_name : List ℕ → Bool
begins_name [] = false
begins_name (b ∷ bs) =
    b == 39 || ((is_symbol b && not (b == 45 && begins_digit bs)) || (is_ascii_lowercase b || ((b == 91 && begins 93 bs) || (b == 59 || b == 33))))

record IsFront (name rest text : List ℕ) : Type 0 where
  read : name_front text ≡ record { taken = name; rest = rest }
  begins : begins_name text ≡ true

no_digit : (bs rest : List ℕ) → list_all is_symbol bs ≡ true → parts rest ≡ true → begins_digit (bs ++ rest) ≡ false
no_digit [] [] h p = refl
no_digit [] (c ∷ cs) h p = grind (arith, nat_tests)
no_digit (b ∷ bs) rest h p = let first : is_symbol b ≡ true = (and_parts (is_symbol b) (list_all is_symbol bs) h).0 in grind (arith, nat_tests)

symbol_quote : (b : ℕ) → is_symbol b ≡ true → (b == 39) ≡ false
symbol_quote b h = grind (arith, nat_tests)

lower_symbol : (b : ℕ) → is_ascii_lowercase b ≡ true → ((b == 39) ≡ false) × (is_symbol b ≡ false)
lower_symbol b h = (grind (arith, nat_tests), grind (arith, nat_tests))

minus_false : (b : Bool) → not (b && false) ≡ true
minus_false true = refl
minus_false false = refl

symbols-front : (name rest : List ℕ) → is_symbols name ≡ true → parts rest ≡ true → IsFront name rest (name ++ rest)
symbols-front [] rest h p = absurd (false≢true h)
symbols-front (b ∷ bs) rest h p =
    let every = and_parts (is_symbol b) (list_all is_symbol bs) (and_parts (list_all is_symbol (b ∷ bs)) _ (and_parts (list_all is_symbol (b ∷ bs) && not (bytes_eq (b ∷ bs) (codes "."))) _ h).0).0 in
    let first : is_symbol b ≡ true = every.0 in
    let quote : (b == 39) ≡ false = symbol_quote b first in
    let digit : begins_digit (bs ++ rest) ≡ false = no_digit bs rest every.1 p in
    record {
      read = rw (quote, first) (ap (longer b) (run-is is_symbol bs rest every.1 (parts-symbol rest p)));
      begins = rw (quote, first, digit) (ap (λ t. t || (is_ascii_lowercase b || ((b == 91 && begins 93 (bs ++ rest)) || (b == 59 || b == 33)))) (minus_false (b == 45)));
    }

words-front : (name rest : List ℕ) → is_name name ≡ true → parts rest ≡ true → IsFront name rest (name ++ rest)
words-front [] rest h p = absurd (false≢true h)
words-front (b ∷ bs) rest h p =
    let w = and_parts (is_ascii_lowercase b) (list_all is_word bs) h in
    let lower : is_ascii_lowercase b ≡ true = w.0 in
    let quote : (b == 39) ≡ false = (lower_symbol b lower).0 in
    let symbol : is_symbol b ≡ false = (lower_symbol b lower).1 in
    record {
      read = rw (quote, symbol, lower) (ap (longer b) (run-is is_word bs rest w.1 (parts-word rest p)));
      begins = rw (quote, symbol, lower) refl;
    }

spelled-front : (name word rest : List ℕ) → bytes_eq name word ≡ true → IsFront word rest (word ++ rest) → IsFront name rest (name ++ rest)
spelled-front name word rest e h = subst (λ n. IsFront n rest (n ++ rest)) (sym ((bytes_eq-Decides name word).0 e)) h

bare-front : (name rest : List ℕ) → is_bare name ≡ true → parts rest ≡ true → IsFront name rest (name ++ rest)
bare-front name rest h p = go (is_name name) refl (is_symbols name) refl (bytes_eq name (codes "[]")) refl (bytes_eq name (codes ";")) refl (bytes_eq name (codes "!")) refl h
  where
    go : (n : Bool) → is_name name ≡ n → (s : Bool) → is_symbols name ≡ s → (l : Bool) → bytes_eq name (codes "[]") ≡ l → (o : Bool) → bytes_eq name (codes ";") ≡ o → (c : Bool) → bytes_eq name (codes "!") ≡ c
        → (n || s || l || o || c) ≡ true → IsFront name rest (name ++ rest)
    go true e s f l g o i c j h = words-front name rest e p
    go false e true f l g o i c j h = symbols-front name rest f p
    go false e false f true g o i c j h = spelled-front name (codes "[]") rest g (record { read = refl; begins = refl })
    go false e false f false g true i c j h = spelled-front name (codes ";") rest i (record { read = refl; begins = refl })
    go false e false f false g false i true j h = spelled-front name (codes "!") rest j (record { read = refl; begins = refl })
    go false e false f false g false i false j h = absurd (false≢true h)

name-front : (name rest : List ℕ) → parts rest ≡ true → IsFront name rest (name_text name ++ rest)
name-front name rest p = go (is_bare name) refl
  where
    go : (b : Bool) → is_bare name ≡ b → IsFront name rest ((if b then name else 39 ∷ (flat_map escaped name ++ 39 ∷ [])) ++ rest)
    go true e = bare-front name rest e p
    go false e = record {
      read = ap (unquoted false) (append_assoc (flat_map escaped name) (39 ∷ []) rest) ∙ unquoted-is name rest;
      begins = refl;
    }

-- ---- numbers

abbrev are_digits : List ℕ → Bool
are_digits ds = begins_digit ds && list_all is_ascii_digit ds

digits-more : (ds : List ℕ) (n : ℕ) → are_digits ds ≡ true → are_digits (ds ++ ((48 + n % 10) ∷ [])) ≡ true
digits-more [] n h = absurd (false≢true h)
digits-more (d ∷ ds) n h =
    let w = and_parts (is_ascii_digit d) (list_all is_ascii_digit (d ∷ ds)) h in
    let v = and_parts (is_ascii_digit d) (list_all is_ascii_digit ds) w.1 in
    let last : is_ascii_digit (48 + n % 10) ≡ true = grind (arith, nat_tests) in
    let e : list_all is_ascii_digit (ds ++ ((48 + n % 10) ∷ [])) ≡ true = list_all-append is_ascii_digit ds ((48 + n % 10) ∷ []) ∙ rw (v.1, last) refl in
    rw (v.0, e) refl

digits-decimal : (n : ℕ) → n < 2 ^ 64 → are_digits (decimal n) ≡ true
digits-decimal = decimal_by_steps (λ n ds. are_digits ds ≡ true)
    (λ n small. let d : is_ascii_digit (48 + n) ≡ true = grind (arith, nat_tests) in rw d refl)
    (λ n ds large h. digits-more ds n h)

number_front : List ℕ → ℕ
number_front text = digits_value 10 (run is_ascii_digit text).taken

number-front : (n : ℕ) (rest : List ℕ) → n < 2 ^ 64 → parts rest ≡ true → number_front (decimal n ++ rest) ≡ n
unfolding number_front
number-front n rest small p =
    ap (λ c. digits_value 10 c.taken) (run-is is_ascii_digit (decimal n) rest (and_parts (begins_digit (decimal n)) _ (digits-decimal n small)).1 (parts-digit rest p))
    ∙ (decimal_is_IsNumeral n small).1

-- ---- the first mark

abbrev named : Cut → Mark
named c = if begins 40 c.rest then Call c.taken else Name c.taken

abbrev negative : ℕ → ℤ
negative zero = pos 0
negative (suc n) = negsuc n

abbrev unnamed : ℕ → List ℕ → Mark
unnamed b bs =
    if b == 95 then Variable (number_front bs)
    else (if is_ascii_digit b then Integer (pos (number_front (b ∷ bs)))
    else (if b == 45 then Integer (negative (number_front bs))
    else (if b == 91 then OpenList
    else (if b == 93 then CloseList
    else (if b == 44 then Comma
    else (if b == 124 then Bar
    else Close))))))

abbrev front : List ℕ → Mark
front [] = Close
front (b ∷ bs) = if begins_name (b ∷ bs) then named (name_front (b ∷ bs)) else unnamed b bs

-- ---- which mark may stand before which

-- a name or a number ends there
abbrev pub ends_marks : List Mark → Bool
ends_marks [] = true
ends_marks (CloseList ∷ ms) = true
ends_marks (Comma ∷ ms) = true
ends_marks (Bar ∷ ms) = true
ends_marks (Close ∷ ms) = true
ends_marks _ = false

-- an element of a list begins there
abbrev pub begins_element : List Mark → Bool
begins_element [] = false
begins_element (CloseList ∷ ms) = false
begins_element _ = true

abbrev pub Fits : Mark → List Mark → Type 0
Fits (Variable n) ms = (n < 2 ^ 64) × (ends_marks ms ≡ true)
Fits (Integer z) ms = (fits z ≡ true) × (ends_marks ms ≡ true)
Fits (Name name) ms = ends_marks ms ≡ true
Fits OpenList ms = begins_element ms ≡ true
Fits _ ms = Unit {0}

abbrev pub Parted : List Mark → Type 0
Parted [] = Unit {0}
Parted (m ∷ ms) = Fits m ms × Parted ms

-- ---- it is the one that was written

-- what may follow a term: nothing, or a comma and a blank
abbrev pub is_behind : List ℕ → Bool
is_behind [] = true
is_behind (b ∷ []) = false
is_behind (b ∷ c ∷ bs) = b == 44 && c == 32

abbrev ends : List ℕ → Bool
ends [] = true
ends (b ∷ bs) = b == 44 || (b == 124 || (b == 93 || b == 41))

ends-parts : (text : List ℕ) → ends text ≡ true → parts text ≡ true
ends-parts [] h = refl
ends-parts (b ∷ bs) h = grind (arith, nat_tests)

ends-open : (text : List ℕ) → ends text ≡ true → begins 40 text ≡ false
ends-open [] h = refl
ends-open (b ∷ bs) h = grind (arith, nat_tests)

behind-ends : (r : List ℕ) → is_behind r ≡ true → ends r ≡ true
behind-ends [] h = refl
behind-ends (b ∷ []) h = absurd (false≢true h)
behind-ends (b ∷ c ∷ bs) h = let e : (b == 44) ≡ true = (and_parts (b == 44) (c == 32) h).0 in rw e refl

spelled-ends : (ms : List Mark) (r : List ℕ) → ends_marks ms ≡ true → is_behind r ≡ true → ends (spelled ms ++ r) ≡ true
spelled-ends [] r h k = behind-ends r k
spelled-ends (CloseList ∷ ms) r h k = refl
spelled-ends (Comma ∷ ms) r h k = refl
spelled-ends (Bar ∷ ms) r h k = refl
spelled-ends (Close ∷ ms) r h k = refl
spelled-ends (Variable n ∷ ms) r h k = absurd (false≢true h)
spelled-ends (Integer z ∷ ms) r h k = absurd (false≢true h)
spelled-ends (Name name ∷ ms) r h k = absurd (false≢true h)
spelled-ends (Call name ∷ ms) r h k = absurd (false≢true h)
spelled-ends (OpenList ∷ ms) r h k = absurd (false≢true h)

named-front : (text : List ℕ) → begins_name text ≡ true → front text ≡ named (name_front text)
named-front [] h = absurd (false≢true h)
named-front (b ∷ bs) h = ap (λ t. if t then named (name_front (b ∷ bs)) else unnamed b bs) h

name-is : (name rest : List ℕ) → parts rest ≡ true → front (name_text name ++ rest) ≡ named (record { taken = name; rest = rest })
name-is name rest p = let f = name-front name rest p in named-front (name_text name ++ rest) f.begins ∙ ap named f.read

digit_name : (b : ℕ) (bs : List ℕ) → is_ascii_digit b ≡ true → (begins_name (b ∷ bs) ≡ false) × ((b == 95) ≡ false)
digit_name b bs h =
    let quote : (b == 39) ≡ false = grind (arith, nat_tests) in
    let symbol : is_symbol b ≡ false = grind (arith, nat_tests) in
    let lower : is_ascii_lowercase b ≡ false = grind (arith, nat_tests) in
    let bracket : (b == 91) ≡ false = grind (arith, nat_tests) in
    let semicolon : (b == 59) ≡ false = grind (arith, nat_tests) in
    let cut : (b == 33) ≡ false = grind (arith, nat_tests) in
    (rw (quote, symbol, lower, bracket, semicolon, cut) refl, grind (arith, nat_tests))

digits-is : (ds rest : List ℕ) → are_digits ds ≡ true → front (ds ++ rest) ≡ Integer (pos (number_front (ds ++ rest)))
digits-is [] rest h = absurd (false≢true h)
digits-is (d ∷ ds) rest h =
    let digit : is_ascii_digit d ≡ true = (and_parts (is_ascii_digit d) (list_all is_ascii_digit (d ∷ ds)) h).0 in
    let n = digit_name d (ds ++ rest) digit in
    let name : begins_name (d ∷ (ds ++ rest)) ≡ false = n.0 in
    let low : (d == 95) ≡ false = n.1 in
    rw (name, low, digit) refl

minus-is : (text : List ℕ) → begins_digit text ≡ true → front (45 ∷ text) ≡ Integer (negative (number_front text))
minus-is text h = rw h refl

begins-digits : (ds rest : List ℕ) → are_digits ds ≡ true → begins_digit (ds ++ rest) ≡ true
begins-digits [] rest h = absurd (false≢true h)
begins-digits (d ∷ ds) rest h = (and_parts (is_ascii_digit d) (list_all is_ascii_digit (d ∷ ds)) h).0

integer-is : (z : ℤ) (rest : List ℕ) → fits z ≡ true → parts rest ≡ true → front (signed_decimal z ++ rest) ≡ Integer z
integer-is (pos n) rest h p =
    let small : n < 2 ^ 64 = (let k = ltb-true n (2 ^ 63) h in omega arith) in
    digits-is (decimal n) rest (digits-decimal n small) ∙ ap (λ k. Integer (pos k)) (number-front n rest small p)
integer-is (negsuc n) rest h p =
    let small : suc n < 2 ^ 64 = (let k = ltb-true n (2 ^ 63) h in omega arith) in
    minus-is (decimal (suc n) ++ rest) (begins-digits (decimal (suc n)) rest (digits-decimal (suc n) small)) ∙ ap (λ k. Integer (negative k)) (number-front (suc n) rest small p)

-- no bracket is closed where an element begins
begins-close : (text : List ℕ) (m : Mark) → front text ≡ m → (m ≡ CloseList → ⊥) → begins 93 text ≡ false
begins-close [] m e h = refl
begins-close (b ∷ bs) m e h = go (b == 93) refl
  where
    go : (t : Bool) → (b == 93) ≡ t → t ≡ false
    go true f = absurd (h (sym e ∙ ap (λ c. front (c ∷ bs)) ((Decides-eqb b 93).0 f)))
    go false f = refl

list-is : (text : List ℕ) → begins 93 text ≡ false → front (91 ∷ text) ≡ OpenList
list-is text h = rw h refl

-- the first mark is the one that was written
abbrev First : List Mark → List ℕ → Type 0
First [] r = Unit {0}
First (m ∷ ms) r = front (spelling m ++ (spelled ms ++ r)) ≡ m

other-than-close : (m : Mark) (ms : List Mark) (r : List ℕ) → First (m ∷ ms) r → (m ≡ CloseList → ⊥) → begins 93 (spelled (m ∷ ms) ++ r) ≡ false
other-than-close m ms r f h = ap (begins 93) (append_assoc (spelling m) (spelled ms) r) ∙ begins-close (spelling m ++ (spelled ms ++ r)) m f h

element-is : (ms : List Mark) (r : List ℕ) → begins_element ms ≡ true → First ms r → begins 93 (spelled ms ++ r) ≡ false
element-is [] r h f = absurd (false≢true h)
element-is (CloseList ∷ ms) r h f = absurd (false≢true h)
element-is (Variable n ∷ ms) r h f = refl
element-is (Integer z ∷ ms) r h f = other-than-close (Integer z) ms r f (λ e. cc)
element-is (Name name ∷ ms) r h f = other-than-close (Name name) ms r f (λ e. cc)
element-is (Call name ∷ ms) r h f = other-than-close (Call name) ms r f (λ e. cc)
element-is (OpenList ∷ ms) r h f = refl
element-is (Comma ∷ ms) r h f = refl
element-is (Bar ∷ ms) r h f = refl
element-is (Close ∷ ms) r h f = refl

mark-is : (m : Mark) (ms : List Mark) (r : List ℕ) → Fits m ms → First ms r → is_behind r ≡ true → front (spelling m ++ (spelled ms ++ r)) ≡ m
mark-is (Variable n) ms r f p k = ap Variable (number-front n (spelled ms ++ r) f.0 (ends-parts (spelled ms ++ r) (spelled-ends ms r f.1 k)))
mark-is (Integer z) ms r f p k = integer-is z (spelled ms ++ r) f.0 (ends-parts (spelled ms ++ r) (spelled-ends ms r f.1 k))
mark-is (Name name) ms r f p k =
    let e = spelled-ends ms r f k in
    name-is name (spelled ms ++ r) (ends-parts (spelled ms ++ r) e) ∙ ap (λ t. if t then Call name else Name name) (ends-open (spelled ms ++ r) e)
mark-is (Call name) ms r f p k = ap front (append_assoc (name_text name) (codes "(") (spelled ms ++ r)) ∙ name-is name (codes "(" ++ (spelled ms ++ r)) refl
mark-is OpenList ms r f p k = list-is (spelled ms ++ r) (element-is ms r f p)
mark-is CloseList ms r f p k = refl
mark-is Comma ms r f p k = refl
mark-is Bar ms r f p k = refl
mark-is Close ms r f p k = refl

first-is : (ms : List Mark) (r : List ℕ) → Parted ms → is_behind r ≡ true → First ms r
first-is [] r p k = tt
first-is (m ∷ ms) r p k = mark-is m ms r p.0 (first-is ms r p.1 k) k

-- ---- marks that are spelled alike are the same

spelled-first : (n : Mark) (ns : List Mark) (s : List ℕ) → Parted (n ∷ ns) → is_behind s ≡ true → front (spelled (n ∷ ns) ++ s) ≡ n
spelled-first n ns s p l = ap front (append_assoc (spelling n) (spelled ns) s) ∙ first-is (n ∷ ns) s p l

same-heads : (b c : ℕ) (xs ys : List ℕ) → b ∷ xs ≡ c ∷ ys → (b ≡ c) × (xs ≡ ys)
same-heads b c xs ys e = (cc, cc)

other-heads : (xs ys : List ℕ) → 32 ∷ xs ≡ 41 ∷ ys → ⊥
other-heads xs ys e = cc

not-nil : (c : ℕ) (ys : List ℕ) → [] ≡ c ∷ ys → ⊥
not-nil c ys e = cc

spells-something : (n : Mark) (ns : List Mark) (s : List ℕ) → Parted (n ∷ ns) → is_behind s ≡ true → [] ≡ spelled (n ∷ ns) ++ s → ⊥
spells-something n ns s p l e =
    let is : Close ≡ n = ap front e ∙ spelled-first n ns s p l in
    not-nil 41 (spelled ns ++ s) (subst (λ m. [] ≡ spelled (m ∷ ns) ++ s) (sym is) e)

-- no mark begins with a blank
no-blank : (ns : List Mark) (s bs : List ℕ) → Parted ns → is_behind s ≡ true → 32 ∷ bs ≡ spelled ns ++ s → ⊥
no-blank [] [] bs p l e = not-nil 32 bs (sym e)
no-blank [] (c ∷ []) bs p l e = false≢true l
no-blank [] (c ∷ d ∷ cs) bs p l e =
    let comma : c ≡ 44 = (Decides-eqb c 44).0 (and_parts (c == 44) (d == 32) l).0 in
    let blank : 32 ≡ c = (same-heads 32 c bs (d ∷ cs) e).0 in
    absurd (omega arith)
no-blank (n ∷ ns) s bs p l e =
    let is : Close ≡ n = ap front e ∙ spelled-first n ns s p l in
    other-heads bs (spelled ns ++ s) (subst (λ m. 32 ∷ bs ≡ spelled (m ∷ ns) ++ s) (sym is) e)

-- no mark spells a comma and a blank
not-behind : (n : Mark) (ns : List Mark) (r s : List ℕ) → Parted (n ∷ ns) → is_behind r ≡ true → is_behind s ≡ true → r ≡ spelled (n ∷ ns) ++ s → ⊥
not-behind n ns [] s p k l e = spells-something n ns s p l e
not-behind n ns (b ∷ []) s p k l e = false≢true k
not-behind n ns (b ∷ c ∷ bs) s p k l e =
    let w = and_parts (b == 44) (c == 32) k in
    let comma : 44 ∷ c ∷ bs ≡ spelled (n ∷ ns) ++ s = ap (λ x. x ∷ c ∷ bs) (sym ((Decides-eqb b 44).0 w.0)) ∙ e in
    let is : Comma ≡ n = ap front comma ∙ spelled-first n ns s p l in
    let rest : c ∷ bs ≡ spelled ns ++ s = (same-heads 44 44 (c ∷ bs) (spelled ns ++ s) (subst (λ m. 44 ∷ c ∷ bs ≡ spelled (m ∷ ns) ++ s) (sym is) comma)).1 in
    no-blank ns s bs p.1 l (ap (λ x. x ∷ bs) (sym ((Decides-eqb c 32).0 w.1)) ∙ rest)

pub unique : (ms ns : List Mark) (r s : List ℕ) → Parted ms → Parted ns → is_behind r ≡ true → is_behind s ≡ true → spelled ms ++ r ≡ spelled ns ++ s → (ms ≡ ns) × (r ≡ s)
unique [] [] r s p q k l e = (refl, e)
unique [] (n ∷ ns) r s p q k l e = absurd (not-behind n ns r s q k l e)
unique (m ∷ ms) [] r s p q k l e = absurd (not-behind m ms s r p l k (sym e))
unique (m ∷ ms) (n ∷ ns) r s p q k l e =
    let e1 : spelling m ++ (spelled ms ++ r) ≡ spelling n ++ (spelled ns ++ s) = sym (append_assoc (spelling m) (spelled ms) r) ∙ e ∙ append_assoc (spelling n) (spelled ns) s in
    let same : m ≡ n = sym (first-is (m ∷ ms) r p k) ∙ ap front e1 ∙ first-is (n ∷ ns) s q l in
    let e2 : spelling n ++ (spelled ms ++ r) ≡ spelling n ++ (spelled ns ++ s) = subst (λ x. spelling x ++ (spelled ms ++ r) ≡ spelling n ++ (spelled ns ++ s)) same e1 in
    let rest = unique ms ns r s p.1 q.1 k l (append_cancel_left (spelling n) (spelled ms ++ r) (spelled ns ++ s) e2) in
    (ap (λ x. x ∷ ms) same ∙ ap (λ xs. n ∷ xs) rest.0, rest.1)
