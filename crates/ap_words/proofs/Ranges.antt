-- Numbers are in their ranges.
use Rattle.std.proofs.Common.{◌≡◌, ◌<◌, ◌≤◌, ◌^◌, ◌&&◌, ℕ, Bool, true, false, nat_le, List, [], ◌∷◌, length, Option, Some, None, ap, sym, subst, refl, rules, arith, if◌then◌else◌}
use Rattle.std.specs.Prelude.{option_map, option_and_then, bytes_eq, codes, not, ◌==◌}
use Rattle.std.specs.Char.{is_ascii_digit}
use Rattle.std.specs.List.{list_all}
use Rattle.std.specs.Str.Parse.{digits_value}
use Rattle.std.proofs.lemmas.Str.Parse.{IsNumeralModel, numerals_by_value}
use Rattle.std.proofs.lemmas.Bool.{false≢true, and_parts}
use Rattle.ap_words.specs.Numbers.{is_numeral, number}
use Rattle.ap_words.specs.Table.{Text}
use Rattle.ap_words.specs.Values.{Values, given}
use Rattle.ap_words.specs.Asked.{Asked, Show, annotator_or, asked_by, codes_of, load_by, loads, number_at, number_or, run, run_by, runs, show_by, shows, text_at, workers_by}
use Rattle.ap_words.specs.declared.asked.Annotator.{Annotator}
use Rattle.ap_words.specs.Reading.{InRange, asks}

pub digits : IsNumeralModel (λ ds. list_all is_ascii_digit ds ≡ true) (digits_value 10)
digits = numerals_by_value (λ ds. list_all is_ascii_digit ds ≡ true) (search rules)

pub numeral_digits : (word : List ℕ) → is_numeral word ≡ true → (list_all is_ascii_digit word ≡ true) × (0 < length word)
numeral_digits [] h = absurd (false≢true h)
numeral_digits (d ∷ ds) h = let behind = and_parts (not (length (d ∷ ds) == 0)) _ h in ((and_parts (list_all is_ascii_digit (d ∷ ds)) _ behind.1).0, omega arith)

le_of : (a b : ℕ) → nat_le a b ≡ true → a ≤ b
le_of a b h = search (rules, h)

pub number_in : (least greatest n : ℕ) (word : Text) → number least greatest word ≡ Some n → (least ≤ n) × (n ≤ greatest)
number_in least greatest n word e = go (is_numeral word) (nat_le least v) (nat_le v greatest) refl refl e
  where
    v : ℕ
    v = digits_value 10 word

    go : (a b c : Bool) → nat_le least v ≡ b → nat_le v greatest ≡ c → (if a && (b && c) then Some v else None) ≡ Some n → (least ≤ n) × (n ≤ greatest)
    go true true true h k e = let same : v ≡ n = cc in subst (λ m. (least ≤ m) × (m ≤ greatest)) same (le_of least v h, le_of v greatest k)
    go true true false h k e = cc
    go true false c h k e = cc
    go false b c h k e = cc

-- a numeral that 64 bits don't hold is past every number that they hold
pub number_unread : (least greatest : ℕ) (word : Text) → greatest < 2 ^ 64 → ((0 < length word) × (digits_value 10 word < 2 ^ 64) → ⊥) → is_numeral word ≡ true → None ≡ number least greatest word
number_unread least greatest word small unread is = go (nat_le least v) (nat_le v greatest) refl
  where
    v : ℕ
    v = digits_value 10 word

    go : (b c : Bool) → nat_le v greatest ≡ c → None ≡ (if is_numeral word && (b && c) then Some v else None)
    go true true k = let le : v ≤ greatest = le_of v greatest k in absurd (unread ((numeral_digits word is).1, omega (arith, le, small)))
    go true false k = ap (λ b. if b && false then Some v else None) (sym is)
    go false c k = ap (λ b. if b && false then Some v else None) (sym is)

number_or_in : (otherwise greatest n : ℕ) (w : Option Text) → 1 ≤ otherwise → otherwise ≤ greatest → number_or otherwise 1 greatest w ≡ Some n → (1 ≤ n) × (n ≤ greatest)
number_or_in otherwise greatest n None low high e = let same : otherwise ≡ n = cc in subst (λ m. (1 ≤ m) × (m ≤ greatest)) same (low, high)
number_or_in otherwise greatest n (Some word) low high e = number_in 1 greatest n word e

workers_in : (n : ℕ) (vs : Values) → workers_by vs ≡ Some n → (1 ≤ n) × (n ≤ 32)
workers_in n vs e = number_or_in 1 32 n (given (codes "workers") vs) (omega arith) (omega arith) e

run_in : (vs : Values) (what : Asked) → option_map runs (run_by vs) ≡ Some what → InRange (asks what)
run_in vs what e =
    go (workers_by vs) (number_or 10000000 1 1000000000000 (given (codes "budget") vs)) (number_or 1000000 1 1000000000 (given (codes "answers") vs)) (annotator_or (given (codes "annotator") vs)) refl refl refl e
  where
    file : Text
    file = text_at (codes "FILE") vs

    go : (w b a : Option ℕ) (g : Option Annotator) → workers_by vs ≡ w → number_or 10000000 1 1000000000000 (given (codes "budget") vs) ≡ b → number_or 1000000 1 1000000000 (given (codes "answers") vs) ≡ a
        → option_map runs (option_and_then (λ workers. option_and_then (λ budget. option_and_then (λ answers. option_map (run file workers budget answers) g) a) b) w) ≡ Some what → InRange (asks what)
    go None b a g l h k e = cc
    go (Some workers) None a g l h k e = cc
    go (Some workers) (Some budget) None g l h k e = cc
    go (Some workers) (Some budget) (Some answers) None l h k e = cc
    go (Some workers) (Some budget) (Some answers) (Some groups) l h k e =
        let same : runs (run file workers budget answers groups) ≡ what = cc in
        let w = workers_in workers vs l in
        let b = number_or_in 10000000 1000000000000 budget (given (codes "budget") vs) (omega arith) (omega arith) h in
        let a = number_or_in 1000000 1000000000 answers (given (codes "answers") vs) (omega arith) (omega arith) k in
        subst (λ w. InRange (asks w)) same (w.0, w.1, b.0, b.1, a.0, a.1)

load_in : (vs : Values) (what : Asked) → load_by vs ≡ Some what → InRange (asks what)
load_in vs what e = go (number_at (codes "SEED") 0 4294967295 vs) (number_at (codes "SIZE") 1 10000 vs) (workers_by vs) refl refl refl e
  where
    go : (s z w : Option ℕ) → number_at (codes "SEED") 0 4294967295 vs ≡ s → number_at (codes "SIZE") 1 10000 vs ≡ z → workers_by vs ≡ w
        → option_and_then (λ seed. option_and_then (λ size. option_map (loads seed size) w) z) s ≡ Some what → InRange (asks what)
    go None z w h k l e = cc
    go (Some seed) None w h k l e = cc
    go (Some seed) (Some size) None h k l e = cc
    go (Some seed) (Some size) (Some workers) h k l e =
        let same : loads seed size workers ≡ what = cc in
        let s = number_in 0 4294967295 seed (text_at (codes "SEED") vs) h in
        let z = number_in 1 10000 size (text_at (codes "SIZE") vs) k in
        let w = workers_in workers vs l in
        let small : seed < 2 ^ 32 = omega (arith, s.1) in
        subst (λ w. InRange (asks w)) same (small, z.0, z.1, w.0, w.1)

pub asked_in : (command : Text) (vs : Values) (what : Asked) → asked_by command vs ≡ Some what → InRange (asks what)
asked_in command vs what e = go (bytes_eq command (codes "run")) (bytes_eq command (codes "show")) (bytes_eq command (codes "code")) e
  where
    shown : (o : Option Show) → option_map shows o ≡ Some what → InRange (asks what)
    shown None e = cc
    shown (Some s) e = let same : shows s ≡ what = cc in subst (λ w. InRange (asks w)) same tt

    go : (a b c : Bool) → (if a then option_map runs (run_by vs) else (if b then option_map shows (show_by vs) else (if c then Some (codes_of (text_at (codes "FILE") vs)) else load_by vs))) ≡ Some what → InRange (asks what)
    go true b c e = run_in vs what e
    go false true c e = shown (show_by vs) e
    go false false true e = let same : codes_of (text_at (codes "FILE") vs) ≡ what = cc in subst (λ w. InRange (asks w)) same tt
    go false false false e = load_in vs what e
