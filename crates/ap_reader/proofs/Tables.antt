-- Tables of names that grow.
use Rattle.std.proofs.Common.{◌≡◌, ℕ, zero, suc, ◌+◌, ◌≤◌, ◌<◌, Bool, true, false, ◌||◌, cond, List, [], ◌∷◌, ◌++◌, length, take, Some, slice_get, refl, sym, ap, subst, ◌∙◌, append_assoc, arith, length-append}
use Rattle.std.specs.Prelude.{bytes_eq}
use Rattle.std.proofs.lemmas.List.{append-nil}
use Rattle.std.proofs.lemmas.Bool.{or_parts}
use Rattle.std.proofs.lemmas.Slice.Eq.{bytes_eq-Decides}
use Rattle.std.proofs.lemmas.Option.{same_Some}
use Rattle.ap_lexer.specs.Lexeme.{Text}
use Rattle.ap_term.specs.declared.fixed.TheConstants.{COUNT}
use Rattle.ap_term.specs.AtomTable.{fixed_names, is_held, insert_name, insert_names, IsWithoutRepeats, IsAtomTable}
use Rattle.ap_term.specs.declared.names.InternErr.{InternErr}
use Rattle.ap_term.specs.declared.names.InternErr.TheVariants as err
use Rattle.ap_reader.specs.Build.{place_of, Extends, FaultAt}

some_held : (names : List Text) (a : ℕ) (q name : Text) → slice_get names a ≡ Some name → is_held names q ≡ false → bytes_eq q name ≡ false
some_held [] a q name e h = absurd (cc)
some_held (x ∷ xs) zero q name e h =
    let same : x ≡ name = same_Some x name e in
    subst (λ n. bytes_eq q n ≡ false) same (or_parts (bytes_eq q x) (is_held xs q) h).0
some_held (x ∷ xs) (suc a) q name e h = some_held xs a q name e (or_parts (bytes_eq q x) (is_held xs q) h).1

-- a name's place in a table without repeats, also when the table goes on
place-prefix : (names more : List Text) (a : ℕ) (name : Text) → IsWithoutRepeats names → slice_get names a ≡ Some name → a ≡ place_of (names ++ more) name
place-prefix [] more a name h e = absurd (cc)
place-prefix (x ∷ xs) more zero name h e = sym (ap (λ b. cond b 0 (place_of (xs ++ more) name + 1)) ((bytes_eq-Decides x name).1 (same_Some x name e)))
place-prefix (x ∷ xs) more (suc a) name h e =
    let next = place-prefix xs more a name h.1 e in
    let one : suc a ≡ place_of (xs ++ more) name + 1 = omega arith in
    one ∙ sym (ap (λ b. cond b 0 (place_of (xs ++ more) name + 1)) (some_held xs a x name e h.0))

pub extends-trans : (a b c : List Text) → Extends a b → Extends b c → Extends a c
extends-trans a b c h k = (h.0 ++ k.0, k.1 ∙ ap (λ x. x ++ k.0) h.1 ∙ append_assoc a h.0 k.0)

pub extends-self : (a : List Text) → Extends a a
extends-self a = ([], sym (append-nil a))

pub extends-name : (names : List Text) (name : Text) → Extends names (insert_name names name)
extends-name names name = of (is_held names name)
  where
    of : (b : Bool) → Extends names (cond b names (names ++ name ∷ []))
    of true = extends-self names
    of false = (name ∷ [], refl)

pub extends-names : (names more : List Text) → Extends names (insert_names names more)
extends-names names [] = extends-self names
extends-names names (name ∷ more) = extends-trans names (insert_name names name) (insert_names (insert_name names name) more) (extends-name names name) (extends-names (insert_name names name) more)

pub insert_names-append : (names a b : List Text) → insert_names names (a ++ b) ≡ insert_names (insert_names names a) b
insert_names-append names [] b = refl
insert_names-append names (x ∷ a) b = insert_names-append (insert_name names x) a b

-- the atom that a table has for a name is the name's place in each table that goes on from it
pub placed : (names : List Text) (a : ℕ) (name : Text) → IsAtomTable names → slice_get names a ≡ Some name → (more : List Text) → a ≡ place_of (insert_names names more) name
placed names a name h e more =
    let grown = extends-names names more in
    place-prefix names grown.0 a name h.distinct e ∙ ap (λ ns. place_of ns name) (sym grown.1)

pub length-extends : (a b : List Text) → Extends a b → length a ≤ length b
length-extends a b h = omega (arith, ap length h.1, length-append a h.0)

-- a fault at some of the names is one at all of them
pub fault-at : (e : InternErr) (added more all first old new : List Text) → Extends first old → insert_names old (added ++ more) ≡ insert_names first all → FaultAt added old new e → FaultAt all first new e
fault-at err.Full added more all first old new grows same fault =
    let longer = length-extends (insert_names old added) (insert_names old (added ++ more)) (subst (Extends (insert_names old added)) (sym (insert_names-append old added more)) (extends-names (insert_names old added) more)) in
    let total = ap length same in
    (omega (arith, fault.0), extends-trans first old new grows fault.1)
fault-at err.NoMemory added more all first old new grows same fault = extends-trans first old new grows fault

pub grown : (first old new added : List Text) → Extends first old → new ≡ insert_names old added → Extends first new
grown first old new added grows e = subst (Extends first) (sym e) (extends-trans first old (insert_names old added) grows (extends-names old added))

-- a name that stands at a place is held
held-at : (names : List Text) (a : ℕ) (name : Text) → slice_get names a ≡ Some name → is_held names name ≡ true
held-at [] a name e = absurd (cc)
held-at (x ∷ xs) zero name e = ap (λ b. b || is_held xs name) ((bytes_eq-Decides name x).1 (sym (same_Some x name e)))
held-at (x ∷ xs) (suc a) name e = ap (λ b. bytes_eq name x || b) (held-at xs a name e) ∙ last (bytes_eq name x)
  where
    last : (b : Bool) → (b || true) ≡ true
    last true = refl
    last false = refl

pub kept-at : (names : List Text) (a : ℕ) (name : Text) → slice_get names a ≡ Some name → names ≡ insert_name names name
kept-at names a name e = sym (ap (λ b. cond b names (names ++ name ∷ [])) (held-at names a name e))

front-at : (k : ℕ) (names : List Text) (a : ℕ) → a < k → slice_get (take k names) a ≡ slice_get names a
front-at zero names a h = absurd (omega (arith, h))
front-at (suc k) [] a h = refl
front-at (suc k) (x ∷ xs) zero h = refl
front-at (suc k) (x ∷ xs) (suc a) h = front-at k xs a (omega (arith, h))

-- each table has the fixed names at their places
pub fixed-at : (names : List Text) (a : ℕ) (name : Text) → IsAtomTable names → a < COUNT → slice_get fixed_names a ≡ Some name → slice_get names a ≡ Some name
fixed-at names a name h few e = sym (front-at COUNT names a few) ∙ ap (λ ns. slice_get ns a) h.fixed ∙ e
