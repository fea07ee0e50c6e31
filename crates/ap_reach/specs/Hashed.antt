-- What is written of a call to find its place in a table, and that it is the same of equal calls.
use Rattle.std.specs.Prelude.{◌≡◌, ◌+◌, ◌*◌, ◌==◌, true, ◌&&◌, ◌++◌, min, IsTrue}
use Rattle.std.specs.Hash.{HashWrites, u32, u64, usize, i64}
use Rattle.std.specs.Ordering.{int_eq}
use Rattle.std.proofs.Common.{refl, ap, ap₂, sym, ◌∙◌}
use Rattle.std.proofs.lemmas.Bool.{false≢true, and_parts}
use Rattle.std.proofs.lemmas.Bool.Decides.{Decides-eqb, Decides-int_eq}
use Rattle.ap_reach.specs.contracts.called.CalledPartialEq.TheImpl.{eq-value}
use Rattle.ap_reach.specs.declared.called.Called.{Called}
use Rattle.ap_reach.specs.declared.called.Called.TheVariants.{All as Whole, Atom, Integer}
use Rattle.ap_reach.specs.Reached.{is_called}

-- its constant with its predicate and its place; the number of arguments is left out
abbrev pub hashed : Called → HashWrites
hashed (Whole name arity) = u32 name
hashed (Atom name arity place a) = u64 (name * 4294967296 + a) ++ usize place
hashed (Integer name arity place z) = i64 z ++ u64 (name * 4294967296 + min place 4294967295)

pub same_call : (k l : Called) → is_called k l ≡ true → k ≡ l
same_call (Whole f n) (Whole g m) e =
    let b = and_parts (f == g) (n == m) e in
    ap₂ (λ x y. Whole x y) ((Decides-eqb f g).0 b.0) ((Decides-eqb n m).0 b.1)
same_call (Atom f n i a) (Atom g m j c) e =
    let b = and_parts (f == g) ((n == m) && ((i == j) && (a == c))) e in
    let d = and_parts (n == m) ((i == j) && (a == c)) b.1 in
    let x = and_parts (i == j) (a == c) d.1 in
    ap₂ (λ y z. Atom y z i a) ((Decides-eqb f g).0 b.0) ((Decides-eqb n m).0 d.0) ∙ ap₂ (λ y z. Atom g m y z) ((Decides-eqb i j).0 x.0) ((Decides-eqb a c).0 x.1)
same_call (Integer f n i a) (Integer g m j c) e =
    let b = and_parts (f == g) ((n == m) && ((i == j) && int_eq a c)) e in
    let d = and_parts (n == m) ((i == j) && int_eq a c) b.1 in
    let x = and_parts (i == j) (int_eq a c) d.1 in
    ap₂ (λ y z. Integer y z i a) ((Decides-eqb f g).0 b.0) ((Decides-eqb n m).0 d.0) ∙ ap₂ (λ y z. Integer g m y z) ((Decides-eqb i j).0 x.0) ((Decides-int_eq a c).0 x.1)
same_call (Whole f n) (Atom g m j c) e = absurd (false≢true e)
same_call (Whole f n) (Integer g m j c) e = absurd (false≢true e)
same_call (Atom f n i a) (Whole g m) e = absurd (false≢true e)
same_call (Atom f n i a) (Integer g m j c) e = absurd (false≢true e)
same_call (Integer f n i a) (Whole g m) e = absurd (false≢true e)
same_call (Integer f n i a) (Atom g m j c) e = absurd (false≢true e)

-- the test of the code
pub called_eq : (k l : Called) → eq-value.it k l ≡ is_called k l
called_eq (Whole f n) (Whole g m) = refl
called_eq (Whole f n) (Atom g m j b) = refl
called_eq (Whole f n) (Integer g m j b) = refl
called_eq (Atom f n i a) (Whole g m) = refl
called_eq (Atom f n i a) (Atom g m j b) = refl
called_eq (Atom f n i a) (Integer g m j b) = refl
called_eq (Integer f n i a) (Whole g m) = refl
called_eq (Integer f n i a) (Atom g m j b) = refl
called_eq (Integer f n i a) (Integer g m j b) = refl

pub alike : (k l : Called) → IsTrue (eq-value.it k l) → hashed k ≡ hashed l
alike k l h = ap hashed (same_call k l (sym (called_eq k l) ∙ h))
