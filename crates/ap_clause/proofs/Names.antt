-- Names that go behind the others.
use Rattle.std.proofs.Common.{◌≡◌, ℕ, zero, suc, ◌+◌, Bool, true, false, cond, List, [], ◌∷◌, ◌++◌, map, length, take, Option, Some, None, slice_get, refl, sym, ap, subst, ◌∙◌, append_assoc, arith, length-append}
use Rattle.std.specs.Prelude.{bytes_eq, is_some, option_copied}
use Rattle.std.specs.Borrow.{Bor}
use Rattle.std.proofs.lemmas.Bool.{false≢true, or_parts}
use Rattle.std.proofs.lemmas.Slice.Eq.{bytes_eq-Decides}
use Rattle.std.proofs.lemmas.List.{take_at}
use Rattle.std.proofs.lemmas.Option.{none-some, same_Some, slice_get_past}
use Rattle.ap_lexer.specs.Lexeme.{Text}
use Rattle.ap_term.specs.AtomTable.{is_held, insert_name}
use Rattle.ap_reader.specs.Build.{Extends}
use Rattle.ap_reader.proofs.Tables.{extends-self, extends-name}
use Rattle.ap_clause.specs.Fresh.{lift_name, with_lifted, atoms_from}

-- a table cut back to what it began with
pub cut_back : (old new : List Text) (m : ℕ) → Extends old new → m ≡ length old → take m new ≡ old
cut_back old new m h e = ap (λ k. take k new) e ∙ ap (take (length old)) h.1 ∙ take_at old h.0 (length old) refl

pub inserted : (old new : List Text) (name : Text) (b : Bool) → new ≡ cond b (insert_name old name) old → Extends old new
inserted old new name true e = subst (Extends old) (sym e) (extends-name old name)
inserted old new name false e = subst (Extends old) (sym e) (extends-self old)

-- a new name's place is the last
pub new_place : (old : List Text) (name : Text) (a : ℕ) → is_held old name ≡ false → slice_get (old ++ name ∷ []) a ≡ Some name → a ≡ length old
new_place [] name zero h e = refl
new_place [] name (suc a) h e = absurd (none-some name (sym (slice_get_past {X = Text} [] a (omega arith)) ∙ e))
new_place (x ∷ xs) name zero h e = absurd (false≢true (sym (or_parts (bytes_eq name x) (is_held xs name) h).0 ∙ (bytes_eq-Decides name x).1 (sym (same_Some x name e))))
new_place (x ∷ xs) name (suc a) h e = let k = new_place xs name a (or_parts (bytes_eq name x) (is_held xs name) h).1 e in omega arith

-- a place that the table had before a name was put in shows that it held the name
pub was_held : (old new : List Text) (name x : Text) (a : ℕ) → new ≡ insert_name old name → slice_get new a ≡ Some name → slice_get old a ≡ Some x → is_held old name ≡ true
was_held old new name x a e h k = of (is_held old name) refl
  where
    of : (b : Bool) → is_held old name ≡ b → is_held old name ≡ true
    of true q = q
    of false q =
        let same : slice_get (old ++ name ∷ []) a ≡ Some name = ap (λ b. slice_get (cond b old (old ++ name ∷ [])) a) (sym q) ∙ ap (λ l. slice_get l a) (sym e) ∙ h in
        absurd (none-some x (sym (slice_get_past old (length old) (omega arith)) ∙ ap (slice_get old) (sym (new_place old name a q same)) ∙ k))

pub was_new : (old new : List Text) (name : Text) (a : ℕ) → new ≡ insert_name old name → slice_get new a ≡ Some name → slice_get old a ≡ None → is_held old name ≡ false
was_new old new name a e h k = of (is_held old name) refl
  where
    of : (b : Bool) → is_held old name ≡ b → is_held old name ≡ false
    of false q = q
    of true q = absurd (none-some name (sym k ∙ ap (λ b. slice_get (cond b old (old ++ name ∷ [])) a) (sym q) ∙ ap (λ l. slice_get l a) (sym e) ∙ h))

pub put_last : (old new : List Text) (name : Text) → is_held old name ≡ false → new ≡ insert_name old name → new ≡ old ++ name ∷ []
put_last old new name h e = e ∙ ap (λ b. cond b old (old ++ name ∷ [])) h

pub with_lifted-push : (table : List Text) (ks : List ℕ) (k : ℕ) → with_lifted table ks ++ lift_name k ∷ [] ≡ with_lifted table (ks ++ k ∷ [])
with_lifted-push table ks k = append_assoc table (map lift_name ks) (lift_name k ∷ []) ∙ ap (λ l. table ++ l) (mapped ks)
  where
    mapped : (ks : List ℕ) → map lift_name ks ++ lift_name k ∷ [] ≡ map lift_name (ks ++ k ∷ [])
    mapped [] = refl
    mapped (x ∷ xs) = ap (λ l. lift_name x ∷ l) (mapped xs)

pub atoms_from-push : (at : ℕ) (ks : List ℕ) (k : ℕ) → atoms_from at (ks ++ k ∷ []) ≡ atoms_from at ks ++ (at + length ks) ∷ []
atoms_from-push at [] k = let e : at ≡ at + 0 = omega arith in ap (λ n. n ∷ []) e
atoms_from-push at (x ∷ ks) k = ap (λ l. at ∷ l) (atoms_from-push (at + 1) ks k ∙ ap (λ n. atoms_from (at + 1) ks ++ n ∷ []) next)
  where
    next : (at + 1) + length ks ≡ at + length (x ∷ ks)
    next = omega arith

pub length-with_lifted : (table : List Text) (ks : List ℕ) → length (with_lifted table ks) ≡ length table + length ks
length-with_lifted table ks = length-append table (map lift_name ks) ∙ ap (λ n. length table + n) (mapped ks)
  where
    mapped : (ks : List ℕ) → length (map lift_name ks) ≡ length ks
    mapped [] = refl
    mapped (x ∷ xs) = omega (arith, mapped xs)

pub some_name : (o : Option (Bor Text)) → is_some o ≡ true → (x : Text) × (option_copied o ≡ Some x)
some_name None h = absurd (false≢true h)
some_name (Some b) h = (b.now, refl)

pub no_name : (o : Option (Bor Text)) → is_some o ≡ false → option_copied o ≡ None
no_name None h = refl
no_name (Some b) h = absurd (false≢true (sym h))

pub length-atoms_from : (at : ℕ) (ks : List ℕ) → length (atoms_from at ks) ≡ length ks
length-atoms_from at [] = refl
length-atoms_from at (k ∷ ks) = omega (arith, length-atoms_from (at + 1) ks)
