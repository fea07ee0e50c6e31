-- The code's numbers stand for the names of the language.
use Rattle.std.proofs.Common.{◌≡◌, ℕ, ◌≤◌, ◌<◌, ◌==◌, false, None, refl, arith}
use Rattle.std.proofs.lemmas.Bool.Decides.{nat_tests}
use Rattle.ap_term.specs.declared.fixed.TheConstants.{COUNT}
use Rattle.ap_term.specs.Arithmetic.{operation_named}
use Rattle.ap_term.specs.Builtins.{relation_named}
use Rattle.ap_term.specs.Language.{LanguageLaw}

other : (c a : ℕ) → c < a → (a == c) ≡ false
other c a h = grind (arith, nat_tests)

no_relation : (a : ℕ) → COUNT ≤ a → relation_named a ≡ None
no_relation a h =
    simp (
      other 2 a (omega arith),
      other 3 a (omega arith),
      other 4 a (omega arith),
      other 5 a (omega arith),
      other 6 a (omega arith),
      other 7 a (omega arith),
      other 8 a (omega arith),
      other 9 a (omega arith),
      other 10 a (omega arith),
      other 11 a (omega arith),
      other 12 a (omega arith),
    ) refl

no_operation : (a : ℕ) → COUNT ≤ a → operation_named a ≡ None
no_operation a h =
    simp (other 13 a (omega arith), other 14 a (omega arith), other 15 a (omega arith), other 16 a (omega arith), other 17 a (omega arith), other 18 a (omega arith)) refl

pub language : LanguageLaw
language = record {
  relations = refl;
  operations = refl;
  own = (refl, (refl, (refl, (refl, (refl, (refl, (refl, (refl, (refl, (refl, (refl, (refl, (refl, (refl, (refl, (refl, (refl, (refl, (refl, tt)))))))))))))))))));
  refused = refl;
  count = refl;
  no_others = λ a h. (no_relation a h, no_operation a h);
}
