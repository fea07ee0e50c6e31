-- The names of the language and what they mean: those of ISO 13211-1 (sections 6.3.4.4, 7.8, 8 and 9), and the dialect's
-- `&`, `=>`, `ground`, `indep` and marks. `LanguageLaw` says that the code's numbers stand for them.
use Rattle.std.specs.Prelude.{◌≡◌, ℕ, ◌+◌, ◌≤◌, List, [], ◌∷◌, length, drop, slice_get, codes, Option, Some, None}
use Rattle.std.specs.List.{AllByRecursion}
use Rattle.ap_term.specs.declared.builtins.Op.TheVariants.{Eq, Ne, Lt, Gt, Le, Ge}
use Rattle.ap_term.specs.declared.builtins.Relation.{Relation}
use Rattle.ap_term.specs.declared.builtins.Relation.TheVariants.{Unify, NotUnify, Same, NotSame, Is, Compare}
use Rattle.ap_term.specs.declared.builtins.Operation.{Operation}
use Rattle.ap_term.specs.declared.builtins.Operation.TheVariants.{Add, Subtract, Multiply, Divide, Remainder, Modulo}
use Rattle.ap_term.specs.declared.fixed.TheConstants.{TRUE, FAIL, MINUS, COMMA, SEMICOLON, PARALLEL, CONDITION, GROUND_MARK, FREE_MARK, ANY_MARK, NECK, QUERY, CALL, GROUND, INDEP, ARROW, GRAMMAR, NOT, CUT, FIRST_REFUSED, COUNT}
use Rattle.ap_term.specs.AtomTable.{fixed_names}
use Rattle.ap_term.specs.Arithmetic.{operation_named}
use Rattle.ap_term.specs.Builtins.{relation_named}

abbrev pub Text : Type 0
Text = List ℕ

-- the built-in goals of two arguments
abbrev pub relations : List (Text × Relation)
relations =
    (codes "=", Unify) ∷ (codes "\\=", NotUnify) ∷ (codes "==", Same) ∷ (codes "\\==", NotSame) ∷ (codes "is", Is)
    ∷ (codes "=:=", Compare Eq) ∷ (codes "=\\=", Compare Ne) ∷ (codes "<", Compare Lt) ∷ (codes ">", Compare Gt) ∷ (codes "=<", Compare Le)
    ∷ (codes ">=", Compare Ge) ∷ []

-- the operations on two values; `-` is one on one value, too
abbrev pub operations : List (Text × Operation)
operations =
    (codes "+", Add) ∷ (codes "-", Subtract) ∷ (codes "*", Multiply) ∷ (codes "//", Divide) ∷ (codes "rem", Remainder) ∷ (codes "mod", Modulo) ∷ []

-- the names that the definitions speak of one by one
abbrev pub own_names : List (ℕ × Text)
own_names =
    (TRUE, codes "true") ∷ (FAIL, codes "fail") ∷ (MINUS, codes "-") ∷ (COMMA, codes ",") ∷ (SEMICOLON, codes ";")
    ∷ (PARALLEL, codes "&") ∷ (CONDITION, codes "=>") ∷ (GROUND_MARK, codes "g") ∷ (FREE_MARK, codes "f")
    ∷ (ANY_MARK, codes "a") ∷ (NECK, codes ":-") ∷ (QUERY, codes "?-") ∷ (CALL, codes "call")
    ∷ (GROUND, codes "ground") ∷ (INDEP, codes "indep") ∷ (ARROW, codes "->") ∷ (GRAMMAR, codes "-->")
    ∷ (NOT, codes "\\+") ∷ (CUT, codes "!") ∷ []

-- the names that no goal and no head may have
abbrev pub refused_names : List Text
refused_names =
    codes ":-" ∷ codes "?-" ∷ codes "call" ∷ codes "ground" ∷ codes "indep" ∷ codes "->" ∷ codes "-->" ∷ codes "\\+" ∷
    codes "!" ∷ codes "=.." ∷ codes "@<" ∷ codes "@>" ∷ codes "@=<" ∷ codes "@>=" ∷ codes "once" ∷ codes "catch" ∷
    codes "throw" ∷ codes "halt" ∷ codes "repeat" ∷ codes "assert" ∷ codes "asserta" ∷ codes "assertz" ∷
    codes "retract" ∷ codes "abolish" ∷ codes "clause" ∷ codes "findall" ∷ codes "bagof" ∷ codes "setof" ∷
    codes "functor" ∷ codes "arg" ∷ codes "copy_term" ∷ codes "compare" ∷ codes "var" ∷ codes "nonvar" ∷
    codes "atom" ∷ codes "number" ∷ codes "integer" ∷ codes "float" ∷ codes "atomic" ∷ codes "compound" ∷
    codes "read" ∷ codes "write" ∷ codes "writeq" ∷ codes "write_canonical" ∷ codes "print" ∷ codes "nl" ∷
    codes "get_char" ∷ codes "put_char" ∷ codes "op" ∷ codes "consult" ∷ codes "atom_length" ∷ codes "atom_concat" ∷
    codes "atom_chars" ∷ codes "atom_codes" ∷ codes "char_code" ∷ codes "sub_atom" ∷ codes "number_codes" ∷
    codes "number_chars" ∷ []

abbrev pub with_meaning : {A : Type 0} → Text → Option A → List (Text × A) → List (Text × A)
with_meaning name None rows = rows
with_meaning name (Some m) rows = (name, m) ∷ rows

-- the names from the number n on that have a meaning, and it
abbrev pub meanings : {A : Type 0} → (ℕ → Option A) → ℕ → List Text → List (Text × A)
meanings f n [] = []
meanings f n (name ∷ names) = with_meaning name (f n) (meanings f (n + 1) names)

pub record LanguageLaw : Type 0 where
  pub relations : meanings relation_named 0 fixed_names ≡ relations
  pub operations : meanings operation_named 0 fixed_names ≡ operations
  pub own : AllByRecursion (λ row. slice_get fixed_names row.0 ≡ Some row.1) own_names
  pub refused : drop FIRST_REFUSED fixed_names ≡ refused_names
  pub count : length fixed_names ≡ COUNT
  -- a name of a program has no meaning
  pub no_others : (a : ℕ) → COUNT ≤ a → (relation_named a ≡ None) × (operation_named a ≡ None)
