-- Values, one more at a time.
use Rattle.std.proofs.Common.{◌≡◌, ◌∙◌, ◌++◌, true, false, List, [], ◌∷◌, Option, Some, None, map, ap, refl, if◌then◌else◌}
use Rattle.std.specs.Prelude.{option_map, option_and_then}
use Rattle.clap.specs.Words.{Row, first_of}
use Rattle.ap_words.specs.Clap.{found_in, with_found}
use Rattle.ap_words.specs.Numbers.{is_plain}
use Rattle.ap_words.specs.Plain.{Stand, flag_step, gives, paired, plain_step}
use Rattle.ap_words.specs.Table.{Text}
use Rattle.ap_words.specs.Values.{Values, value_of}
use Rattle.ap_words.specs.PlainKept.{joined}
use Rattle.ap_words.specs.declared.values.Value.{Value}

pub pushed : (vs : List Value) (v : Value) (xs : Values) → map value_of (vs ++ v ∷ []) ++ xs ≡ map value_of vs ++ value_of v ∷ xs
pushed [] v xs = refl
pushed (u ∷ us) v xs = ap (λ t. value_of u ∷ t) (pushed us v xs)

pub joined-more : (vs : List Value) (v : Value) (o : Option Values) → joined (map value_of (vs ++ v ∷ [])) o ≡ joined (map value_of vs) (option_map (λ us. value_of v ∷ us) o)
joined-more vs v None = refl
joined-more vs v (Some us) = ap (λ ts. Some ts) (pushed vs v us)

-- the text that a name has among rows is given behind the values before it
pub found-some : (rows : List Row) (items new : List Value) (v : Value) (names : List Text) → new ≡ items ++ v ∷ [] → Some v.text.now ≡ first_of v.name.now rows
    → map value_of new ++ found_in rows names ≡ map value_of items ++ found_in rows (v.name.now ∷ names)
found-some rows items new v names e found =
    ap (λ vs. map value_of vs ++ found_in rows names) e ∙ pushed items v (found_in rows names) ∙ ap (λ o. map value_of items ++ with_found v.name.now o (found_in rows names)) found

pub found-none : (rows : List Row) (items : List Value) (name : Text) (names : List Text) → None ≡ first_of name rows → map value_of items ++ found_in rows names ≡ map value_of items ++ found_in rows (name ∷ names)
found-none rows items name names found = ap (λ o. map value_of items ++ with_found name o (found_in rows names)) found

-- a word that stands for itself is the text of a name, and any other one is an option
pub paired-plain : (options : List Text) (items new : List Value) (v : Value) (ws : List Text) (s t : Stand) → new ≡ items ++ v ∷ [] → Some (t, v.name.now) ≡ plain_step s → true ≡ is_plain v.text.now
    → joined (map value_of new) (paired options ws t) ≡ joined (map value_of items) (paired options (v.text.now ∷ ws) s)
paired-plain options items new v ws s t e step plain =
    ap (λ vs. joined (map value_of vs) (paired options ws t)) e ∙ joined-more items v (paired options ws t)
    ∙ ap (λ p. joined (map value_of items) (gives v.text.now (paired options ws) p)) step
    ∙ ap (λ b. joined (map value_of items) (if b then gives v.text.now (paired options ws) (plain_step s) else option_and_then (paired options ws) (flag_step options s v.text.now))) plain

pub paired-flag : (options : List Text) (items : List Value) (w : Text) (ws : List Text) (s t : Stand) → Some t ≡ flag_step options s w → false ≡ is_plain w
    → joined (map value_of items) (paired options ws t) ≡ joined (map value_of items) (paired options (w ∷ ws) s)
paired-flag options items w ws s t step plain =
    ap (λ o. joined (map value_of items) (option_and_then (paired options ws) o)) step
    ∙ ap (λ b. joined (map value_of items) (if b then gives w (paired options ws) (plain_step s) else option_and_then (paired options ws) (flag_step options s w))) plain

-- a pair of what two functions give, by what each gives
pub pair_is : {B X Y : Type 0} (f : B → X) (g : B → Y) (o : Option B) (x : X) (y : Y) → option_map f o ≡ Some x → option_map (λ p. p.1) (option_map {U = X × Y} (λ b. (f b, g b)) o) ≡ Some y
    → option_map {U = X × Y} (λ b. (f b, g b)) o ≡ Some (x, y)
pair_is f g None x y e h = cc
pair_is f g (Some b) x y e h = let first : f b ≡ x = cc in let second : g b ≡ y = cc in cc
