-- Options as they are written.
use Rattle.std.proofs.Common.{◌≡◌, ◌∙◌, Bool, true, false, ◌||◌, List, [], ◌∷◌, Some, ap, sym, refl, if◌then◌else◌}
use Rattle.std.specs.Str.{bytes_eq}
use Rattle.std.proofs.lemmas.Slice.Eq.{bytes_eq-Decides}
use Rattle.std.proofs.lemmas.Bool.{or_right}
use Rattle.ap_words.specs.Table.{Text}
use Rattle.ap_words.specs.Plain.{flag, is_option, option_in}
use Rattle.ap_words.proofs.Tests.{no_two}

-- a word that is an option is written as its name is
pub option_is : (options : List Text) (word name : Text) → option_in options word ≡ Some name → (word ≡ flag name) × (is_option options name ≡ true)
option_is [] word name e = cc
option_is (o ∷ os) word name e = go (bytes_eq word (flag o)) refl e (option_is os word name)
  where
    go : (b : Bool) → bytes_eq word (flag o) ≡ b → (if b then Some o else option_in os word) ≡ Some name
        → (option_in os word ≡ Some name → (word ≡ flag name) × (is_option os name ≡ true)) → (word ≡ flag name) × (is_option (o ∷ os) name ≡ true)
    go true h e rest =
        let same : o ≡ name = cc in
        ((bytes_eq-Decides word (flag o)).0 h ∙ ap flag same, ap (λ b. b || is_option os name) ((bytes_eq-Decides o name).1 same))
    go false h e rest = let r = rest e in (r.0, or_right (bytes_eq o name) _ r.1)

-- an option, as it is written, is that option
pub option_found : (options : List Text) (name : Text) → is_option options name ≡ true → option_in options (flag name) ≡ Some name
option_found [] name h = cc
option_found (o ∷ os) name h = go (bytes_eq o name) refl h (option_found os name)
  where
    other : bytes_eq o name ≡ false → (b : Bool) → bytes_eq (flag name) (flag o) ≡ b → option_in os (flag name) ≡ Some name → (if b then Some o else option_in os (flag name)) ≡ Some name
    other unlike true h rest =
        let same : flag name ≡ flag o = (bytes_eq-Decides (flag name) (flag o)).0 h in
        let names : o ≡ name = cc in
        no_two (bytes_eq o name) ((bytes_eq-Decides o name).1 names) unlike
    other unlike false h rest = rest

    go : (b : Bool) → bytes_eq o name ≡ b → (b || is_option os name) ≡ true → (is_option os name ≡ true → option_in os (flag name) ≡ Some name) → option_in (o ∷ os) (flag name) ≡ Some name
    go true e h rest =
        let same : o ≡ name = (bytes_eq-Decides o name).0 e in
        ap (λ b. if b then Some o else option_in os (flag name)) ((bytes_eq-Decides (flag name) (flag o)).1 (ap flag (sym same))) ∙ ap (λ t. Some t) same
    go false e h rest = other e (bytes_eq (flag name) (flag o)) refl (rest h)
