-- The text of a switch's entries, gone over with all others.
use Rattle.std.proofs.Common.{◌≡◌, ℕ, Bool, true, false, cond, List, [], ◌∷◌, ◌++◌, refl, ap, ◌∙◌}
use Rattle.std.specs.Prelude.{if◌then◌else◌}
use Rattle.std.specs.List.{filter}
use Rattle.ap_listing.specs.declared.switch.Entry.{Entry}
use Rattle.ap_listing.specs.declared.text.Origin.{Origin}
use Rattle.ap_listing.specs.Switch.{is_constant, is_functor, Switch, some_switch}
use Rattle.ap_listing.specs.Lines.{entry_text, entries_text, switch_text, switches_text}
use Rattle.ap_listing.specs.Held.{constants_text, functors_text}
use Rattle.std.proofs.Common.{append_assoc, sym}
use Rattle.std.proofs.lemmas.List.{append-nil}

text_by : (names : List (List ℕ)) (o : Origin) (b : Bool) (e : Entry) (es : List Entry) (xs : List ℕ) → xs ≡ entries_text names o es
    → (if b then entry_text names o e else []) ++ xs ≡ entries_text names o (cond b (e ∷ es) es)
text_by names o true e es xs h = ap (λ x. entry_text names o e ++ x) h
text_by names o false e es xs h = h

pub constants_text-is : (names : List (List ℕ)) (o : Origin) (es : List Entry) → constants_text names o es ≡ entries_text names o (filter (λ e. is_constant e.key) es)
constants_text-is names o [] = refl
constants_text-is names o (e ∷ es) = text_by names o (is_constant e.key) e (filter (λ e. is_constant e.key) es) (constants_text names o es) (constants_text-is names o es)

pub functors_text-is : (names : List (List ℕ)) (o : Origin) (es : List Entry) → functors_text names o es ≡ entries_text names o (filter (λ e. is_functor names e.key) es)
functors_text-is names o [] = refl
functors_text-is names o (e ∷ es) = text_by names o (is_functor names e.key) e (filter (λ e. is_functor names e.key) es) (functors_text names o es) (functors_text-is names o es)

-- the lines of a switch that has some of two
pub some_lines : (names : List (List ℕ)) (o : Origin) (b c : Bool) (s t : Switch)
    → (if b then switch_text names o s else []) ++ (if c then switch_text names o t else []) ≡ switches_text names o (some_switch b s ++ some_switch c t)
some_lines names o true true s t = ap (λ x. switch_text names o s ++ x) (sym (append-nil (switch_text names o t)))
some_lines names o true false s t = refl
some_lines names o false true s t = sym (append-nil (switch_text names o t))
some_lines names o false false s t = refl

-- ---- one text behind another

pub two : (o a b p q : List ℕ) → a ≡ o ++ p → b ≡ a ++ q → b ≡ o ++ (p ++ q)
two o a b p q e f = f ∙ ap (λ x. x ++ q) e ∙ append_assoc o p q

pub three : (o a b c p q r : List ℕ) → a ≡ o ++ p → b ≡ a ++ q → c ≡ b ++ r → c ≡ o ++ (p ++ (q ++ r))
three o a b c p q r e f g = two o a c p (q ++ r) e (two a b c q r f g)

pub four : (o a b c d p q r s : List ℕ) → a ≡ o ++ p → b ≡ a ++ q → c ≡ b ++ r → d ≡ c ++ s → d ≡ o ++ (p ++ (q ++ (r ++ s)))
four o a b c d p q r s e f g h = two o a d p (q ++ (r ++ s)) e (three a b c d q r s f g h)

pub six : (o a b c d x y p q r s t u : List ℕ) → a ≡ o ++ p → b ≡ a ++ q → c ≡ b ++ r → d ≡ c ++ s → x ≡ d ++ t → y ≡ x ++ u → y ≡ o ++ (p ++ (q ++ (r ++ (s ++ (t ++ u)))))
six o a b c d x y p q r s t u e f g h i j = three o a b y p q (r ++ (s ++ (t ++ u))) e f (four b c d x y r s t u g h i j)
