-- Quoted names and comments, by what they are made of.
use Rattle.std.proofs.Common.{◌≡◌, ℕ, ◌+◌, ◌==◌, ◌&&◌, ◌||◌, Bool, true, false, cond, List, [], ◌∷◌, ◌++◌, length, Option, Some, None, refl, sym, ap, ◌∙◌, arith}
use Rattle.std.specs.Prelude.{flat_map}
use Rattle.std.specs.List.{AllByRecursion}
use Rattle.std.proofs.lemmas.Bool.{eqb-true, and_parts, or_parts, or_from, or_right, false≢true}
use Rattle.std.proofs.lemmas.Option.{none-some, same_Some}
use Rattle.ap_lexer.specs.declared.ahead.Quote.{Quote}
use Rattle.ap_lexer.specs.declared.ahead.Quote.TheVariants as quote
use Rattle.ap_lexer.specs.Lexeme.{Text, closing, comment_end}
use Rattle.ap_lexer.specs.Row.{Item, Plain, TwoQuotes, Escape, IsItem, item_text, begins, has_close}

-- items and a closing quote, behind the opening one
pub record Body (at : ℕ) (text : Text) (end : ℕ) : Type 0 where
  pub items : List Item
  pub rest : Text
  pub are_items : AllByRecursion IsItem items
  pub spelled : text ≡ flat_map item_text items ++ 39 ∷ rest
  pub closes : begins 39 rest ≡ false
  pub len : end ≡ at + length (flat_map item_text items) + 1

-- behind a quote, which closes the name or is the first of two
data AtQuote (at : ℕ) (text : Text) (end : ℕ) : Type 0 where
  done : end ≡ at → begins 39 text ≡ false → AtQuote at text end
  doubled : (rest : Text) → text ≡ 39 ∷ rest → Body (at + 1) rest end → AtQuote at text end

-- behind a backslash
record AtEscape (at : ℕ) (text : Text) (end : ℕ) : Type 0 where
  byte : ℕ
  rest : Text
  is_item : IsItem (Escape byte)
  spelled : text ≡ byte ∷ rest
  body : Body (at + 1) rest end

abbrev Closed : Quote → ℕ → Text → ℕ → Type 0
Closed quote.Plain at text end = Body at text end
Closed quote.Quote at text end = AtQuote at text end
Closed quote.Escape at text end = AtEscape at text end

one_more : (at b end : ℕ) (text : Text) → IsItem (Plain b) → Body (at + 1) text end → Body at (b ∷ text) end
one_more at b end text is body = record {
  items = Plain b ∷ body.items;
  rest = body.rest;
  are_items = (is, body.are_items);
  spelled = ap (λ t. b ∷ t) body.spelled;
  closes = body.closes;
  len = omega (arith, body.len);
}

after_quote : (at b end : ℕ) (text : Text) → b ≡ 39 → AtQuote (at + 1) text end → Body at (b ∷ text) end
after_quote at b end text is (done here closes) = record {
  items = [];
  rest = text;
  are_items = tt;
  spelled = ap (λ c. c ∷ text) is;
  closes = closes;
  len = omega (arith, here);
}
after_quote at b end text is (doubled rest spelled body) = record {
  items = TwoQuotes ∷ body.items;
  rest = body.rest;
  are_items = (tt, body.are_items);
  spelled = ap (λ c. c ∷ text) is ∙ ap (λ t. 39 ∷ t) (spelled ∙ ap (λ t. 39 ∷ t) body.spelled);
  closes = body.closes;
  len = omega (arith, body.len);
}

after_escape : (at b end : ℕ) (text : Text) → b ≡ 92 → AtEscape (at + 1) text end → Body at (b ∷ text) end
after_escape at b end text is next = record {
  items = Escape next.byte ∷ next.body.items;
  rest = next.body.rest;
  are_items = (next.is_item, next.body.are_items);
  spelled = ap (λ c. c ∷ text) is ∙ ap (λ t. 92 ∷ t) (next.spelled ∙ ap (λ t. next.byte ∷ t) next.body.spelled);
  closes = next.body.closes;
  len = omega (arith, next.body.len);
}

plain_step : (at b end : ℕ) (text : Text) (t1 t2 t3 : Bool) (x y z : Option ℕ) → (b == 39) ≡ t1 → (b == 92) ≡ t2 → (b == 10) ≡ t3 → (x ≡ Some end → AtQuote (at + 1) text end) → (y ≡ Some end → AtEscape (at + 1) text end) → (z ≡ Some end → Body (at + 1) text end) → cond t1 x (cond t2 y (cond t3 None z)) ≡ Some end → Body at (b ∷ text) end
plain_step at b end text true t2 t3 x y z e1 e2 e3 p q r is = after_quote at b end text (eqb-true b 39 e1) (p is)
plain_step at b end text false true t3 x y z e1 e2 e3 p q r is = after_escape at b end text (eqb-true b 92 e2) (q is)
plain_step at b end text false false true x y z e1 e2 e3 p q r is = absurd (none-some end is)
plain_step at b end text false false false x y z e1 e2 e3 p q r is = one_more at b end text (or_from (b == 39 || b == 92) (b == 10) (or_from (b == 39) (b == 92) e1 e2) e3) (r is)

quote_step : (at b end : ℕ) (text : Text) (t : Bool) (x : Option ℕ) → (b == 39) ≡ t → (x ≡ Some end → Body (at + 1) text end) → cond t x (Some at) ≡ Some end → AtQuote at (b ∷ text) end
quote_step at b end text true x e p is = doubled text (ap (λ c. c ∷ text) (eqb-true b 39 e)) (p is)
quote_step at b end text false x e p is = done (sym (same_Some at end is)) e

escape_step : (at b end : ℕ) (text : Text) (t : Bool) (x : Option ℕ) → (b == 39 || b == 92 || b == 110 || b == 116) ≡ t → (x ≡ Some end → Body (at + 1) text end) → cond t x None ≡ Some end → AtEscape at (b ∷ text) end
escape_step at b end text true x e p is = record { byte = b; rest = text; is_item = e; spelled = refl; body = p is }
escape_step at b end text false x e p is = absurd (none-some end is)

-- what is closed is made of items
closed : (q : Quote) (at end : ℕ) (text : Text) → closing q at text ≡ Some end → Closed q at text end
closed quote.Plain at end [] is = absurd (none-some end is)
closed quote.Quote at end [] is = done (sym (same_Some at end is)) refl
closed quote.Escape at end [] is = absurd (none-some end is)
closed quote.Plain at end (b ∷ text) is = plain_step at b end text (b == 39) (b == 92) (b == 10) (closing quote.Quote (at + 1) text) (closing quote.Escape (at + 1) text) (closing quote.Plain (at + 1) text) refl refl refl (closed quote.Quote (at + 1) end text) (closed quote.Escape (at + 1) end text) (closed quote.Plain (at + 1) end text) is
closed quote.Quote at end (b ∷ text) is = quote_step at b end text (b == 39) (closing quote.Plain (at + 1) text) refl (closed quote.Plain (at + 1) end text) is
closed quote.Escape at end (b ∷ text) is = escape_step at b end text (b == 39 || b == 92 || b == 110 || b == 116) (closing quote.Plain (at + 1) text) refl (closed quote.Plain (at + 1) end text) is

pub body_of : (at end : ℕ) (text : Text) → closing quote.Plain at text ≡ Some end → Body at text end
body_of at end text = closed quote.Plain at end text

last_quote : (at : ℕ) (rest : Text) → begins 39 rest ≡ false → closing quote.Quote at rest ≡ Some at
last_quote at [] e = refl
last_quote at (b ∷ rest) e = ap (λ t. cond t (closing quote.Plain (at + 1) rest) (Some at)) e

-- what is made of items is closed behind them
pub closing-items : (items : List Item) (at : ℕ) (rest : Text) → AllByRecursion IsItem items → begins 39 rest ≡ false → closing quote.Plain at (flat_map item_text items ++ 39 ∷ rest) ≡ Some (at + length (flat_map item_text items) + 1)
closing-items [] at rest are closes = last_quote (at + 1) rest closes ∙ ap Some (omega arith)
closing-items (Plain b ∷ items) at rest are closes =
    let text = flat_map item_text items ++ 39 ∷ rest in
    let one = or_parts (b == 39 || b == 92) (b == 10) are.0 in
    let two = or_parts (b == 39) (b == 92) one.0 in
    ap (λ t. cond t (closing quote.Quote (at + 1) text) (cond (b == 92) (closing quote.Escape (at + 1) text) (cond (b == 10) None (closing quote.Plain (at + 1) text)))) two.0
    ∙ ap (λ t. cond t (closing quote.Escape (at + 1) text) (cond (b == 10) None (closing quote.Plain (at + 1) text))) two.1
    ∙ ap (λ t. cond t None (closing quote.Plain (at + 1) text)) one.1
    ∙ closing-items items (at + 1) rest are.1 closes ∙ ap Some (omega arith)
closing-items (TwoQuotes ∷ items) at rest are closes = closing-items items (at + 1 + 1) rest are.1 closes ∙ ap Some (omega arith)
closing-items (Escape b ∷ items) at rest are closes =
    ap (λ t. cond t (closing quote.Plain (at + 1 + 1) (flat_map item_text items ++ 39 ∷ rest)) None) are.0
    ∙ closing-items items (at + 1 + 1) rest are.1 closes ∙ ap Some (omega arith)

-- a comment's end, behind a star or not
pub data AtClose (star : Bool) (at : ℕ) (text : Text) (end : ℕ) : Type 0 where
  here : star ≡ true → (rest : Text) → text ≡ 47 ∷ rest → end ≡ at + 1 → AtClose star at text end
  later : (body rest : Text) → text ≡ body ++ 42 ∷ 47 ∷ rest → has_close (body ++ 42 ∷ []) ≡ false → (star ≡ true → begins 47 (body ++ 42 ∷ []) ≡ false) → end ≡ at + length body + 2 → AtClose star at text end

clear : (t u v : Bool) → (t ≡ true → u ≡ false) → v ≡ false → ((t && u) || v) ≡ false
clear true u v p e = ap (λ x. x || v) (p refl) ∙ e
clear false u v p e = e

pub off : (s t : Bool) → (s && t) ≡ false → s ≡ true → t ≡ false
off true t e on = e
off false t e on = absurd (false≢true on)

behind : (star : Bool) (at b end : ℕ) (text : Text) → (star && b == 47) ≡ false → AtClose (b == 42) (at + 1) text end → AtClose star at (b ∷ text) end
behind star at b end text e (here is rest spelled len) =
    later [] rest (ap (λ c. c ∷ text) (eqb-true b 42 is) ∙ ap (λ t. 42 ∷ t) spelled) refl (λ _. refl) (omega (arith, len))
behind star at b end text e (later body rest spelled none first len) =
    later (b ∷ body) rest (ap (λ t. b ∷ t) spelled) (clear (b == 42) (begins 47 (body ++ 42 ∷ [])) (has_close (body ++ 42 ∷ [])) first none) (off star (b == 47) e) (omega (arith, len))

close_step : (star : Bool) (at b end : ℕ) (text : Text) (t : Bool) (x : Option ℕ) → (star && b == 47) ≡ t → (x ≡ Some end → AtClose (b == 42) (at + 1) text end) → cond t (Some (at + 1)) x ≡ Some end → AtClose star at (b ∷ text) end
close_step star at b end text true x e p is = let both = and_parts star (b == 47) e in here both.0 text (ap (λ c. c ∷ text) (eqb-true b 47 both.1)) (sym (same_Some (at + 1) end is))
close_step star at b end text false x e p is = behind star at b end text e (p is)

pub close_of : (star : Bool) (at end : ℕ) (text : Text) → comment_end star at text ≡ Some end → AtClose star at text end
close_of star at end [] is = absurd (none-some end is)
close_of star at end (b ∷ text) is = close_step star at b end text (star && b == 47) (comment_end (b == 42) (at + 1) text) refl (close_of (b == 42) (at + 1) end text) is

none_step : (star : Bool) (at b : ℕ) (text : Text) (t : Bool) (x : Option ℕ) → (star && b == 47) ≡ t → (x ≡ None → (has_close text ≡ false) × (b == 42 ≡ true → begins 47 text ≡ false)) → cond t (Some (at + 1)) x ≡ None → (has_close (b ∷ text) ≡ false) × (star ≡ true → begins 47 (b ∷ text) ≡ false)
none_step star at b text true x e p is = absurd (none-some (at + 1) (sym is))
none_step star at b text false x e p is = let rest = p is in (clear (b == 42) (begins 47 text) (has_close text) rest.1 rest.0, off star (b == 47) e)

none_closes : (star : Bool) (at : ℕ) (text : Text) → comment_end star at text ≡ None → (has_close text ≡ false) × (star ≡ true → begins 47 text ≡ false)
none_closes star at [] is = (refl, λ _. refl)
none_closes star at (b ∷ text) is = none_step star at b text (star && b == 47) (comment_end (b == 42) (at + 1) text) refl (none_closes (b == 42) (at + 1) text) is

pub not_closed : (at : ℕ) (text : Text) → comment_end false at text ≡ None → has_close text ≡ false
not_closed at text is = (none_closes false at text is).0

pub has_close-body : (body rest : Text) → has_close (body ++ 42 ∷ 47 ∷ rest) ≡ true
has_close-body [] rest = refl
has_close-body (b ∷ body) rest = or_right (b == 42 && begins 47 (body ++ 42 ∷ 47 ∷ rest)) (has_close (body ++ 42 ∷ 47 ∷ rest)) (has_close-body body rest)
