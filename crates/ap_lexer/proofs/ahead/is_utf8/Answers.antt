use Rattle.std.proofs.Common.{◌≡◌, Bool, true, false, List, ℕ, sym, refl}
use Rattle.std.specs.Str.{is_utf8, IsUtf8}
use Rattle.std.proofs.lemmas.Str.{is_utf8-from_IsUtf8, IsUtf8-from_is_utf8}
use Rattle.ap_lexer.proofs.ahead.is_utf8.Goals as goal

not_utf8 : (b : Bool) (text : List ℕ) → is_utf8 text ≡ b → (IsUtf8 text → ⊥) → false ≡ is_utf8 text
not_utf8 true text e refuted = absurd (refuted (IsUtf8-from_is_utf8 text e))
not_utf8 false text e refuted = sym e

pub returns-in-Ok : goal.returns-in-Ok
returns-in-Ok c = sym (is_utf8-from_IsUtf8 c.args.text.now c.in-Ok.ensures.cases.1)

pub returns-in-Err : goal.returns-in-Err
returns-in-Err c = not_utf8 (is_utf8 c.args.text.now) c.args.text.now refl c.in-Err.ensures.cases.0
