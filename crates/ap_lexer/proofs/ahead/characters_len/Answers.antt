use Rattle.std.proofs.Common.{◌≡◌, true, ◌∙◌, ap, sym, drop, take, min, arith, length-drop}
use Rattle.std.specs.Str.{is_utf8}
use Rattle.std.specs.Str.Lossy.{utf8_valid_len}
use Rattle.std.proofs.lemmas.Str.{IsUtf8-from_is_utf8}
use Rattle.ap_lexer.proofs.Valid.{valid_least}
use Rattle.ap_lexer.proofs.Ends.{characters_known, ascii_there}
use Rattle.ap_lexer.proofs.ahead.characters_len.Goals as goal

pub returns-then-is_utf8-clause-value : goal.returns-then-is_utf8-clause-value
returns-then-is_utf8-clause-value c =
    let rest = drop c.args.at c.args.text.now in
    let valid : is_utf8 (take c.args.len rest) ≡ true = ap is_utf8 (sym (c.split_at-in_default.ensures.front ∙ ap (take c.args.len) c.split_at.ensures.back)) ∙ sym c.if-is_utf8.ensures in
    omega (arith, valid_least rest c.args.len (omega (arith, c.requires.within, c.requires.here, length-drop c.args.at c.args.text.now)) (IsUtf8-from_is_utf8 (take c.args.len rest) valid))

pub returns-in-Some-clause-value : goal.returns-in-Some-clause-value
returns-in-Some-clause-value c = c.min.ensures ∙ ap (min c.args.len) (characters_known c.args.text.now c.args.known.now c.in-Some.seen c.args.at c.in-Some.is c.requires.knows c.if-seen-at.true c.if-at-seen.true c.requires.ascii)

pub returns-in-Some-clause-some : goal.returns-in-Some-clause-some
returns-in-Some-clause-some c = λ some. omega (
  arith,
  some,
  c.min.ensures,
  characters_known c.args.text.now c.args.known.now c.in-Some.seen c.args.at c.in-Some.is c.requires.knows c.if-seen-at.true c.if-at-seen.true c.requires.ascii,
  ascii_there c.args.text.now c.args.at c.requires.here c.requires.ascii,
)

pub returns-else-is_utf8-clause-some : goal.returns-else-is_utf8-clause-some
returns-else-is_utf8-clause-some c = λ some. omega (arith, some, c.min-in_default.ensures, c.valid_len-valid.ensures.value, ap utf8_valid_len c.split_at.ensures.back, ascii_there c.args.text.now c.args.at c.requires.here c.requires.ascii)
