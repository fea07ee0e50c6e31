-- What a line is read as.
use Rattle.std.proofs.Common.{◌≡◌, ◌∙◌, List, Option, Some, None, ap, sym, subst, refl}
use Rattle.std.specs.Prelude.{option_and_then}
use Rattle.clap.specs.Words.{IsAmong, Row}
use Rattle.clap.specs.declared.error.kind.ErrorKind.{ErrorKind}
use Rattle.clap.specs.declared.error.kind.ErrorKind.TheVariants as kind
use Rattle.ap_words.specs.Table.{Text}
use Rattle.ap_words.specs.Values.{Values}
use Rattle.ap_words.specs.Plain.{line_by}
use Rattle.ap_words.specs.Asked.{Asked, asked_by}
use Rattle.ap_words.specs.Clap.{matched}
use Rattle.ap_words.specs.Reading.{InRange, IsClaps, IsNotPlain, IsPlain, IsRead, Reading, asks, plainly, refused, taken}
use Rattle.ap_words.proofs.Lines.{line_is, line_read}
use Rattle.ap_words.proofs.Ranges.{asked_in}

-- what is read plainly is what a plain line asks for, and a plain line is read plainly
pub plain_is : (line : List Text) (what : Asked) → plainly line ≡ Some what → IsPlain line what
plain_is line what e = go (line_by line) refl e
  where
    go : (o : Option (Text × Values)) → line_by line ≡ o → option_and_then (λ p. asked_by p.0 p.1) o ≡ Some what → IsPlain line what
    go None h e = cc
    go (Some p) h e = record { command = p.0; values = p.1; is = line_is line p.0 p.1 h; asks = e }

pub plain_read : (line : List Text) (what : Asked) → IsPlain line what → plainly line ≡ Some what
plain_read line what p = ap (option_and_then (λ q. asked_by q.0 q.1)) (line_read line p.command p.values p.is) ∙ p.asks

pub not_plain : (line : List Text) → plainly line ≡ None → IsNotPlain line
not_plain line e what p = let both = sym e ∙ plain_read line what p in cc

-- ---- ranges

pub plain_in : (line : List Text) (what : Asked) → plainly line ≡ Some what → InRange (asks what)
plain_in line what e = let p = plain_is line what e in asked_in p.command p.values what p.asks

refused_in : (k : ErrorKind) → InRange (refused k)
refused_in kind.DisplayHelp = tt
refused_in kind.DisplayVersion = tt
refused_in _ = tt

pub claps_in : (line : List Text) (r : Reading) → IsClaps line r → InRange r
claps_in line r (IsClaps.refuses k among e) = subst InRange (sym e) (refused_in k)
claps_in line r (IsClaps.takes none t) = subst InRange (sym t.3) (go (asked_by t.0 (matched t.0 t.1)) refl)
  where
    go : (o : Option Asked) → asked_by t.0 (matched t.0 t.1) ≡ o → InRange (taken o)
    go None h = tt
    go (Some what) h = asked_in t.0 (matched t.0 t.1) what h

refused_asks : (k : ErrorKind) (what : Asked) → asks what ≡ refused k → ⊥
refused_asks kind.DisplayHelp what e = cc
refused_asks kind.DisplayVersion what e = cc
refused_asks _ what e = cc

one_met : (p q : Text × List Row) → Some p ≡ Some q → p ≡ q
one_met p q e = cc

-- a line that asks for something is read as nothing else
pub asks_alone : (line : List Text) (what : Asked) (r : Reading) → IsRead line (asks what) → IsRead line r → r ≡ asks what
asks_alone line what r (IsRead.plain a p e) (IsRead.plain b q f) =
    let same : Some b ≡ Some a = sym (plain_read line b q) ∙ plain_read line a p in
    let one : b ≡ a = cc in
    f ∙ ap asks one ∙ sym e
asks_alone line what r (IsRead.plain a p e) (IsRead.other unlike c) = absurd (unlike a p)
asks_alone line what r (IsRead.other unlike c) (IsRead.plain b q f) = absurd (unlike b q)
asks_alone line what r (IsRead.other unlike (IsClaps.refuses k among e)) (IsRead.other other d) = absurd (refused_asks k what e)
asks_alone line what r (IsRead.other unlike (IsClaps.takes none t)) (IsRead.other other (IsClaps.refuses k among e)) = absurd (subst (IsAmong k) none among)
asks_alone line what r (IsRead.other unlike (IsClaps.takes none t)) (IsRead.other other (IsClaps.takes none2 u)) =
    u.3 ∙ ap (λ p. taken (asked_by p.0 (matched p.0 p.1))) (one_met (u.0, u.1) (t.0, t.1) (sym u.2 ∙ t.2)) ∙ sym t.3
