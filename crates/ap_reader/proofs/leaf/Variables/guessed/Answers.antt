use Rattle.std.proofs.Common.{◌≡◌, ◌+◌, Some, false, true, ap, sym, subst, ◌∙◌, slice_get, codes}
use Rattle.std.specs.Prelude.{bytes_eq}
use Rattle.std.proofs.lemmas.Slice.Eq.{bytes_eq-Decides}
use Rattle.std.specs.Str.{IsUtf8}
use Rattle.ap_reader.proofs.Variables.{get-held, known-at}
use Rattle.ap_reader.proofs.leaf.Variables.guessed.Goals as goal

pub returns-then-not-are_same : goal.returns-then-not-are_same
returns-then-not-are_same c =
    let names = c.args.self.now.names.items in
    let name = c.args.name.now in
    let at = c.from.result in
    let held = c.in-Some.held.now in
    let found = c.in-Some.ensures.lookup in
    let got : slice_get names at ≡ Some held = ap (λ xs. slice_get xs at) (sym c.deref.ensures.value) ∙ get-held c.deref.result.now at held found.3.0 ∙ ap Some (sym found.1) in
    let same : bytes_eq held.now name ≡ true = ap (λ q. bytes_eq q name) (sym c.as_bytes.ensures.value) ∙ sym c.are_same.ensures ∙ c.if-are_same.true in
    let named : bytes_eq name (codes "_") ≡ false = sym c.are_same-then-are_same.ensures ∙ c.if-not-are_same.true in
    let is : held.now ≡ name = (bytes_eq-Decides held.now name).0 same in (
      known-at names at held name c.requires got same named ∙ ap (λ n. Some (n + 1)) (c.from.ensures ∙ sym c.from-then-not-are_same.ensures),
      subst IsUtf8 (c.as_bytes.ensures.value ∙ is) c.as_bytes.ensures.utf8,
    )
