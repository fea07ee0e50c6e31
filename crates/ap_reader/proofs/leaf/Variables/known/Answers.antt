use Rattle.std.proofs.Common.{◌≡◌, ◌∙◌, ap, sym, rules, take, min, length}
use Rattle.std.specs.Prelude.{bytes_eq}
use Rattle.std.specs.HashMap.{get_by}
use Rattle.ap_reader.specs.declared.leaf.TheConstants.{NEAR}
use Rattle.ap_reader.proofs.Variables.{known-near, known-far}
use Rattle.ap_reader.proofs.leaf.Variables.known.Goals as goal

pub returns-in-Some : goal.returns-in-Some
returns-in-Some c =
    let before = c.args.self.now in
    let few : c.min-near.result ≡ min NEAR (length before.names.items) = search rules in
    let first_ones = ap (take c.min-near.result) c.deref.ensures.value ∙ ap (λ k. take k before.names.items) few in
    known-near before.numbers before.names.items (take c.min-near.result c.deref.result.now) c.args.name.now (search rules) first_ones c.in-Some.number (sym c.place_in.ensures ∙ c.in-Some.is)

pub returns-in-None : goal.returns-in-None
returns-in-None c =
    let before = c.args.self.now in
    let few : c.min-near.result ≡ min NEAR (length before.names.items) = search rules in
    let first_ones = ap (take c.min-near.result) c.deref.ensures.value ∙ ap (λ k. take k before.names.items) few in
    let got : c.copied.result ≡ get_by (λ k. bytes_eq c.args.name.now k.now) before.numbers = search rules in
    got ∙ known-far before.numbers before.names.items (take c.min-near.result c.deref.result.now) c.args.name.now (search rules) first_ones (sym c.place_in.ensures ∙ c.in-None.is) c.requires
