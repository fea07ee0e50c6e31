use Rattle.std.proofs.Common.{◌≡◌, ◌<◌, replicate, unwrap_or, get_or, ap, ◌∙◌, arith}
use Rattle.std.proofs.lemmas.List.{get_or-replicate}
use Rattle.ap_index.specs.declared.row.TheConstants.{NONE}
use Rattle.ap_index.specs.Hashing.{slot_of}
use Rattle.ap_index.specs.Index.{place_or_none}
use Rattle.ap_index.proofs.Slots.{slot-below, empty-slot}
use Rattle.ap_index.proofs.row.Row.new.Goals as goal

pub returns-clause-first : goal.returns-clause-first
returns-clause-first c = λ key.
    let count = c.saturating_mul-count.result in
    let items : c.in_ok-from_elem.field-0.items ≡ replicate count (unwrap_or c.args.behind NONE) = c.in_ok-from_elem.ensures.items_if_clones_equal (λ y e. e) ∙ ap (replicate count) c.unwrap_or.ensures in
    let some : 0 < count = omega (arith, c.requires.some, c.saturating_mul-count.ensures) in
    empty-slot c.args.behind c.in_ok-from_elem.field-0.items count (slot_of key count) c.requires.place items (slot-below key count some)

pub returns-clause-only : goal.returns-clause-only
returns-clause-only c = λ key.
    let count = c.saturating_mul-count.result in
    let items : c.in_ok-from_elem-2.field-0.items ≡ replicate count c.args.only = c.in_ok-from_elem-2.ensures.items_if_clones_equal (λ y e. e) in
    let some : 0 < count = omega (arith, c.requires.some, c.saturating_mul-count.ensures) in
    ap place_or_none (ap (λ xs. get_or xs (slot_of key count) NONE) items ∙ get_or-replicate count (slot_of key count) c.args.only NONE (slot-below key count some))
