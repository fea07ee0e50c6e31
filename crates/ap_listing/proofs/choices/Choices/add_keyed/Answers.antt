use Rattle.std.proofs.Common.{◌++◌, ◌∷◌, [], refl, ap, ◌∙◌, map, arith}
use Rattle.std.specs.List.{position_or_len}
use Rattle.std.specs.Vec.{with_item}
use Rattle.std.proofs.lemmas.List.{map-append}
use Rattle.indexmap.specs.IndexSet.{insert_key}
use Rattle.ap_listing.specs.contracts.lookup.AskedPartialEq.TheImpl.{eq-value}
use Rattle.ap_listing.specs.declared.choices.Group.{Group}
use Rattle.ap_listing.specs.Grouped.{group_of}
use Rattle.ap_listing.proofs.Groups.{grouped-old, grouped-new, put-group}
use Rattle.ap_listing.proofs.choices.Choices.add_keyed.Goals as goal

pub returns-then-number-len : goal.returns-then-number-len
returns-then-number-len c code ls asked g =
    let old = c.args.self.now in
    let new_group : Group = record { key = c.index_mut.result.now.key; clauses = c.push.new.self } in
    grouped-old code ls c.args.clause old (record { numbers = c.insert_full.new.self; groups = with_item old.groups c.in_ok-number.number new_group; others = old.others }) g
    c.args.key asked c.in_ok-number.number
    (c.in_ok-number.ensures.index ∙ ap (λ a. position_or_len (eq-value.it a) old.numbers.keys) c.asked_of.ensures)
    (c.in_ok-number.ensures.keys ∙ ap (insert_key eq-value.it old.numbers.keys) c.asked_of.ensures)
    (group_of c.index_mut.result.now)
    (omega (arith, old.groups.ok.0, c.len.ensures))
    (put-group c.args.clause c.in_ok-number.number old.groups.items c.index_mut.result.now new_group
    (omega (arith, old.groups.ok.0, c.len.ensures)) c.index_mut.ensures.value (ap (λ x. (c.index_mut.result.now.key, x)) c.in_ok-push.ensures.items))
    refl

pub returns : goal.returns
returns c code ls asked g =
    let old = c.args.self.now in
    let clauses = c.in_ok-push-2.ensures.items ∙ ap (λ x. x ++ c.args.clause ∷ []) (c.in_ok-clauses.ensures.items ∙ c.as_slice.ensures.value) in
    grouped-new code ls c.args.clause old (record { numbers = c.insert_full.new.self; groups = c.push-3.new.self; others = old.others }) g
    c.args.key asked c.in_ok-number.number
    (c.in_ok-number.ensures.index ∙ ap (λ a. position_or_len (eq-value.it a) old.numbers.keys) c.asked_of.ensures)
    (c.in_ok-number.ensures.keys ∙ ap (insert_key eq-value.it old.numbers.keys) c.asked_of.ensures)
    (omega (arith, old.groups.ok.0, c.len.ensures))
    (ap (map group_of) c.in_ok-push-3.ensures.items ∙ map-append group_of old.groups.items _ ∙ ap (λ x. map group_of old.groups.items ++ (c.args.key, x) ∷ []) clauses)
    refl
