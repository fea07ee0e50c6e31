use Rattle.std.proofs.Common.{rules, arith, ◌≡◌, ◌∙◌, sym}
use Rattle.ap_frames.specs.declared.frame.Round.TheVariants.{Closed}
use Rattle.ap_section.proofs.Newest.{count-at}
use Rattle.ap_section.proofs.Redoes.{next-place}
use Rattle.ap_section.proofs.Taken.{redo-found, open-round, none-redone, none-there}
use Rattle.ap_section.proofs.Outcomes.{no-memory, none-open, open-waiting}
use Rattle.ap_section.proofs.section.Section.find_redo.Goals as goal

pub overflow_sub-newest : goal.overflow_sub-newest
overflow_sub-newest c = let h = count-at c.args.self.now c.requires.at in let e = c.len-newest.ensures in search rules

pub index-frame-requires : goal.index-frame-requires
index-frame-requires c = let h = count-at c.args.self.now c.requires.at in let e = c.len-newest.ensures in search rules

pub returns-then-ne : goal.returns-then-ne
returns-then-ne c =
    let opened : c.index-frame.result.now.round ≡ Closed → ⊥ = λ e. let h = c.if-ne.ensures in let k = c.if-ne.true in search rules in
    none-open c.args.self.now (open-waiting c.args.self.now c.requires.waits (open-round c.args.self.now c.len-newest.result c.index-frame.result.now c.len-newest.ensures c.requires.at c.index-frame.ensures opened))

pub returns-in_default : goal.returns-in_default
returns-in_default c =
    let none = none-redone c.args.self.now c.len-newest.result c.index-frame.result.now c.len-newest.ensures c.requires.at c.index-frame.ensures (λ i d. c.in_default.not-Some i (c.next_redo.ensures ∙ d)) in
    none-open c.args.self.now (open-waiting c.args.self.now c.requires.waits none)

pub section-requires : goal.section-requires
section-requires c = record { place = next-place c.index-frame.result.now.slots.items c.in-Some.i (sym c.next_redo.ensures ∙ c.in-Some.is) }

pub returns-in_default-section : goal.returns-in_default-section
returns-in_default-section c =
    let none = none-there c.args.self.now c.len-newest.result c.index-frame.result.now c.len-newest.ensures c.requires.at c.index-frame.ensures c.in-Some.i (sym c.next_redo.ensures ∙ c.in-Some.is) (search rules) in
    none-open c.args.self.now (open-waiting c.args.self.now c.requires.waits none)

pub returns-then-spent-rest : goal.returns-then-spent-rest
returns-then-spent-rest c = no-memory c.args.self.now (record {}) c.requires.at

pub returns : goal.returns
returns c = redo-found c.args.self.now c.len-newest.result c.index-frame.result.now c.in-Some.i c.in-Some-section.section.now c.len-newest.ensures c.requires.at c.index-frame.ensures (let h = c.if-ne.ensures in let k = c.if-ne.false in search rules) (sym c.next_redo.ensures ∙ c.in-Some.is) c.in-Some-section.ensures
    (let a = c.if-spent-rest.false in let b = c.rest.ensures in let d = c.spent.ensures in let e = c.rest.type_inv in omega (arith, a, b, d, e))
