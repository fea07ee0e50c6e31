use Rattle.ap_section.proofs.Outcomes.{no-memory, none-open, open-broken, was-closed, was-forgotten}
use Rattle.ap_section.proofs.section.Section.settle_broken.Goals as goal

pub returns-then-not-has_room : goal.returns-then-not-has_room
returns-then-not-has_room c = no-memory c.args.self.now (record {}) c.requires.at

pub returns-then-not-may_break : goal.returns-then-not-may_break
returns-then-not-may_break c = none-open c.args.self.now (open-broken c.args.self.now c.args.cost c.stays-stays.result c.requires.broken c.stays-stays.ensures (c.may_break.ensures.waits c.if-not-may_break.true))

pub returns-then-stays : goal.returns-then-stays
returns-then-stays c = was-closed c.settling_law.ensures c.args.self.now c.charge.new.self c.close.new.self c.args.cost c.stays-stays.result c.requires.at c.requires.broken c.stays-stays.ensures c.if-stays.true (c.may_break.ensures.done c.if-not-may_break.false)
    c.charge.ensures.charged c.close.ensures.closed c.charge.ensures.nearly c.close.ensures.ready

pub returns : goal.returns
returns c = was-forgotten c.settling_law.ensures c.args.self.now c.charge.new.self c.forget.new.self c.args.cost c.stays-stays.result c.requires.at c.requires.broken c.stays-stays.ensures c.if-stays.false (c.may_break.ensures.done c.if-not-may_break.false)
    c.charge.ensures.charged c.forget.ensures.forgotten c.charge.ensures.nearly c.forget.ensures.ready
