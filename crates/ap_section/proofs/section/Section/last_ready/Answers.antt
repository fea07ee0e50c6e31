use Rattle.std.proofs.Common.{◌≡◌, ◌∙◌, rules, ap}
use Rattle.ap_frames.specs.Verdicts.{rightmost}
use Rattle.ap_section.specs.Slots.{is_ready}
use Rattle.ap_section.proofs.Newest.{count-at}
use Rattle.ap_section.proofs.Found.{last-closed, last-ready, last-place}
use Rattle.ap_section.proofs.section.Section.last_ready.Goals as goal

pub overflow_sub-newest : goal.overflow_sub-newest
overflow_sub-newest c = let h = count-at c.args.self.now c.requires in let e = c.len-newest.ensures in search rules

pub index-frame-requires : goal.index-frame-requires
index-frame-requires c = let h = count-at c.args.self.now c.requires in let e = c.len-newest.ensures in search rules

pub returns-in-Closed-clause-last : goal.returns-in-Closed-clause-last
returns-in-Closed-clause-last c = last-closed c.args.self.now c.len-newest.result c.index-frame.result.now c.len-newest.ensures c.requires c.index-frame.ensures c.in-Closed.is

pub returns-in_default : goal.returns-in_default
returns-in_default c =
    let found : c.last_ready.result ≡ rightmost is_ready c.index-frame.result.now.slots.items = c.last_ready.ensures ∙ ap (rightmost is_ready) c.deref.ensures.value in
    record {
      last = last-ready c.args.self.now c.len-newest.result c.index-frame.result.now c.last_ready.result c.len-newest.ensures c.requires c.index-frame.ensures c.in_default.not-Closed found;
      ready = last-place c.args.self.now c.len-newest.result c.index-frame.result.now c.last_ready.result c.len-newest.ensures c.requires c.index-frame.ensures c.in_default.not-Closed found;
    }
