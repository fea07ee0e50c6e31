use Rattle.std.proofs.Common.{◌≡◌, ◌+◌, ◌≤◌, max}
use Rattle.ap_machine.specs.View.{IsFor}
use Rattle.ap_machine.proofs.Past.{LeadsPast}
use Rattle.ap_machine.proofs.state.Search.advance_by.Given as goal

abbrev pub invariant-groups : goal.invariant-groups
invariant-groups g l = record {
  advanced : LeadsPast (g.H.Hook.is_wanted l.fn.hook) l.sound l.fn.self l.self;
  is_for : IsFor l.sound l.self;
  made : l.self.spent + l.left ≡ l.fn.self.spent + l.inferences;
  within : l.self.spent ≤ max l.fn.self.budget l.fn.self.spent;
  more : l.fn.self.spent ≤ l.self.spent;
  budget : l.self.budget ≡ l.fn.self.budget;
  asked : g.H.Hook.asked l.fn.hook → g.H.Hook.asked l.hook;
  wish : g.H.Hook.is_wanted l.hook ≡ g.H.Hook.is_wanted l.fn.hook;
}

abbrev pub decreases-turns : goal.decreases-turns
decreases-turns g l = l.left

abbrev pub invariant-turns : goal.invariant-turns
invariant-turns g l = record {
  advanced : LeadsPast (g.H.Hook.is_wanted l.fn.hook) l.sound l.fn.self l.self;
  is_for : IsFor l.sound l.self;
  made : l.self.spent + l.left ≡ l.fn.self.spent + l.inferences;
  within : l.self.spent ≤ max l.fn.self.budget l.fn.self.spent;
  more : l.fn.self.spent ≤ l.self.spent;
  budget : l.self.budget ≡ l.fn.self.budget;
  asked : g.H.Hook.asked l.fn.hook → g.H.Hook.asked l.hook;
  wish : g.H.Hook.is_wanted l.hook ≡ g.H.Hook.is_wanted l.fn.hook;
}
