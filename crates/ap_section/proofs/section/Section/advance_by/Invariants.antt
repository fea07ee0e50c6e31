use Rattle.std.proofs.Common.{◌≡◌, ◌+◌, ◌≤◌, max}
use Rattle.ap_term.specs.Blocks.{IsPrefix}
use Rattle.ap_section.specs.Views.{view_of, spent_in, budget_in}
use Rattle.ap_section.specs.Ready.{IsReady}
use Rattle.ap_section.specs.Lending.{frames_in}
use Rattle.ap_section.specs.Moving.{HasMoved}
use Rattle.ap_section.proofs.section.Section.advance_by.Given as goal

abbrev pub invariant-moves : goal.invariant-moves
invariant-moves g l = record {
  moved : HasMoved l.sound (view_of l.fn.self) (view_of l.self);
  ready : IsReady l.sound l.self;
  within : spent_in (view_of l.self) ≤ max (budget_in (view_of l.fn.self)) (spent_in (view_of l.fn.self));
  few : spent_in (view_of l.self) ≤ spent_in (view_of l.fn.self) + l.inferences;
  frames : IsPrefix (frames_in l.self) (frames_in l.fn.self);
  begins : l.before ≡ spent_in (view_of l.fn.self);
  asked : g.H.Hook.asked l.fn.hook → g.H.Hook.asked l.hook;
  wish : g.H.Hook.is_wanted l.hook ≡ g.H.Hook.is_wanted l.fn.hook;
}
