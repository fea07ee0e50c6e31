use Rattle.std.proofs.Common.{◌≡◌, false, ◌+◌, ◌<◌, ◌∙◌, subst, sym, ap, refl, arith}
use Rattle.std.specs.Prelude.{IfNone, IfSome, Some}
use Rattle.ap_machine.specs.declared.advance.Turn.TheVariants as Turn
use Rattle.ap_machine.specs.Ends.{Ends}
use Rattle.std.proofs.Math.Nat.{le-max_right}
use Rattle.ap_machine.proofs.Progress.{for-after}
use Rattle.ap_machine.specs.View.{Paused}
use Rattle.ap_machine.proofs.Past.{LeadsPast, past-none, past-then, past-group}
use Rattle.ap_machine.proofs.state.Search.advance_by.Goals as goal

pub groups-init : goal.groups-init
groups-init g c = record {
  advanced = past-none (g.H.Hook.is_wanted c.args.hook.now) c.args.sound.now c.args.self.now;
  is_for = c.requires;
  made = refl;
  within = le-max_right c.args.self.now.budget c.args.self.now.spent;
  more = omega arith;
  budget = refl;
  asked = λ h. h;
  wish = refl;
}

pub returns-in_err-turn-clause-advanced : goal.returns-in_err-turn-clause-advanced
returns-in_err-turn-clause-advanced g c = past-then (g.H.Hook.is_wanted c.args.hook.now) c.args.sound.now c.args.self.now c.turns.self c.turn.new.self c.turns.invariant.advanced c.turn.ensures.advanced

pub returns-in-Some-clause-advanced : goal.returns-in-Some-clause-advanced
returns-in-Some-clause-advanced g c = past-then (g.H.Hook.is_wanted c.args.hook.now) c.args.sound.now c.args.self.now c.turns.self c.turn.new.self c.turns.invariant.advanced c.turn.ensures.advanced

pub returns-in_err-go_past-clause-advanced : goal.returns-in_err-go_past-clause-advanced
returns-in_err-go_past-clause-advanced g c =
    subst (LeadsPast (g.H.Hook.is_wanted c.args.hook.now) c.args.sound.now c.args.self.now) (sym (c.in_err-go_past.ensures.err))
    (past-then (g.H.Hook.is_wanted c.args.hook.now) c.args.sound.now c.args.self.now c.turns.self c.turn.new.self c.turns.invariant.advanced c.turn.ensures.advanced)

pub turns-preserved : goal.turns-preserved
turns-preserved g c =
    let made : (c.turn.new.self.spent ≡ c.turns.self.spent + 1) × (0 < c.turns.left) =
    subst (λ found. IfNone found ((c.turn.new.self.spent ≡ c.turns.self.spent + 1) × (0 < c.turns.left))) c.in-None.is c.in_ok-turn.ensures.made
    in record {
      advanced = past-then (g.H.Hook.is_wanted c.args.hook.now) c.args.sound.now c.args.self.now c.turns.self c.turn.new.self c.turns.invariant.advanced c.turn.ensures.advanced;
      is_for = for-after c.args.sound.now c.turns.self c.turn.new.self c.turns.invariant.is_for c.turn.ensures.advanced;
      made = omega (arith, c.turns.invariant.made, made.0, made.1);
      within = omega (arith, c.turns.invariant.within, c.turns.invariant.budget);
      more = omega (arith, c.turns.invariant.more, made.0);
      budget = c.turn.ensures.advanced.budget ∙ c.turns.invariant.budget;
      asked = λ h. c.turn.ensures.asked (c.turns.invariant.asked h);
      wish = c.turn.ensures.wish ∙ c.turns.invariant.wish;
    }

pub groups-preserved : goal.groups-preserved
groups-preserved g c =
    let code = c.args.sound.now in
    let gone = c.in_ok-go_past.ensures.gone in
    let found : c.in_ok-turn.field-0 ≡ Some Turn.Group = c.in-Some-Group.is ∙ ap Some c.in-Some-Group.field-0-is in
    let here = subst (λ f. IfSome f (Ends code c.turns.left c.turns.self c.turn.new.self)) found c.in_ok-turn.ensures.end in
    let for_turn = for-after code c.turns.self c.turn.new.self c.turns.invariant.is_for c.turn.ensures.advanced in
    let for_past = c.in_ok-go_past.ensures.is_for for_turn in
    let turned = past-then (g.H.Hook.is_wanted c.args.hook.now) code c.args.self.now c.turns.self c.turn.new.self c.turns.invariant.advanced c.turn.ensures.advanced in
    let spent : c.go_past.new.self.spent ≡ c.turn.new.self.spent = ap (λ (s : Paused). s.spent) gone.goes_on in
    let budget : c.go_past.new.self.budget ≡ c.turn.new.self.budget = ap (λ (s : Paused). s.budget) gone.goes_on in
    let unwanted : g.H.Hook.is_wanted c.args.hook.now ≡ false = sym (c.turn.ensures.wish ∙ c.turns.invariant.wish) ∙ sym c.wants.ensures ∙ c.if-not-wants.true in
    let none : c.turn.new.self.spent ≡ c.turns.self.spent = subst (λ f. IfSome f (λ _. c.turn.new.self.spent ≡ c.turns.self.spent)) found c.in_ok-turn.ensures.none_made in
    record {
      advanced = past-group (g.H.Hook.is_wanted c.args.hook.now) code c.args.self.now c.turn.new.self c.go_past.new.self unwanted turned for_turn here gone for_past;
      is_for = for_past;
      made = omega (arith, c.turns.invariant.made, spent, none);
      within = omega (arith, c.turns.invariant.within, spent, none);
      more = omega (arith, c.turns.invariant.more, spent, none);
      budget = budget ∙ c.turn.ensures.advanced.budget ∙ c.turns.invariant.budget;
      asked = λ h. c.turn.ensures.asked (c.turns.invariant.asked h);
      wish = c.turn.ensures.wish ∙ c.turns.invariant.wish;
    }
