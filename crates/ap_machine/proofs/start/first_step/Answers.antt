use Rattle.std.proofs.Common.{◌≡◌, Some, refl, ap, sym, ◌∙◌}
use Rattle.ap_instr.specs.declared.compiled.Predicate.{Predicate}
use Rattle.ap_standing.specs.Machine.{inside}
use Rattle.ap_machine.proofs.start.first_step.Goals as goal

pub returns-in-Some-goal_place : goal.returns-in-Some-goal_place
returns-in-Some-goal_place c =
    let s = c.in-Some-goal_place.ensures.some in
    record {
      calls = λ other none. absurd (none s.0 s.1 s.2);
      solves = λ other r known goal.
          let e : Some s.0 ≡ Some r = sym s.1 ∙ known in
          let same : s.0 ≡ r = cc in
          ap inside (sym s.3 ∙ ap (λ (q : Predicate). q.start) same);
      asks = λ question. absurd (c.question.ensures.none c.in_default.is question);
    }

pub returns-in-None : goal.returns-in-None
returns-in-None c = record {
  calls = λ other none. refl;
  solves = λ other r known goal. absurd (c.goal_place.ensures.none c.in-None.is r known goal);
  asks = λ question. absurd (c.question.ensures.none c.in_default.is question);
}
