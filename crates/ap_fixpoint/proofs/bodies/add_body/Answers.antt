use Rattle.std.proofs.Common.{◌≡◌, ◌+◌, ◌++◌, ◌∷◌, IsTrue, drop, map, ap, sym, ◌∙◌, subst, arith}
use Rattle.std.proofs.lemmas.Bool.{and_parts}
use Rattle.std.specs.List.{list_all}
use Rattle.ap_term.specs.GoalView.{part_of}
use Rattle.ap_patterns.specs.Given.{patterns, given_by_part, given_by_body, after_part, after_body}
use Rattle.ap_fixpoint.specs.Formed.{goals_formed}
use Rattle.ap_fixpoint.specs.Uncovered.{uncovered}
use Rattle.ap_fixpoint.proofs.Turns.{parts-drop_more}
use Rattle.ap_fixpoint.proofs.Unreached.{uncovered-turn}
use Rattle.ap_fixpoint.proofs.bodies.add_body.Goals as goal

pub loop-part-preserved : goal.loop-part-preserved
loop-part-preserved c =
    let t = patterns c.args.table.now in
    let s = c.loop-part.state in
    let p = part_of c.part-item.result in
    let ps = map part_of (drop (c.loop-part.part-index + 1) c.args.parts.now) in
    let old = c.loop-part.given.items in
    let turn : map part_of (drop c.loop-part.part-index c.args.parts.now) ≡ p ∷ ps = parts-drop_more c.args.parts.now c.loop-part.part-index c.part-item.result (omega arith) c.part-item.is in
    record {
      whole = ap (λ z. c.add_part.new.given.items ++ uncovered t (given_by_body t z ps)) c.in_ok-state.ensures.after
          ∙ uncovered-turn t old c.add_part.new.given.items (given_by_part t s p) (given_by_body t (after_part t s p) ps) _ c.in_ok-state.ensures.given
          (ap (λ z. old ++ uncovered t (given_by_body t s z)) (sym turn) ∙ c.loop-part.invariant.whole);
      after = ap (λ z. after_body t z ps) c.in_ok-state.ensures.after ∙ ap (after_body t s) (sym turn) ∙ c.loop-part.invariant.after;
      formed = (and_parts (goals_formed p) (list_all goals_formed ps) (subst (λ z. IsTrue (list_all goals_formed z)) turn c.loop-part.invariant.formed)).1;
    }
