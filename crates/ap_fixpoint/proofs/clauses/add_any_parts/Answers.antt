use Rattle.std.proofs.Common.{◌≡◌, ◌+◌, ◌++◌, ◌∷◌, IsTrue, drop, map, ap, sym, ◌∙◌, subst, arith}
use Rattle.std.proofs.lemmas.Bool.{and_parts}
use Rattle.std.specs.List.{flat_map, list_all}
use Rattle.ap_term.specs.GoalView.{part_of}
use Rattle.ap_patterns.specs.Given.{patterns, given_by_any_part}
use Rattle.ap_fixpoint.specs.Formed.{goals_formed}
use Rattle.ap_fixpoint.specs.Uncovered.{uncovered}
use Rattle.ap_fixpoint.proofs.Turns.{parts-drop_more}
use Rattle.ap_fixpoint.proofs.Unreached.{uncovered-turn}
use Rattle.ap_fixpoint.proofs.clauses.add_any_parts.Goals as goal

pub loop-part-preserved : goal.loop-part-preserved
loop-part-preserved c =
    let t = patterns c.args.table.now in
    let s = c.args.called.now in
    let p = part_of c.part-item.result in
    let ps = map part_of (drop (c.loop-part.part-index + 1) c.args.parts.now) in
    let turn : map part_of (drop c.loop-part.part-index c.args.parts.now) ≡ p ∷ ps = parts-drop_more c.args.parts.now c.loop-part.part-index c.part-item.result (omega arith) c.part-item.is in
    record {
      whole = uncovered-turn t c.loop-part.given.items c.add_any_part.new.given.items (given_by_any_part s p) (flat_map (given_by_any_part s) ps) _ c.in_ok-add_any_part.ensures
          (ap (λ z. c.loop-part.given.items ++ uncovered t (flat_map (given_by_any_part s) z)) (sym turn) ∙ c.loop-part.invariant.whole);
      formed = (and_parts (goals_formed p) (list_all goals_formed ps) (subst (λ z. IsTrue (list_all goals_formed z)) turn c.loop-part.invariant.formed)).1;
    }
