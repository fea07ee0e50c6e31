use Rattle.std.proofs.Common.{◌≡◌, ◌+◌, ◌∷◌, IsTrue, drop, map, ap, ◌∙◌, subst, arith}
use Rattle.std.proofs.lemmas.Bool.{and_parts}
use Rattle.std.proofs.lemmas.List.{drop_all}
use Rattle.std.specs.List.{list_all}
use Rattle.ap_term.specs.TermView.{tree_of}
use Rattle.ap_term.specs.GoalView.{part_of}
use Rattle.ap_patterns.specs.Given.{patterns}
use Rattle.ap_fixpoint.specs.Formed.{goals_formed}
use Rattle.ap_fixpoint.specs.Uncovered.{uncovered, given_on}
use Rattle.ap_fixpoint.proofs.Turns.{parts-drop_more}
use Rattle.ap_fixpoint.proofs.OpenGoals.{on-turn, on-stuck}
use Rattle.ap_fixpoint.proofs.open.is_idle.Goals as goal

pub returns-then-is_part_stuck : goal.returns-then-is_part_stuck
returns-then-is_part_stuck c h =
    let t = patterns c.args.table.now in
    let head = tree_of c.args.head.now in
    let p = part_of c.part-item.result in
    let ps = map part_of (drop (c.loop-part.part-index + 1) c.args.parts.now) in
    let turn : map part_of (drop c.loop-part.part-index c.args.parts.now) ≡ p ∷ ps = parts-drop_more c.args.parts.now c.loop-part.part-index c.part-item.result (omega arith) c.part-item.is in
    c.loop-part.invariant.whole (λ s.
    ap (λ z. uncovered t (given_on t head s z)) turn ∙ on-stuck t head p ps (c.is_part_open.ensures c.if-not-is_part_open.false) (c.is_part_stuck.ensures c.if-is_part_stuck.true) s)

pub loop-part-preserved : goal.loop-part-preserved
loop-part-preserved c =
    let t = patterns c.args.table.now in
    let head = tree_of c.args.head.now in
    let p = part_of c.part-item.result in
    let ps = map part_of (drop (c.loop-part.part-index + 1) c.args.parts.now) in
    let turn : map part_of (drop c.loop-part.part-index c.args.parts.now) ≡ p ∷ ps = parts-drop_more c.args.parts.now c.loop-part.part-index c.part-item.result (omega arith) c.part-item.is in
    record {
      whole = λ rest. c.loop-part.invariant.whole (λ s. ap (λ z. uncovered t (given_on t head s z)) turn ∙ on-turn t head p ps (c.is_part_open.ensures c.if-not-is_part_open.false) rest s);
      formed = (and_parts (goals_formed p) (list_all goals_formed ps) (subst (λ z. IsTrue (list_all goals_formed z)) turn c.loop-part.invariant.formed)).1;
    }

pub returns : goal.returns
returns c h =
    let t = patterns c.args.table.now in
    let head = tree_of c.args.head.now in
    c.loop-part.invariant.whole (λ s.
    ap (λ z. uncovered t (given_on t head s (map part_of z))) (drop_all c.loop-part.part-index c.args.parts.now c.loop-part-test.false) ∙ c.is_success_open.ensures h s)
