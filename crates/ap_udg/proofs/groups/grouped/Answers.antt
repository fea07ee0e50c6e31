use Rattle.std.proofs.Common.{◌-◌, sym, subst, take, drop, length, map, rules}
use Rattle.ap_term.specs.GoalView.{part_of}
use Rattle.ap_patterns.specs.Given.{patterns}
use Rattle.ap_udg.proofs.Bodies.{GoesOn, begins, turns, ends, rest-formed, rest-within, next-formed}
use Rattle.ap_udg.proofs.groups.grouped.Goals as goal

pub loop-from-init : goal.loop-from-init
loop-from-init c = record {
  within = search rules;
  whole = subst (λ b. GoesOn c.args.rule (patterns c.args.table.now) c.args.s (map part_of c.args.parts.now) b c.args.s (map part_of c.args.parts.now)) (sym c.new-body.ensures)
      (begins c.args.rule (patterns c.args.table.now) c.args.s (map part_of c.args.parts.now));
}

pub next_part-requires-clause-formed : goal.next_part-requires-clause-formed
next_part-requires-clause-formed c = rest-formed c.args.parts.now c.loop-from.from c.requires

pub after_part-requires : goal.after_part-requires
after_part-requires c =
    next-formed c.args.rule c.loop-from.state (map part_of (take (length c.args.parts.now - c.loop-from.from) (drop c.loop-from.from c.args.parts.now))) c.in_ok-count.field-0.count
    (part_of c.in_ok-count.field-0.part) c.in_ok-count.ensures (rest-formed c.args.parts.now c.loop-from.from c.requires)

pub loop-from-preserved : goal.loop-from-preserved
loop-from-preserved c = record {
  within = rest-within c.args.rule c.loop-from.state c.args.parts.now c.loop-from.from c.in_ok-count.field-0.count (part_of c.in_ok-count.field-0.part) c.loop-from-test.true c.in_ok-count.ensures;
  whole = turns c.args.rule (patterns c.args.table.now) c.args.s c.args.parts.now c.loop-from.body c.push.new.self c.loop-from.state c.in_ok-state.state c.loop-from.from c.in_ok-count.field-0.count
      (part_of c.in_ok-count.field-0.part) c.loop-from.invariant.whole c.in_ok-count.ensures c.in_ok-push.ensures c.in_ok-state.ensures;
}

pub returns : goal.returns
returns c = ends c.args.rule (patterns c.args.table.now) c.args.s c.args.parts.now c.loop-from.body c.loop-from.state c.loop-from.from c.loop-from-test.false c.loop-from.invariant.whole
