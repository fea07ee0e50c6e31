use Rattle.std.proofs.Common.{◌≡◌, ◌<◌, rules, ap, sym, arith}
use Rattle.ap_term.specs.Tree.{size, size_all, push_tree}
use Rattle.ap_term.specs.TermView.{tree_of, trees_of}
use Rattle.ap_term.proofs.TermLists.{item_smaller, size_all-push, last_smaller}
use Rattle.ap_absunify.proofs.Parts.{parts-last, numbered-front, numbered-item, numbered-node, parts_all-turn}
use Rattle.ap_absunify.proofs.equations.+after_equal.Goals as goal

pub after_each_equal-after_equal-requires : goal.after_each_equal-after_equal-requires
after_each_equal-after_equal-requires t c =
    let k : size (tree_of c.index-ts-i.result) < size_all (trees_of c.args.ts.now) = item_smaller c.args.ts.now c.loop-i.i c.index-ts-i.result (omega arith) c.index-ts-i.is in (
      search rules,
      (
        (numbered-item 255 c.args.ts.now c.loop-i.i c.index-ts-i.result (omega arith) c.index-ts-i.is c.loop-i.invariant.left_numbers).0,
        (numbered-item 255 c.args.us.now c.loop-i.i c.index-us-i.result (omega arith) c.index-us-i.is c.loop-i.invariant.right_numbers).0,
      ),
    )

pub after_each_equal-loop-i-preserved : goal.after_each_equal-loop-i-preserved
after_each_equal-loop-i-preserved t c = record {
  whole =
      parts_all-turn c.loop-i.state c.in_ok-state.state _ c.args.ts.now c.args.us.now c.loop-i.i c.index-ts-i.result c.index-us-i.result (omega arith) (omega arith)
      c.index-ts-i.is c.index-us-i.is c.in_ok-state.ensures c.loop-i.invariant.whole;
  left_numbers = (numbered-item 255 c.args.ts.now c.loop-i.i c.index-ts-i.result (omega arith) c.index-ts-i.is c.loop-i.invariant.left_numbers).1;
  right_numbers = (numbered-item 255 c.args.us.now c.loop-i.i c.index-us-i.result (omega arith) c.index-us-i.is c.loop-i.invariant.right_numbers).1;
}

pub after_equal-after_each_equal-requires : goal.after_equal-after_each_equal-requires
after_equal-after_each_equal-requires t c =
    let smaller = rw c.in-Node-Node.is-0 at c.loop-left.invariant.smaller in
    let e : size_all c.in-Node-Node.ts ≡ size_all (push_tree (trees_of c.in-Some-Some.front.now) (tree_of c.in-Some-Some.t.now)) = ap size_all c.in-Some-Some.ensures in
    let k : size_all (trees_of c.in-Some-Some.front.now) < size (tree_of c.args.t.now) = omega (arith, size_all-push (trees_of c.in-Some-Some.front.now) (tree_of c.in-Some-Some.t.now)) in (
      search rules,
      (
        (numbered-front 255 c.in-Node-Node.ts _ _ c.in-Some-Some.ensures (numbered-node 255 _ c.in-Node-Node.a c.in-Node-Node.ts c.in-Node-Node.is-0 c.loop-left.invariant.left_numbers)).0,
        (numbered-front 255 c.in-Node-Node.us _ _ c.in-Some-Some.ensures' (numbered-node 255 _ c.in-Node-Node.b c.in-Node-Node.us c.in-Node-Node.is-1 c.loop-left.invariant.right_numbers)).0,
      ),
    )

pub after_equal-loop-left-preserved : goal.after_equal-loop-left-preserved
after_equal-loop-left-preserved t c =
    let whole = rw (c.in-Node-Node.is-0, c.in-Node-Node.is-1) at c.loop-left.invariant.whole in
    let smaller = rw c.in-Node-Node.is-0 at c.loop-left.invariant.smaller in
    record {
      whole =
          parts-last c.loop-left.state c.in_ok-state-in-Some-Some.state _ c.in-Node-Node.a c.in-Node-Node.b _ _ _ _ _ _ (sym c.if-eq-2.ensures) c.in-Some-Some.ensures c.in-Some-Some.ensures'
          c.in_ok-state-in-Some-Some.ensures whole;
      left_numbers = (numbered-front 255 c.in-Node-Node.ts _ _ c.in-Some-Some.ensures (numbered-node 255 _ c.in-Node-Node.a c.in-Node-Node.ts c.in-Node-Node.is-0 c.loop-left.invariant.left_numbers)).1;
      right_numbers = (numbered-front 255 c.in-Node-Node.us _ _ c.in-Some-Some.ensures' (numbered-node 255 _ c.in-Node-Node.b c.in-Node-Node.us c.in-Node-Node.is-1 c.loop-left.invariant.right_numbers)).1;
      smaller = last_smaller c.in-Node-Node.a _ _ _ _ c.in-Some-Some.ensures smaller;
    }
