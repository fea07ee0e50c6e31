use Rattle.std.proofs.Common.{◌≡◌, ◌||◌, length, sym, ap, ◌∙◌, arith}
use Rattle.std.specs.List.{list_any}
use Rattle.ap_term.specs.Tree.{node}
use Rattle.ap_term.specs.TermView.{tree_of, trees_of}
use Rattle.ap_term.proofs.TermLists.{count-trees_of}
use Rattle.ap_reach.specs.Reached.{is_place, is_open_before}
use Rattle.ap_reach.proofs.Naming.{argument-trees_of, open_place_first, open_place_turn}
use Rattle.ap_reach.proofs.predicates.add_open_places.Goals as goal

pub loop-place-init : goal.loop-place-init
loop-place-init c = (omega arith, omega arith, λ k. open_place_first k (node c.args.name (trees_of c.args.args.now)) (list_any (is_place k) c.args.found.now.keys))

pub loop-place-preserved : goal.loop-place-preserved
loop-place-preserved c = (
  c.loop-place.invariant.0,
  omega arith,
  λ k.
      open_place_turn k c.args.name _ c.loop-place.place (trees_of c.args.args.now) (tree_of c.index-args-place.result) (list_any (is_place k) c.args.found.now.keys) (list_any (is_place k) c.loop-place.found.keys)
      (list_any (is_place k) c.add_open_place.new.found.keys) (c.loop-place.invariant.0 ∙ sym (count-trees_of c.args.args.now))
      (argument-trees_of c.args.args.now c.loop-place.place c.index-args-place.result (omega arith) c.index-args-place.is) (c.loop-place.invariant.2 k) (c.in_ok-add_open_place.ensures k),
)

pub returns : goal.returns
returns c k =
    let most = c.loop-place.invariant.1 in
    let end : c.loop-place.place ≡ length c.args.args.now = omega arith in
    c.loop-place.invariant.2 k ∙ ap (λ i. list_any (is_place k) c.args.found.now.keys || is_open_before i k (node c.args.name (trees_of c.args.args.now))) end
