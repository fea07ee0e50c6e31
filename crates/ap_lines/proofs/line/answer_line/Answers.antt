use Rattle.std.proofs.Common.{◌≡◌, ◌<◌, ◌+◌, ◌++◌, ◌∷◌, length, get_or, drop, ap, sym, subst, ◌∙◌, arith}
use Rattle.std.proofs.lemmas.List.{append-nil}
use Rattle.ap_cells.specs.Trees.{tree_at, trees}
use Rattle.ap_term.specs.Tuples.{tuple_under}
use Rattle.ap_term.proofs.Lists.{drop-read}
use Rattle.ap_lines.specs.SoFar.{IsSoFar}
use Rattle.ap_writer.proofs.Turns.{lead, behind}
use Rattle.ap_lines.proofs.Turns.{turn-hidden, turn-shown}
use Rattle.ap_lines.proofs.Spans.{tuple_under-drop_more}
use Rattle.ap_lines.proofs.line.answer_line.Goals as goal
use Rattle.ap_lines.proofs.line.answer_line.Goals.{then-not-is_first+in_ok-extend_from_slice, else-not-is_first}

pub loop-i-preserved-then-is_hidden : goal.loop-i-preserved-then-is_hidden
loop-i-preserved-then-is_hidden c =
    let atoms = c.args.atoms.now in
    let names = c.names-name-items.result.now in
    let roots = c.args.roots.now in
    let ts = trees c.args.cells.now.cells in
    let tuple = tuple_under (tree_at ts) roots in
    let i = c.loop-i.i in
    let left = drop (i + 1) names in
    let within : i < length roots = omega (arith, ap length c.names-name-items.ensures.names) in
    let so = subst (λ l. IsSoFar atoms names tuple l (tuple_under (tree_at ts) (drop i roots)) c.loop-i.is_first c.loop-i.numbers c.loop-i.out.items)
    (drop-read names i c.name-item.result c.loop-i-test.true c.name-item.is) c.loop-i.invariant in
    subst (λ us. IsSoFar atoms names tuple left us c.loop-i.is_first c.loop-i.numbers c.loop-i.out.items) (ap behind (tuple_under-drop_more (tree_at ts) roots i within))
    (turn-hidden atoms names tuple left (tuple_under (tree_at ts) (drop i roots)) c.loop-i.is_first c.loop-i.numbers c.loop-i.out.items c.name-item.result so (sym c.if-is_hidden.ensures))

pub loop-i-preserved : goal.loop-i-preserved
loop-i-preserved c =
    let atoms = c.args.atoms.now in
    let names = c.names-name-items.result.now in
    let roots = c.args.roots.now in
    let ts = trees c.args.cells.now.cells in
    let tuple = tuple_under (tree_at ts) roots in
    let i = c.loop-i.i in
    let left = drop (i + 1) names in
    let us = tuple_under (tree_at ts) (drop (i + 1) roots) in
    let term = tree_at ts (get_or roots i 0) in
    let out = c.loop-i.out.items in
    let within : i < length roots = omega (arith, ap length c.names-name-items.ensures.names) in
    let parted : c.if-not-is_first.out.items ≡ out ++ lead c.loop-i.is_first =
    elim c.if-not-is_first.branch [
      | then-not-is_first+in_ok-extend_from_slice w ↦ ap (λ o. o.items) w.out-is ∙ w.in_ok-extend_from_slice.ensures.items ∙ ap (λ b. out ++ lead b) (sym w.if-not-is_first.true)
      | else-not-is_first w ↦ ap (λ o. o.items) w.out-is ∙ sym (append-nil out) ∙ ap (λ b. out ++ lead b) (sym w.if-not-is_first.false)
    ] in
    let so = subst (λ l. IsSoFar atoms names tuple l (tuple_under (tree_at ts) (drop i roots)) c.loop-i.is_first c.loop-i.numbers out)
    (drop-read names i c.name-item.result c.loop-i-test.true c.name-item.is) c.loop-i.invariant in
    let so_first = subst (λ vs. IsSoFar atoms names tuple (c.name-item.result ∷ left) vs c.loop-i.is_first c.loop-i.numbers out) (tuple_under-drop_more (tree_at ts) roots i within) so in
    turn-shown atoms names tuple left us c.loop-i.is_first c.loop-i.numbers _ out _ _ c.name-item.result term so_first
    (sym c.if-is_hidden.ensures) parted c.in_ok-write_equation.ensures.variables c.in_ok-write_equation.ensures.text
