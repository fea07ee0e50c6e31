use Rattle.std.proofs.Common.{◌≡◌, ◌++◌, false, length, ap, sym, subst, ◌∙◌, append_assoc}
use Rattle.ap_cells.specs.Trees.{tree_at, trees}
use Rattle.ap_writer.specs.Work.{text_by, is_cell}
use Rattle.ap_lines.specs.Work.{left}
use Rattle.ap_lines.proofs.Spans.{called-is}
use Rattle.ap_lines.proofs.text.write_plain.Goals as goal

pub returns-in_ok-write_term-in-Atom-clause-text : goal.returns-in_ok-write_term-in-Atom-clause-text
returns-in_ok-write_term-in-Atom-clause-text c = λ found p.
    let names = c.args.atoms.now in
    let ts = trees c.args.cells.now.cells in
    let out = c.args.out.now.items in
    let rest = left names found ts c.args.stack.now.items in
    ap (λ o. o ++ rest) (c.in_ok-write_term-in-Atom.ensures.text found p ∙ ap (λ t. out ++ text_by names found t) (sym c.in-Atom.ensures.tree))
    ∙ append_assoc out (text_by names found (tree_at ts c.args.place)) rest

pub returns-in_ok-write_call-in-Node-clause-text : goal.returns-in_ok-write_call-in-Node-clause-text
returns-in_ok-write_call-in-Node-clause-text c = λ found p.
    let names = c.args.atoms.now in
    let ts = trees c.args.cells.now.cells in
    let out = c.args.out.now.items in
    let rest = left names found ts c.args.stack.now.items in
    let plain = subst (λ t. is_cell names t ≡ false) c.in-Node.ensures.tree c.requires.plain in
    c.in_ok-write_call-in-Node.ensures.text found ts
    ∙ ap (λ l. out ++ (l ++ rest)) (sym (called-is names found ts c.in-Node.name c.in-Node.first c.in-Node.count plain) ∙ ap (text_by names found) (sym c.in-Node.ensures.tree))

pub returns-in_ok-write_call-in-Node-clause-inside : goal.returns-in_ok-write_call-in-Node-clause-inside
returns-in_ok-write_call-in-Node-clause-inside c = λ k. c.in_ok-write_call-in-Node.ensures.inside (length c.args.cells.now.cells) c.in-Node.ensures.inside k
