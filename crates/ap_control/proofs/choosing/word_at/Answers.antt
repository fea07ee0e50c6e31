use Rattle.std.proofs.Common.{ap, sym, ◌∙◌, rules, w64}
use Rattle.std.specs.Prelude.{FitsSigned}
use Rattle.std.proofs.lemmas.Int.{to_z-of_z}
use Rattle.ap_term.specs.Tree.{atom, node}
use Rattle.ap_cells.specs.declared.top.Top.TheVariants.{Atom as AtomTop, Int as IntTop, Node as NodeTop}
use Rattle.ap_instr.specs.Runs.{spread}
use Rattle.ap_instr.proofs.Registers.{count-spread}
use Rattle.ap_index.specs.declared.key.Key.TheVariants.{Atom, Integer, Structure}
use Rattle.ap_index.specs.Words.{word_of}
use Rattle.ap_match.proofs.Maps.{fits-top}
use Rattle.ap_control.proofs.Words.{word-of-key}
use Rattle.ap_control.proofs.choosing.word_at.Goals as goal

pub returns-in-Atom : goal.returns-in-Atom
returns-in-Atom c =
    let cs = c.args.cells.now.cells in
    let p = c.args.place in
    word-of-key cs p c.atom.result (Atom c.number.result) c.atom.ensures (λ k f. fits-top cs k p (AtomTop c.in-Atom.name) f c.requires c.in-Atom.ensures.tree c.in-Atom.ensures.inside ∙ ap (λ n. atom n) (sym c.number.ensures))

pub returns-in-Int : goal.returns-in-Int
returns-in-Int c =
    let cs = c.args.cells.now.cells in
    let p = c.args.place in
    let fits : FitsSigned w64 c.in-Int.value = search rules in
    word-of-key cs p c.integer.result (Integer c.in-Int.value) (c.integer.ensures ∙ ap (λ v. word_of (Integer v)) (to_z-of_z w64 c.in-Int.value fits)) (λ k f. fits-top cs k p (IntTop c.in-Int.value) f c.requires c.in-Int.ensures.tree c.in-Int.ensures.inside)

pub returns-in-Node : goal.returns-in-Node
returns-in-Node c =
    let cs = c.args.cells.now.cells in
    let p = c.args.place in
    let first = c.in-Node.field-1 in
    let n = c.in-Node.count in
    word-of-key cs p c.structure.result (Structure c.number-in-Node.result n) c.structure.ensures (λ k f. (
      spread k first n,
      count-spread k first n,
      fits-top cs k p (NodeTop c.in-Node.name first n) f c.requires c.in-Node.ensures.tree c.in-Node.ensures.inside ∙ ap (λ g. node g (spread k first n)) (sym c.number-in-Node.ensures),
    ))
