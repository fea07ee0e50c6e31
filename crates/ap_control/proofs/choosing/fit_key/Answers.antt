use Rattle.std.proofs.Common.{sym, ap, ◌∙◌, subst, rules, w64}
use Rattle.std.specs.Prelude.{FitsSigned}
use Rattle.std.proofs.lemmas.Int.{to_z-of_z}
use Rattle.ap_term.specs.Tree.{atom, node}
use Rattle.ap_cells.specs.declared.top.Top.TheVariants.{Atom as AtomTop, Int as IntTop, Node as NodeTop}
use Rattle.ap_instr.specs.Runs.{spread}
use Rattle.ap_instr.proofs.Registers.{count-spread}
use Rattle.ap_index.specs.declared.key.Key.TheVariants.{Atom, Integer, Structure}
use Rattle.ap_match.proofs.Maps.{fits-top}
use Rattle.ap_control.specs.Choosing.{fit_known, IsFit}
use Rattle.ap_control.proofs.Fitting.{bound-fit, takes-key}
use Rattle.ap_control.proofs.choosing.fit_key.Goals as goal

pub returns-in-Free : goal.returns-in-Free
returns-in-Free c = takes-key c.args.cells.now.cells c.args.place c.in-Free.field-0 c.args.asked c.in-Free.ensures.tree

pub returns-in-Atom : goal.returns-in-Atom
returns-in-Atom c =
    let cs = c.args.cells.now.cells in
    let p = c.args.place in
    let t = AtomTop c.in-Atom.name in
    subst (IsFit cs p c.args.asked) (sym c.fit_known.ensures)
    (bound-fit cs p (Atom c.number.result) c.args.asked (λ k f. fits-top cs k p t f c.requires c.in-Atom.ensures.tree c.in-Atom.ensures.inside ∙ ap (λ n. atom n) (sym c.number.ensures)))

pub returns-in-Int : goal.returns-in-Int
returns-in-Int c =
    let cs = c.args.cells.now.cells in
    let p = c.args.place in
    let z = c.in-Int.value in
    let fits : FitsSigned w64 z = search rules in
    subst (IsFit cs p c.args.asked) (sym c.fit_known-in-Int.ensures)
    (subst (λ v. IsFit cs p c.args.asked (fit_known (Integer v) c.args.asked)) (sym (to_z-of_z w64 z fits))
    (bound-fit cs p (Integer z) c.args.asked (λ k f. fits-top cs k p (IntTop z) f c.requires c.in-Int.ensures.tree c.in-Int.ensures.inside)))

pub returns-else-count-gt255 : goal.returns-else-count-gt255
returns-else-count-gt255 c =
    let cs = c.args.cells.now.cells in
    let p = c.args.place in
    let first = c.in-Node.field-1 in
    let n = c.in-Node.count in
    subst (IsFit cs p c.args.asked) (sym c.fit_known-in-Node.ensures)
    (bound-fit cs p (Structure c.number-in-Node.result n) c.args.asked
    (λ k f. (
      spread k first n,
      count-spread k first n,
      fits-top cs k p (NodeTop c.in-Node.name first n) f c.requires c.in-Node.ensures.tree c.in-Node.ensures.inside ∙ ap (λ g. node g (spread k first n)) (sym c.number-in-Node.ensures),
    )))
