use Rattle.std.proofs.Common.{length, refl}
use Rattle.ap_term.specs.Tree.{atom}
use Rattle.ap_cells.specs.declared.cells.Raw.TheVariants.{Atom as AtomRaw}
use Rattle.ap_cells.specs.declared.cells.Cell.TheVariants.{Atom as AtomCell}
use Rattle.ap_cells.specs.Trees.{trees}
use Rattle.ap_steps.specs.Moves.{held}
use Rattle.ap_steps.proofs.Building.{constant-built}
use Rattle.ap_steps.proofs.NewCells.{push-keeps, push-apart, constant-apart}
use Rattle.ap_steps.proofs.arguments.build_atom.Goals as goal

pub returns-clause-built : goal.returns-clause-built
returns-clause-built c =
    λ xs ys.
    constant-built c.args.cells.now.cells c.push_atom.new.cells.cells (AtomRaw c.args.name) c.push_atom.result c.push_atom.ensures.place c.push_atom.ensures.len c.push_atom.ensures.becomes c.push_atom.ensures.fits (atom c.args.name) (λ k. refl)
    (held xs) (held ys)

pub returns-clause-stays : goal.returns-clause-stays
returns-clause-stays c = push-keeps c.args.cells.now.cells c.push_atom.new.cells.cells (atom c.args.name) c.push_atom.ensures.trees

pub returns-clause-apart : goal.returns-clause-apart
returns-clause-apart c =
    let ts = trees c.args.cells.now.cells in
    let n = length c.args.cells.now.cells in
    push-apart c.args.cells.now.cells c.push_atom.new.cells.cells (atom c.args.name) c.push_atom.ensures.trees c.push_atom.ensures.len (λ x l. constant-apart ts x n (AtomCell c.args.name) (λ k. refl))
