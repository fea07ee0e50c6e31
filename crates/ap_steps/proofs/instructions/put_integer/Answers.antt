use Rattle.std.proofs.Common.{ℕ, true, List, length, subst, w64}
use Rattle.std.proofs.lemmas.Int.{to_z-of_z}
use Rattle.ap_term.specs.Tree.{int}
use Rattle.ap_instr.specs.Step.{put_constant}
use Rattle.ap_steps.specs.Moves.{held, HoldPlaces, Taken}
use Rattle.ap_steps.proofs.instructions.put_integer.Goals as goal

pub returns-clause-taken : goal.returns-clause-taken
returns-clause-taken c =
    subst
    (λ z. (ys : List ℕ) → HoldPlaces (length c.args.cells.now.cells) c.args.x.now → HoldPlaces (length c.args.cells.now.cells) ys → Taken c.args.cells.now.cells (held c.args.x.now) (held ys) (put_constant (int z) c.args.a) c.put_cell.new.cells.cells (held c.put_cell.new.x) (held ys) true)
    (to_z-of_z w64 c.args.value c.ranges.value) c.put_cell.ensures.taken
