use Rattle.std.proofs.Common.{◌<◌, Ok, Err, length, sym, ap, ap₂, ◌∙◌, arith}
use Rattle.std.specs.Prelude.{IfOk}
use Rattle.std.proofs.lemmas.Bool.{false≢true}
use Rattle.ap_term.specs.Tree.{node}
use Rattle.ap_cells.specs.declared.top.Top.TheVariants.{Node}
use Rattle.ap_instr.specs.Step.{get_structure}
use Rattle.ap_instr.specs.Runs.{spread}
use Rattle.ap_match.proofs.Maps.{fits-top}
use Rattle.ap_steps.specs.Moves.{held}
use Rattle.ap_steps.specs.Found.{MatchedAll}
use Rattle.ap_steps.specs.Ways.{StepTaken}
use Rattle.ap_steps.proofs.StructuresTaken.{found-taken, another-taken}
use Rattle.ap_steps.proofs.structures.get_structure.Goals as goal

pub returns-then-not-is_of-clause-taken : goal.returns-then-not-is_of-clause-taken
returns-then-not-is_of-clause-taken c =
    let inside : c.place_in-place.result < length c.args.cells.now.cells = omega (arith, c.requires.holds_x c.args.a) in
    another-taken c.args.code.now c.args.at c.args.name c.args.count c.args.a c.args.cells.now.cells (held c.args.x.now) (held c.args.y.now) c.in-Node.found c.in-Node.first c.in-Node.arity
    (λ p q. false≢true (sym c.if-not-is_of.true ∙ c.is_of.ensures.other p q))
    (λ k h. ap k (sym c.place_in-place.ensures) ∙ fits-top c.args.cells.now.cells k c.place_in-place.result (Node c.in-Node.found c.in-Node.first c.in-Node.arity) h inside c.in-Node.ensures.tree c.in-Node.ensures.inside)

pub returns-else-not-is_of-clause-taken : goal.returns-else-not-is_of-clause-taken
returns-else-not-is_of-clause-taken c =
    let inside : c.place_in-place.result < length c.args.cells.now.cells = omega (arith, c.requires.holds_x c.args.a) in
    let same = c.is_of.ensures.same c.if-not-is_of.false in
    (elim c.match_arguments.result as (λ r. IfOk r (λ b. MatchedAll c.args.code.now c.args.at c.in-Node.first c.args.count c.args.cells.now.cells (held c.args.x.now) (held c.args.y.now) c.match_arguments.new.cells.cells (held c.match_arguments.new.x) (held c.match_arguments.new.y) b)
    → IfOk r (λ b. StepTaken c.args.code.now (get_structure c.args.name c.args.count c.args.a) c.args.at c.args.count c.args.cells.now.cells (held c.args.x.now) (held c.args.y.now) c.match_arguments.new.cells.cells (held c.match_arguments.new.x) (held c.match_arguments.new.y) b)) [
      | Ok b ↦ λ matched. found-taken c.args.code.now c.args.at c.args.name c.args.count c.args.a c.args.cells.now.cells (held c.args.x.now) (held c.args.y.now) c.in-Node.first
          (λ k h. ap k (sym c.place_in-place.ensures)
          ∙ fits-top c.args.cells.now.cells k c.place_in-place.result (Node c.in-Node.found c.in-Node.first c.in-Node.arity) h inside c.in-Node.ensures.tree c.in-Node.ensures.inside
          ∙ ap₂ (λ g m. node g (spread k c.in-Node.first m)) same.0 same.1)
          c.match_arguments.new.cells.cells (held c.match_arguments.new.x) (held c.match_arguments.new.y) b matched
      | Err r ↦ λ matched. tt
    ]) c.match_arguments.ensures.matched
