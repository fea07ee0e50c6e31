use Rattle.std.proofs.Common.{◌∷◌, ap, ap₂, sym, subst, ◌∙◌}
use Rattle.ap_term.specs.Tree.{Trees}
use Rattle.ap_term.specs.UpToNames.{SameUpToNames}
use Rattle.ap_cells.specs.Trees.{tree_at, trees}
use Rattle.ap_term.specs.Tuples.{tuple_under}
use Rattle.ap_machine.specs.View.{Paused}
use Rattle.ap_machine.proofs.Resting.{roots-inside, answer-first}
use Rattle.ap_machine.proofs.state.Search.tuple.Goals as goal

pub returns-clause-cells : goal.returns-clause-cells
returns-clause-cells c = ap (λ (s : Paused). s.machine.cells) c.self.view_is

pub returns-clause-roots : goal.returns-clause-roots
returns-clause-roots c = c.deref.ensures.value ∙ ap (λ (s : Paused). s.machine.roots) c.self.view_is

pub returns-clause-tuple : goal.returns-clause-tuple
returns-clause-tuple c = ap₂ (λ cs rs. tuple_under (tree_at (trees cs)) rs) (returns-clause-cells c) (returns-clause-roots c)

pub returns-clause-answered : goal.returns-clause-answered
returns-clause-answered c = λ at code s ss h.
    let m = c.args.self.now.machine in
    let P : Trees → Type 0 = λ t. SameUpToNames t s.tuple in
    subst P (sym (returns-clause-tuple c)) (answer-first code m (roots-inside _ c.args.self.now c.self.view_is c.self.invariant.inside) at (s ∷ ss) h).2
