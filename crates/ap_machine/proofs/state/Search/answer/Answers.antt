use Rattle.std.proofs.Common.{List, ◌∷◌, ap, ◌∙◌, subst}
use Rattle.std.proofs.lemmas.Result.{IfOk-weaker}
use Rattle.std.specs.Prelude.{IfOk}
use Rattle.ap_tracked.specs.Tracked.{Tracked}
use Rattle.ap_term.specs.Tree.{Trees}
use Rattle.ap_term.specs.UpToNames.{SameUpToNames}
use Rattle.ap_term.proofs.TreeLists.{count-under}
use Rattle.ap_cells.specs.Trees.{tree_at, trees}
use Rattle.ap_copy.specs.Copies.{tuple_at}
use Rattle.ap_instr.specs.Code.{Compiled}
use Rattle.ap_standing.specs.Holds.{Holds}
use Rattle.ap_machine.specs.Stands.{IsAtAnswer, tuple_of}
use Rattle.ap_machine.specs.View.{Paused}
use Rattle.ap_machine.proofs.Tuples.{tuple_at-under, count-same}
use Rattle.ap_machine.proofs.Resting.{roots-inside, answer-first}
use Rattle.ap_machine.proofs.state.Search.answer.Goals as goal

pub returns-clause-tuple : goal.returns-clause-tuple
returns-clause-tuple c =
    let a = c.self.inside in
    let P : Trees → Type 0 = λ t. IfOk c.copy_apart.result (λ parcel. SameUpToNames parcel t) in
    let Q : Paused → Type 0 = λ s. P (tuple_of s.machine) in
    subst Q c.self.view_is (subst P (ap (tuple_at (trees a.cells.cells)) c.deref.ensures.value ∙ tuple_at-under (trees a.cells.cells) a.roots.items) c.copy_apart.ensures)

pub returns-clause-width : goal.returns-clause-width
returns-clause-width c =
    let m = c.args.self.now.machine in
    IfOk-weaker _ _ _ (λ parcel e. count-same parcel (tuple_of m) e ∙ count-under (tree_at (trees m.cells)) m.roots) (returns-clause-tuple c)

pub returns-clause-answered : goal.returns-clause-answered
returns-clause-answered c =
    let m = c.args.self.now.machine in
    let P : Trees → Type 0 = λ parcel. SameUpToNames parcel (tuple_of m) in
    let Q : Trees → Type 0 = λ parcel. IsAtAnswer m → (code : Compiled) (s : Tracked) (ss : List Tracked) → Holds code m (s ∷ ss) → SameUpToNames parcel s.tuple in
    IfOk-weaker _ P Q (λ parcel e at code s ss h. e ∙ (answer-first code m (roots-inside _ c.args.self.now c.self.view_is c.self.invariant.inside) at (s ∷ ss) h).2) (returns-clause-tuple c)
