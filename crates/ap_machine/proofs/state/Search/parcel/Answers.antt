use Rattle.std.proofs.Common.{◌≡◌, ◌<◌, length, slice_get, Some, ap, sym, ◌∙◌, subst}
use Rattle.std.specs.Prelude.{IfOk}
use Rattle.std.proofs.lemmas.Result.{IfOk-weaker}
use Rattle.ap_term.specs.Tuples.{tuple_under}
use Rattle.ap_term.specs.Tree.{Trees, count_trees}
use Rattle.ap_term.specs.UpToNames.{SameUpToNames}
use Rattle.ap_term.proofs.TreeLists.{count-under}
use Rattle.ap_cells.specs.Trees.{tree_at, trees}
use Rattle.ap_cells.specs.Walks.{Each}
use Rattle.ap_copy.specs.Copies.{tuple_at}
use Rattle.ap_group.specs.Groups.{Pushed}
use Rattle.ap_machine.specs.View.{Paused, pushed_of}
use Rattle.ap_machine.specs.Forks.{newest_goals}
use Rattle.ap_machine.proofs.Parting.{no-moment, no-frame, goal-at, goal-inside, each-held}
use Rattle.ap_machine.proofs.Tuples.{tuple_at-under, count-same}
use Rattle.ap_machine.proofs.state.Search.parcel.Goals as goal

pub goal-requires : goal.goal-requires
goal-requires c =
    let i = c.self.inside in
    record { newest = no-moment i.cells i.environments i.x.items i.y.items i.roots.items i.next i.spent i.budget c.args.self.now c.self.view_is c.requires.newest }

pub unreachable-requires : goal.unreachable-requires
unreachable-requires c =
    let i = c.self.inside in
    no-frame i.cells i.environments i.x.items i.y.items i.roots.items i.next i.spent i.budget c.args.self.now c.self.view_is c.self.invariant c.args.i c.requires.place (c.goal.ensures.none c.in_default.is)

pub copy_apart-requires : goal.copy_apart-requires
copy_apart-requires c =
    let i = c.self.inside in
    let s = c.in-Some.ensures.some in
    subst (Each (λ r. r < length i.cells.cells)) (s.7 ∙ sym c.in_ok-places.ensures ∙ sym c.deref.ensures.value) (each-held (length i.cells.cells) s.2.y (goal-inside i.cells i.environments i.x.items i.y.items i.roots.items s.0 s.1 s.3 c.self.invariant c.args.i s.2 s.5))

pub returns : goal.returns
returns c =
    let i = c.self.inside in
    let s = c.in-Some.ensures.some in
    let m = c.args.self.now.machine in
    let P : Trees → Type 0 = λ t. IfOk c.copy_apart.result (λ parcel. SameUpToNames parcel t) in
    let Q : Paused → Type 0 = λ t. P (tuple_under (tree_at (trees t.machine.cells)) s.2.y) in
    let places : c.deref.result.now ≡ s.2.y = c.deref.ensures.value ∙ c.in_ok-places.ensures ∙ sym s.7 in
    let copied = subst Q c.self.view_is (subst P (ap (tuple_at (trees i.cells.cells)) places ∙ tuple_at-under (trees i.cells.cells) s.2.y) c.copy_apart.ensures) in
    let found = goal-at i.cells i.environments i.x.items i.y.items i.roots.items s.0 s.1 s.3 c.self.invariant i.next i.spent i.budget c.args.self.now c.self.view_is c.args.i s.2 s.4 s.5 in
    let tuple : Trees = tuple_under (tree_at (trees m.cells)) s.2.y in
    IfOk-weaker _ (λ parcel. SameUpToNames parcel tuple)
    (λ (parcel : Trees). (p : Pushed) × (slice_get (newest_goals c.args.self.now.older) c.args.i ≡ Some p) × SameUpToNames parcel (tuple_under (tree_at (trees m.cells)) p.arguments) × (count_trees parcel ≡ length p.arguments))
    (λ parcel e. (pushed_of s.2, found, e, count-same parcel tuple e ∙ count-under (tree_at (trees m.cells)) s.2.y)) copied
