use Rattle.std.proofs.Common.{◌∷◌, [], refl, sym, subst}
use Rattle.ap_cells.specs.Trees.{trees}
use Rattle.ap_cells.specs.Walks.{Search, Tells}
use Rattle.ap_cells.specs.declared.walk.Range.{Range}
use Rattle.ap_cells.proofs.Searches.{Search-start}
use Rattle.ap_cells.proofs.walk.Walk.finds.Goals as goal

pub search_on-requires-clause-search : goal.search_on-requires-clause-search
search_on-requires-clause-search c =
    let ts = trees c.args.cells.now.cells in
    let x = c.args.x in
    let place = c.args.place in
    let r : Range = record { first = place; count = 1 } in
    let s = subst (λ ms. Search x ts place ms (r ∷ c.clear.new.self.items)) (sym c.clear-2.ensures) (subst (λ rs. Search x ts place [] (r ∷ rs)) (sym c.clear.ensures.items) (Search-start x ts place r refl refl)) in
    (subst (Tells x ts place c.search.new.marks c.search.new.ranges.items) c.in-Stopped.is (c.in_ok-search.ensures.tells place s))

pub returns-in-Found : goal.returns-in-Found
returns-in-Found c =
    let ts = trees c.args.cells.now.cells in
    let x = c.args.x in
    let place = c.args.place in
    let r : Range = record { first = place; count = 1 } in
    let s = subst (λ ms. Search x ts place ms (r ∷ c.clear.new.self.items)) (sym c.clear-2.ensures) (subst (λ rs. Search x ts place [] (r ∷ rs)) (sym c.clear.ensures.items) (Search-start x ts place r refl refl)) in
    sym (subst (Tells x ts place c.search.new.marks c.search.new.ranges.items) c.in-Found.is (c.in_ok-search.ensures.tells place s))

pub returns-in-Absent : goal.returns-in-Absent
returns-in-Absent c =
    let ts = trees c.args.cells.now.cells in
    let x = c.args.x in
    let place = c.args.place in
    let r : Range = record { first = place; count = 1 } in
    let s = subst (λ ms. Search x ts place ms (r ∷ c.clear.new.self.items)) (sym c.clear-2.ensures) (subst (λ rs. Search x ts place [] (r ∷ rs)) (sym c.clear.ensures.items) (Search-start x ts place r refl refl)) in
    sym (subst (Tells x ts place c.search.new.marks c.search.new.ranges.items) c.in-Absent.is (c.in_ok-search.ensures.tells place s))
