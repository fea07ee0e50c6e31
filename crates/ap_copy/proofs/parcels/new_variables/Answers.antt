use Rattle.std.proofs.Common.{◌≡◌, ◌-◌, length, sym, subst, arith}
use Rattle.ap_term.specs.Search.{variables}
use Rattle.ap_term.specs.UpToNames.{SameUpToNames}
use Rattle.ap_cells.specs.Trees.{trees, span}
use Rattle.ap_cells.proofs.Walks.{count-span}
use Rattle.ap_copy.proofs.Fresh.{names-variables}
use Rattle.ap_copy.proofs.parcels.new_variables.Goals as goal

pub returns-clause-names : goal.returns-clause-names
returns-clause-names c =
    let block = c.in_ok-cells.cells.items in
    let few : length block ≡ c.args.count = c.in_ok-cells.ensures.len in
    let none : length block - c.args.count ≡ 0 = omega arith in
    subst (λ p. SameUpToNames (span (trees block) p c.args.count) (variables c.args.count)) (sym none)
    (names-variables (trees block) c.args.count (λ i l. c.in_ok-cells.ensures.names.names i (omega arith)))

pub returns-clause-count : goal.returns-clause-count
returns-clause-count c = count-span (trees c.in_ok-cells.cells.items) _ c.args.count
