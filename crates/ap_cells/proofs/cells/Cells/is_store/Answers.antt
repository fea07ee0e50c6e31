use Rattle.std.proofs.Common.{subst}
use Rattle.ap_cells.specs.Store.{Store, IsStore}
use Rattle.ap_cells.proofs.cells.Cells.is_store.Goals as goal

pub returns : goal.returns
returns c = subst (λ (v : Store). IsStore v.cells v.trail) c.self.view_is c.self.invariant.store
