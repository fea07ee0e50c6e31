use Rattle.std.proofs.Common.{◌≡◌, ℕ, Option, Some, None, refl, ap, sym, ◌∙◌, subst}
use Rattle.std.specs.Prelude.{IfSome}
use Rattle.ap_term.specs.Tree.{Tree, node}
use Rattle.ap_cells.specs.declared.top.Top.TheVariants.{Node as NodeTop}
use Rattle.ap_instr.specs.Runs.{spread}
use Rattle.ap_instr.proofs.Registers.{count-spread}
use Rattle.ap_index.specs.declared.key.Key.TheVariants.{Structure}
use Rattle.ap_index.specs.declared.hashing.Hashed.{Hashed}
use Rattle.ap_index.specs.Keys.{IsKeyOf}
use Rattle.ap_match.specs.Fits.{Fits}
use Rattle.ap_match.proofs.Maps.{fits-top}
use Rattle.ap_control.proofs.Words.{word-of-key}
use Rattle.ap_control.proofs.choosing.first_at.Goals.{After-structure_of}
use Rattle.ap_control.proofs.choosing.first_at.Goals as goal

is-structure : (c : After-structure_of) (n : ℕ) → n ≡ c.number-in-Node.result → (k : ℕ → Tree) → Fits c.args.cells.now.cells k → IsKeyOf (Structure n c.in-Node.count) (k c.args.place)
is-structure c n e = λ k f. (
  spread k c.in-Node.field-1 c.in-Node.count,
  count-spread k c.in-Node.field-1 c.in-Node.count,
  fits-top c.args.cells.now.cells k c.args.place (NodeTop c.in-Node.name c.in-Node.field-1 c.in-Node.count) f c.requires c.in-Node.ensures.tree c.in-Node.ensures.inside
      ∙ ap (λ g. node g (spread k c.in-Node.field-1 c.in-Node.count)) (sym c.number-in-Node.ensures ∙ sym e),
)

pub returns-in-Node-clause-word : goal.returns-in-Node-clause-word
returns-in-Node-clause-word c = word-of-key c.args.cells.now.cells c.args.place c.structure.result (Structure c.number-in-Node.result c.in-Node.count) c.structure.ensures (is-structure c c.number-in-Node.result refl)

pub returns-in-Node-clause-key : goal.returns-in-Node-clause-key
returns-in-Node-clause-key c =
    let cs = c.args.cells.now.cells in
    let p = c.args.place in
    elim c.structure_of.result as (λ (o : Option Hashed). IfSome o (λ own. own.key ≡ Structure c.number-in-Node-2.result c.in-Node.count) → IfSome o (λ own. (k : ℕ → Tree) → Fits cs k → IsKeyOf own.key (k p))) [
      | None ↦ λ h. h
      | Some own ↦ λ h. subst (λ key. (k : ℕ → Tree) → Fits cs k → IsKeyOf key (k p)) (sym h) (is-structure c c.number-in-Node-2.result (c.number-in-Node-2.ensures ∙ sym c.number-in-Node.ensures))
    ] c.structure_of.ensures
