use Rattle.std.proofs.Common.{◌≡◌, ℕ, ℤ, false, refl, ap, subst}
use Rattle.ap_term.specs.Vars.{occurs}
use Rattle.ap_steps.specs.Arguments.{holds_constant}
use Rattle.ap_cells.specs.declared.cells.Raw.{Raw}
use Rattle.ap_cells.specs.declared.cells.Raw.TheVariants.{Free, Same, Int, Atom, Node}
use Rattle.ap_steps.proofs.arguments.is_constant.Goals as goal

other-cell : (r : Raw) → ((z : ℤ) → r ≡ Int z → ⊥) → ((a : ℕ) → r ≡ Atom a → ⊥) → holds_constant r ≡ false
other-cell Free h k = refl
other-cell (Same p) h k = refl
other-cell (Int z) h k = absurd (h z refl)
other-cell (Atom a) h k = absurd (k a refl)
other-cell (Node f p n) h k = refl

pub returns-in-Int-clause-apart : goal.returns-in-Int-clause-apart
returns-in-Int-clause-apart c = λ t x. ap (occurs x) c.in-Int.ensures.tree

pub returns-in-Atom-clause-apart : goal.returns-in-Atom-clause-apart
returns-in-Atom-clause-apart c = λ t x. ap (occurs x) c.in-Atom.ensures.tree

pub returns-in_default-clause-other : goal.returns-in_default-clause-other
returns-in_default-clause-other c = λ t d. subst (λ r. holds_constant r ≡ false) (c.raw_at.ensures.cell d) (other-cell c.raw_at.result c.in_default.not-Int c.in_default.not-Atom)
