-- Going back to the newest choice point.
use Rattle.std.specs.Prelude.{◌≡◌, ℕ, ◌≤◌, List, ◌∷◌, length}
use Rattle.ap_cells.specs.Store.{Store, undone, IsMark}
use Rattle.ap_environments.specs.Kept.{Moment, Kept}
use Rattle.ap_steps.specs.Moves.{held}

-- the store can be undone to the newest choice point's mark, and there are registers for its arguments
abbrev pub CanGoBack : Store → List Moment → ℕ → Type 0
CanGoBack v ms xs =
    (m : Moment) × (rest : List Moment) × (ms ≡ m ∷ rest) × IsMark v.cells v.trail m.choice.cells m.choice.trail × (length m.arguments ≤ xs)

pub record WentBack (v w : Store) (old new : Kept) (x y : List ℕ) (m : Moment) : Type 0 where
  pub cells : w.cells ≡ undone v m.choice.cells m.choice.trail
  pub older : (n t : ℕ) → n ≤ m.choice.cells → t ≤ m.choice.trail → IsMark v.cells v.trail n t → IsMark w.cells w.trail n t
  pub leads : (n t : ℕ) → n ≤ m.choice.cells → t ≤ m.choice.trail → IsMark v.cells v.trail n t → undone w n t ≡ undone v n t
  pub kept : new ≡ record old { returns = m.returns }
  pub hold_x : (n : ℕ) → held x n ≡ held m.arguments n
  pub hold_y : (n : ℕ) → held y n ≡ 0
