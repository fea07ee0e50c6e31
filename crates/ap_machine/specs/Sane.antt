-- What always holds of a search: registers, returns and choice points hold places, and marks lead back.
use Rattle.std.specs.Prelude.{◌≡◌, ℕ, ◌<◌, ◌≤◌, List, [], ◌∷◌, ◌++◌, length, drop, None}
use Rattle.std.specs.List.{AllByRecursion}
use Rattle.ap_cells.specs.declared.cells.Raw.TheVariants.{Atom}
use Rattle.ap_cells.specs.Store.{Store, undone, IsMark}
use Rattle.ap_environments.specs.Kept.{Moment, Forked, Kept}
use Rattle.ap_steps.specs.Moves.{HoldPlaces}
use Rattle.ap_steps.specs.Standing.{Return}
use Rattle.ap_standing.specs.Machine.{AreWithin}

-- no return has more registers than there are
abbrev pub AreShort : ℕ → List Return → Type 0
AreShort n [] = Unit {0}
AreShort n (w ∷ ws) = (length w.y ≤ n) × AreShort n ws

-- place 0 is an atom, whatever is undone
pub record HasBottom (v : Store) : Type 0 where
  pub mark : IsMark v.cells v.trail 1 0
  pub leads : undone v 1 0 ≡ Atom 0 ∷ []

-- a choice point for so many X and Y registers
pub record IsMoment (v : Store) (xs ys : ℕ) (roots : List ℕ) (m : Moment) : Type 0 where
  pub mark : IsMark v.cells v.trail m.choice.cells m.choice.trail
  pub bottom : 1 ≤ m.choice.cells
  pub returns : AreWithin m.choice.cells m.returns
  pub short : AreShort ys m.returns
  pub arguments : HoldPlaces m.choice.cells m.arguments
  pub few : length m.arguments ≤ xs
  pub inside : AllByRecursion (λ r. r < m.choice.cells) roots

-- choice points, each made before the one in front of it
abbrev pub AreMoments : Store → ℕ → ℕ → List ℕ → ℕ → ℕ → List Moment → Type 0
AreMoments v xs ys roots n t [] = Unit {0}
AreMoments v xs ys roots n t (m ∷ ms) =
    (m.choice.cells ≤ n) × (m.choice.trail ≤ t) × IsMoment v xs ys roots m × AreMoments v xs ys roots m.choice.cells m.choice.trail ms

-- a fork as a choice point without arguments, and without its goals' frames
abbrev pub moment_at : Forked → Moment
moment_at f = record {
  choice = record { cells = f.fork.cells; trail = f.fork.trail; predicate = 0; place = 0; behind = None };
  returns = drop f.fork.goals f.returns;
  arguments = [];
}

-- forks, and the choice points behind each of them
abbrev pub moments_behind : List Forked → List Moment
moments_behind [] = []
moments_behind (f ∷ fs) = moment_at f ∷ f.moments ++ moments_behind fs

abbrev pub all_moments : Kept → List Moment
all_moments k = k.moments ++ moments_behind k.forks

-- at a fork there is a frame for each of its goals, and all frames hold places
pub record HasFrames (f : Forked) : Type 0 where
  pub enough : f.fork.goals ≤ length f.returns
  pub within : AreWithin f.fork.cells f.returns

pub record Sane (v : Store) (k : Kept) (xs ys roots : List ℕ) : Type 0 where
  pub x : HoldPlaces (length v.cells) xs
  pub y : HoldPlaces (length v.cells) ys
  pub returns : AreWithin (length v.cells) k.returns
  pub short : AreShort (length ys) k.returns
  pub inside : AllByRecursion (λ r. r < length v.cells) roots
  pub bottom : HasBottom v
  pub moments : AreMoments v (length xs) (length ys) roots (length v.cells) (length v.trail) (all_moments k)
  pub forks : AllByRecursion HasFrames k.forks
