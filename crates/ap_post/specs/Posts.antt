-- What a post is to its caller: the goals that are out, and those that were taken.
use Rattle.std.specs.Prelude.{◌≡◌, ℕ, ◌-◌, ◌^◌, ◌<◌, ◌≤◌, ◌⊎◌, List, [], ◌∷◌, ◌++◌, map, slice_get, Option, Some, None}
use Rattle.ap_desk.specs.declared.note.Note.{Note}
use Rattle.ap_desk.specs.Offered.{goal_of}
use Rattle.ap_post.specs.declared.job.Job.{Job}
use Rattle.ap_post.specs.declared.post.Post.{Post}
use Rattle.ap_post.specs.Posted.{Posted, posted}

-- the goals of a frame that are out
abbrev pub posted_in : Post → ℕ → List Posted
posted_in p f = posted p.desk.1 p.desk.4 f

-- the goals that were taken and aren't finished, the oldest first
abbrev pub jobs_in : Post → List (Option Job)
jobs_in p = map (goal_of p.desk.1) p.desk.2

-- the place of the one that was found asked to stop
abbrev pub asked_in : Post → Option ℕ
asked_in p = p.desk.3

-- ---- what stays

abbrev pub SamePosted : Post → Post → Type 0
SamePosted p q = (f : ℕ) → posted_in q f ≡ posted_in p f

abbrev pub OthersPosted : ℕ → Post → Post → Type 0
OthersPosted f p q = (g : ℕ) → (g ≡ f → ⊥) → posted_in q g ≡ posted_in p g

-- of all frames with smaller numbers
abbrev pub SameBelow : ℕ → Post → Post → Type 0
SameBelow f p q = (g : ℕ) → g < f → posted_in q g ≡ posted_in p g

pub record SameJobs (p q : Post) : Type 0 where
  pub jobs : jobs_in q ≡ jobs_in p
  pub asked : asked_in q ≡ asked_in p

-- ---- what changes

-- that goal of the frame is no longer out
pub record IsLess (f : ℕ) (a : Posted) (p q : Post) : Type 0 where
  pub before : List Posted
  pub behind : List Posted
  pub was : posted_in p f ≡ before ++ a ∷ behind
  pub left : posted_in q f ≡ before ++ behind
  pub others : OthersPosted f p q

-- one more is
pub record IsMore (f : ℕ) (a : Posted) (p q : Post) : Type 0 where
  pub now : posted_in q f ≡ posted_in p f ++ a ∷ []
  pub others : OthersPosted f p q

-- ---- where it begins

pub record IsNew (p : Post) : Type 0 where
  pub jobs : jobs_in p ≡ []
  pub asked : asked_in p ≡ None
  pub none : (f : ℕ) → posted_in p f ≡ []

-- ---- notes of a desk

-- all but the one at that place stood where they stand
abbrev pub OthersNoted : ℕ → List Note → List Note → Type 0
OthersNoted k ns ms = (i : ℕ) (n : Note) → slice_get ms i ≡ Some n → (i ≡ k → ⊥) → slice_get ns i ≡ Some n

-- from that place on each is of the frames that were left, or stood behind it
abbrev pub IsLeftAt : ℕ → List Note → List Note → Type 0
IsLeftAt k ns ms = (i : ℕ) (n : Note) → k ≤ i → slice_get ms i ≡ Some n → (n.frame ≡ 2 ^ 64 - 1) ⊎ ((j : ℕ) × (k < j) × (slice_get ns j ≡ Some n))
