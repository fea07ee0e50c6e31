-- Frames, each of which leads to an earlier one, as lists of returns; choice points and forks as segments.
use Rattle.std.specs.Prelude.{◌≡◌, ℕ, ◌+◌, ◌<◌, ◌≤◌, List, [], ◌∷◌, ◌++◌, length, take, drop, slice_index_or, Option}
use Rattle.ap_steps.specs.Standing.{Return}
use Rattle.ap_environments.specs.declared.environments.Choice.{Choice}
use Rattle.ap_environments.specs.declared.environments.Entry.{Entry}
use Rattle.ap_environments.specs.declared.environments.Entry.TheVariants.{Call, Fork as Forking}
use Rattle.ap_environments.specs.declared.environments.Fork.{Fork}
use Rattle.ap_environments.specs.declared.environments.Frame.{Frame}
use Rattle.ap_environments.specs.declared.environments.Point.{Point}
use Rattle.ap_environments.specs.Kept.{Moment, Forked, Kept}

abbrev pub return_of : List ℕ → Frame → Return
return_of ss f = record { place = f.place; y = take f.count (drop f.first ss) }

-- the returns from each frame on, behind those of the frames before it
abbrev pub chains_from : List ℕ → List (List Return) → List Frame → List (List Return)
chains_from ss before [] = before
chains_from ss before (f ∷ fs) = chains_from ss (before ++ (return_of ss f ∷ slice_index_or before f.up []) ∷ []) fs

-- no return, and then those from each frame on
abbrev pub chains : List ℕ → List Frame → List (List Return)
chains ss fs = chains_from ss ([] ∷ []) fs

-- the returns from the n-th frame on, counted from 1
abbrev pub chain : List ℕ → List Frame → ℕ → List Return
chain ss fs n = slice_index_or (chains ss fs) n []

-- a choice point's arguments are the registers of a frame of its own
abbrev pub moment_of : Choice → List Return → Moment
moment_of c [] = record { choice = c; returns = []; arguments = [] }
moment_of c (w ∷ ws) = record { choice = c; returns = ws; arguments = w.y }

-- a fork's own frame has no registers
abbrev pub forked_of : Fork → List Return → List Moment → Forked
forked_of f [] ms = record { fork = f; returns = []; moments = ms }
forked_of f (w ∷ ws) ms = record { fork = f; returns = ws; moments = ms }

-- the choice points that are newer than the newest fork, and the forks
pub record Segments : Type 0 where
  pub moments : List Moment
  pub forks : List Forked

-- a fork ends a segment
abbrev pub put_entry : Entry → List Return → Segments → Segments
put_entry (Call c) ws s = record { moments = moment_of c ws ∷ s.moments; forks = s.forks }
put_entry (Forking f) ws s = record { moments = []; forks = forked_of f ws s.moments ∷ s.forks }

abbrev pub put_point : List ℕ → List Frame → Segments → Point → Segments
put_point ss fs s q = put_entry q.entry (chain ss fs q.frames) s

abbrev pub segments_from : List ℕ → List Frame → Segments → List Point → Segments
segments_from ss fs s [] = s
segments_from ss fs s (q ∷ qs) = segments_from ss fs (put_point ss fs s q) qs

abbrev pub segments : List ℕ → List Frame → List Point → Segments
segments ss fs qs = segments_from ss fs (record { moments = []; forks = [] }) qs

abbrev pub kept_of : List Return → Segments → Kept
kept_of ws s = record { returns = ws; moments = s.moments; forks = s.forks }

abbrev pub segments_in : Kept → Segments
segments_in k = record { moments = k.moments; forks = k.forks }

-- an entry whose choice names other clauses
abbrev pub with_place : ℕ → Option ℕ → Entry → Entry
with_place at behind (Call c) = Call (record c { place = at; behind = behind })
with_place at behind (Forking f) = Forking f

-- ---- how they lie

-- the registers lie one frame's behind another's, from a place to an end
abbrev pub Laid : ℕ → List Frame → ℕ → Type 0
Laid n [] end = n ≡ end
Laid n (f ∷ fs) end = (f.first ≡ n) × Laid (n + f.count) fs end

-- each frame leads to one before it, or to none
abbrev pub LeadUp : ℕ → List Frame → Type 0
LeadUp n [] = Unit {0}
LeadUp n (f ∷ fs) = (f.up ≤ n) × LeadUp (n + 1) fs

-- a later choice point or fork keeps no fewer frames, all of those that there are at most
abbrev pub Rising : ℕ → List Point → ℕ → Type 0
Rising n [] all = n ≤ all
Rising n (q ∷ qs) all = (n ≤ q.frames) × (0 < q.frames) × Rising q.frames qs all

pub record AreFrames (ss : List ℕ) (fs : List Frame) : Type 0 where
  pub end : ℕ
  pub laid : Laid 0 fs end
  pub within : end ≤ length ss
  pub up : LeadUp 0 fs
