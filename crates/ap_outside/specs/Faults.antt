-- Counts of faults: what an answer that tells a fault shows.
use Rattle.std.specs.Prelude.{ℕ, ◌+◌, ◌-◌, ◌^◌, ◌≤◌, min}

-- the count rose, or stands at the greatest u64; it has not fallen
pub record Rises (before now : ℕ) : Type 0 where
  pub later : before ≤ now
  pub rose : min (before + 1) (2 ^ 64 - 1) ≤ now
