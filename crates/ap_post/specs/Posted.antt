-- The goals of a worker's own that are out, by the number of their frame.
use Rattle.std.specs.Prelude.{ℕ, ◌==◌, if◌then◌else◌, List, [], ◌∷◌, Option, Some, None}
use Rattle.ap_instr.specs.Code.{Compiled}
use Rattle.ap_board.specs.declared.view.View.{View}
use Rattle.ap_desk.specs.declared.note.Note.{Note}
use Rattle.ap_desk.specs.Offered.{job_of}
use Rattle.ap_open.specs.Away.{Away}
use Rattle.ap_post.specs.declared.job.Job.{Job}
use Rattle.ap_post.specs.declared.outcome.Outcome.{Outcome}
use Rattle.ap_post.specs.Jobs.{key_of}

-- a goal that is out: its slot and its key, and the code that it is run by
pub record Posted : Type 0 where
  pub code : Compiled
  pub away : Away

abbrev pub posted_at : ℕ → Job → Posted
posted_at i j = record { code = j.sound.now; away = record { place = i; key = key_of j } }

abbrev pub also : ℕ → Option Job → List Posted → List Posted
also i None rest = rest
also i (Some j) rest = posted_at i j ∷ rest

-- those of that frame, the oldest first
abbrev pub posted : View Job Outcome → List Note → ℕ → List Posted
posted v [] f = []
posted v (n ∷ ns) f = if n.frame == f then also n.place (job_of v n) (posted v ns f) else posted v ns f
