-- A section lends its newest frame.
use Rattle.std.specs.Prelude.{ℕ, ◌-◌, List, vec_len}
use Rattle.std.specs.Vec.{with_item}
use Rattle.ap_term.specs.Tree.{Trees}
use Rattle.ap_frames.specs.declared.frame.Frame.{Frame}
use Rattle.ap_section.specs.declared.section.Section.{Section, roll-Section, out-Section}

-- the oldest one first
abbrev pub frames_in : Section → List (Frame Section Trees)
frames_in s = (out-Section s).frames.items

abbrev pub count_in : Section → ℕ
count_in s = vec_len (out-Section s).frames

-- with another newest frame
abbrev pub with_newest : Section → Frame Section Trees → Section
with_newest s f = roll-Section (record (out-Section s) { frames = with_item (out-Section s).frames (vec_len (out-Section s).frames - 1) f })
