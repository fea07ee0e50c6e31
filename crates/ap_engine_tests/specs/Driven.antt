-- What a section that is driven by hand does at its frame.
use Rattle.std.specs.Prelude.{◌≡◌, true}
use Rattle.ap_frames.specs.Slots.{is_running}
use Rattle.ap_instr.specs.Code.{Compiled}
use Rattle.ap_tie.specs.Sections as seen
use Rattle.ap_section.specs.Ready.{IsReady}
use Rattle.ap_section.specs.Slots.{IsAtFrame, IsPlaceIn, told_of}
use Rattle.ap_engine_tests.specs.declared.next.Next.{Next}
use Rattle.ap_engine_tests.specs.declared.next.Next.TheVariants.{Run}

-- the slot that is run is noted to run, and its section is ready
abbrev pub IsNext : Compiled → seen.Section → Next → Type 0
IsNext code s (Run i inner) = IsAtFrame s × IsPlaceIn i s × (told_of is_running i s ≡ true) × IsReady code inner
IsNext code s _ = Unit {0}
