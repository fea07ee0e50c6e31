-- Where the code of a clause ends.
use Rattle.std.specs.Prelude.{Bool, true, false}
use Rattle.ap_instr.specs.Step.{Step, execute, proceed}

-- whether nothing behind a step runs
abbrev pub ends : Step → Bool
ends (execute p n) = true
ends proceed = true
ends _ = false
