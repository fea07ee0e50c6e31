-- The moves of a section's machine are events of the core.
use Rattle.ap_tied.specs.Reaching.{ReachingLaw, BeginningLaw}
use Rattle.ap_tied.proofs.Turned.{stays, goes-on, turns, comes, drops, begins}
use Rattle.ap_tied.proofs.Forks.{forks}
use Rattle.ap_tied.proofs.Plain.{goes-plain, is-cut}

pub beginning : BeginningLaw
beginning = record { tied = begins }

pub reaching : ReachingLaw
reaching = record { stays = stays; goes_on = goes-on; turns = turns; forks = forks; goes_plain = goes-plain; is_cut = is-cut; comes = comes; drops = drops }
