-- Queries for which a program is certified.
use Rattle.ap_certify.specs.Laws.{SafeLaw}
use Rattle.ap_certify.proofs.Strict.{strict}

pub safe : SafeLaw
safe c is goal within n unused d f k = strict f (is.given goal within n unused d f k)
