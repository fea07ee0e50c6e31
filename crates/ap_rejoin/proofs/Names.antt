-- A tuple that is the same up to names has the same instances.
pub use Rattle.ap_term.proofs.UpToNames.{instance-same}
