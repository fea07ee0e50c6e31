use Rattle.std.proofs.Common.{◌≡◌, ◌++◌, length, map, take, drop, flat_map}
use Rattle.ap_outside.specs.Cuts.{ends_from}
use Rattle.ap_outside.proofs.mem_source.SteadySource.new.Given as goal

abbrev pub invariant-loop-piece : goal.invariant-loop-piece
invariant-loop-piece l = record {
  joined : l.bytes.items ≡ flat_map (λ p. p.now) (take l.piece-index l.pieces);
  cut : l.cuts.items ++ ends_from (length l.bytes.items) (map (λ p. p.now) (drop l.piece-index l.pieces)) ≡ ends_from 0 (map (λ p. p.now) l.pieces);
}
