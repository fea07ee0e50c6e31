use Rattle.std.proofs.Common.{◌≡◌, length, rules}
use Rattle.ap_outside.proofs.Moves.{moved}
use Rattle.ap_outside.proofs.mem_source.SteadySourceSource.take.Goals as goal

pub returns-clause-bytes : goal.returns-clause-bytes
returns-clause-bytes c =
    let whole : c.len.result ≡ length c.args.self.now.bytes.items = search rules in
    let m = moved c.min-count.result c.args.self.now.at c.end_behind-end.result c.args.self.now.bytes.items c.args.buf.now c.copy_from_slice.new.self
    (rw c.deref-2.ensures.value at c.copy_from_slice.ensures.after) c.copy_from_slice.ensures.len c.min-count.ensures
    c.end_behind-end.ensures.from (rw whole at c.end_behind-end.ensures.to) (rw whole at c.end_behind-end.ensures.further) in
    (m.consumed, m.ended)
