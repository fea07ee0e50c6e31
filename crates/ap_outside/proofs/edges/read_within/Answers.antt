use Rattle.std.proofs.Common.{◌<◌, ◌^◌, length, rules}
use Rattle.ap_outside.proofs.Readers.{all_within}
use Rattle.ap_outside.proofs.edges.read_within.Goals as goal

pub returns-in-Ok-clause-whole : goal.returns-in-Ok-clause-whole
returns-in-Ok-clause-whole g c =
    let short : length c.read_to_end.new.buf.items < 2 ^ 63 = search rules in
    λ _. all_within c.args.limit (g.R.Read.remaining c.args.reader) c.read_to_end.new.buf.items (search rules) (search rules) short
