use Rattle.std.proofs.Common.{◌∙◌}
use Rattle.ap_top.proofs.PatternWords.{text-read}
use Rattle.ap_top.proofs.patterns.read_text.Goals as goal

pub returns-in-len1-clause-read : goal.returns-in-len1-clause-read
returns-in-len1-clause-read c =
    text-read c.args.text.now c.as_slice.result.now _ c.args.atoms.now (c.as_slice.ensures.value ∙ c.in-Ok.ensures.pieces) c.in-len1.len_at_least c.in-len1.len_below c.read_piece.result c.read_piece.ensures.read
